use Rattle.std.proofs.Common.{List, [], ◌∷◌, ◌++◌, ℕ, sym, ap, ◌∙◌, arith}
use Rattle.rate_match.proofs.SizeSteps.{size-step}
use Rattle.gomzelat_c.specs.Stages.{spot_number, spots_to}
use Rattle.gomzelat_c.proofs.OneBlock.{spot_small, spots_more}
use Rattle.gomzelat_c.proofs.numbers.spots_of.Goals as goal

pub overflow_add-k : goal.overflow_add-k
overflow_add-k c = omega (arith, (size-step c.args.k c.requires.size).few)

pub overflow_mul-places : goal.overflow_mul-places
overflow_mul-places c = omega (arith, (size-step c.args.k c.requires.size).few, c.div_ceil-places.ensures)

pub number_of_spot-requires : goal.number_of_spot-requires
number_of_spot-requires c = spot_small c.args.k c.spot.result (size-step c.args.k c.requires.size).few c.spot.ensures.inside

pub loop-n-preserved : goal.loop-n-preserved
loop-n-preserved c =
    let k = c.args.k in
    let fill = c.args.fill in
    c.in_ok-push.ensures.items
    ∙ ap (λ (xs : List ℕ). xs ++ c.number_of_spot.result ∷ []) c.loop-n.invariant
    ∙ ap (λ (n : ℕ). spots_to k fill c.loop-n.n ++ n ∷ []) (c.number_of_spot.ensures ∙ ap spot_number c.spot.ensures.spot)
    ∙ sym (spots_more k fill c.loop-n.n)
