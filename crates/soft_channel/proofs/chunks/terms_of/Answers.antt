use Rattle.std.proofs.Common.{◌≢◌, ◌<◌, ℕ, pos, length, get_or-set_other, get_or-set_same, below_more, ◌∙◌, arith}
use Rattle.std.proofs.lemmas.List.{length-set}
use Rattle.std.proofs.lemmas.List.Elements.{All-from_get_or}
use Rattle.lte_bits.specs.Softs.{IsWithin}
use Rattle.soft_channel.specs.Noise.{term}
use Rattle.soft_channel.proofs.Pieces.{mapped}
use Rattle.soft_channel.proofs.Quotients.{cast}
use Rattle.soft_channel.proofs.chunks.terms_of.Goals as goal

pub loop-i-preserved : goal.loop-i-preserved
loop-i-preserved c =
    let i : ℕ = c.loop-i.i in
    let terms = c.loop-i.terms in
    let kept = cast c.term.result c.term.ensures.range in
    let inside : i < length terms = omega (arith, c.loop-i.invariant.0, c.loop-i-test.true) in (
      length-set terms i _ ∙ c.loop-i.invariant.0,
      below_more _ _
          (λ k h. let ne : k ≢ i = omega (arith, h) in rw get_or-set_other (c.loop-i.invariant.1 k h))
          (rw get_or-set_same (kept ∙ c.term.ensures.value)),
      below_more _ _
          (λ k h. let ne : k ≢ i = omega (arith, h) in rw get_or-set_other (c.loop-i.invariant.2 k h))
          (rw (get_or-set_same, kept) c.term.ensures.range),
    )

pub returns-clause-value : goal.returns-clause-value
returns-clause-value c =
    mapped (term c.args.noise) c.args.words.now c.loop-i.terms 64 0 (pos 0) (omega (arith, c.loop-i.auto)) c.loop-i.invariant.0
    (λ k h. c.loop-i.invariant.1 k (omega arith))

pub returns-clause-range : goal.returns-clause-range
returns-clause-range c =
    All-from_get_or (IsWithin 437) c.loop-i.terms (pos 0) (λ k h. c.loop-i.invariant.2 k (omega (arith, c.loop-i.invariant.0)))
