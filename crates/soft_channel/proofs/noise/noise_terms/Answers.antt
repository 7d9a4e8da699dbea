use Rattle.std.proofs.Common.{◌≡◌, ℕ, ℤ, ◌+◌, ◌*◌, ◌%◌, List, ◌++◌, take, refl, ap, sym, subst, ◌∙◌, arith, rules}
use Rattle.std.specs.Prelude.{All}
use Rattle.std.proofs.lemmas.List.Elements.{All-append, All-nil, All-take}
use Rattle.std.proofs.lemmas.List.FromFn.{take-map-range_with_len}
use Rattle.lte_bits.specs.Softs.{IsWithin}
use Rattle.soft_channel.specs.Noise.{Transmission, noise_draw, noise_term, noise_terms, term}
use Rattle.soft_channel.specs.Words.{word}
use Rattle.soft_channel.proofs.Drawing.{none_drawn, more_drawn, words_drawn, place_drawn}
use Rattle.soft_channel.proofs.Pieces.{chunk_mapped, chunk_more}
use Rattle.soft_channel.proofs.noise.noise_terms.Goals as goal

more_near : (old new terms : List ℤ) → new ≡ old ++ terms → All (IsWithin 437) old → All (IsWithin 437) terms → All (IsWithin 437) new
more_near old new terms push all near = subst (All (IsWithin 437)) (sym push) (All-append (IsWithin 437) old terms all near)

pub loop-init : goal.loop-init
loop-init c =
    let t : Transmission = record { seed = c.args.seed; block = c.args.block; number = c.args.tx } in
    search (rules, none_drawn (noise_draw t), All-nil (IsWithin 437))

pub next_words-requires : goal.next_words-requires
next_words-requires c =
    let t : Transmission = record { seed = c.args.seed; block = c.args.block; number = c.args.tx } in
    let at = place_drawn (noise_draw t) (64 * c.loop.counter) c.loop.words c.loop.invariant.0 in
    omega (arith, at, c.loop-test.true, c.ranges.count.fits)

pub loop-preserved : goal.loop-preserved
loop-preserved c =
    let t : Transmission = record { seed = c.args.seed; block = c.args.block; number = c.args.tx } in
    let d = noise_draw t in
    let i : ℕ = 64 * c.loop.counter in
    let words = words_drawn d i 64 c.loop.words c.next_words.result c.loop.invariant.0 c.next_words.ensures.words in
    let terms = chunk_mapped (term c.args.noise) (λ (k : ℕ). word d (i + k)) 64 c.next_words.result c.terms_of.result words c.terms_of.ensures.value in (
      more_drawn d i 64 _ c.loop.words c.next_words.new.generator c.loop.invariant.0 c.next_words.ensures.after (omega arith),
      chunk_more (noise_term c.args.noise t) (λ (k : ℕ). noise_term c.args.noise t (i + k)) c.loop.terms.items c.extend_from_slice.new.self.items i 64 _ c.loop.invariant.1
          (c.in_ok-extend_from_slice.ensures.items ∙ ap (λ (ys : List ℤ). c.loop.terms.items ++ ys) terms) (omega arith) (λ k h. refl),
      more_near c.loop.terms.items c.extend_from_slice.new.self.items c.terms_of.result c.in_ok-extend_from_slice.ensures.items c.loop.invariant.2 c.terms_of.ensures.range,
    )

pub next_words-requires-2 : goal.next_words-requires-2
next_words-requires-2 c =
    let t : Transmission = record { seed = c.args.seed; block = c.args.block; number = c.args.tx } in
    let at = place_drawn (noise_draw t) (64 * c.loop.counter) c.loop.words c.loop.invariant.0 in
    omega (arith, at, c.loop.auto.counter-end, c.ranges.count.fits)

pub returns-clause-value : goal.returns-clause-value
unfolding noise_terms
returns-clause-value c =
    let t : Transmission = record { seed = c.args.seed; block = c.args.block; number = c.args.tx } in
    let d = noise_draw t in
    let i : ℕ = 64 * c.loop.counter in
    let n : ℕ = c.args.count % 64 in
    let g : (ℕ → ℤ) = λ (k : ℕ). noise_term c.args.noise t (i + k) in
    let words = words_drawn d i 64 c.loop.words c.next_words-2.result c.loop.invariant.0 c.next_words-2.ensures.words in
    let terms = chunk_mapped (term c.args.noise) (λ (k : ℕ). word d (i + k)) 64 c.next_words-2.result c.terms_of-2.result words c.terms_of-2.ensures.value in
    c.from_vec.ensures
    ∙ chunk_more (noise_term c.args.noise t) g c.loop.terms.items c.extend_from_slice-2.new.self.items i n c.args.count c.loop.invariant.1
    (c.in_ok-extend_from_slice-2.ensures.items ∙ ap (λ (ys : List ℤ). c.loop.terms.items ++ ys) (ap (take n) terms ∙ take-map-range_with_len g 0 64 n (omega arith)))
    (omega (arith, c.loop-test.false, c.loop.auto.counter-end)) (λ k h. refl)

pub returns-clause-range : goal.returns-clause-range
returns-clause-range c =
    subst (All (IsWithin 437)) (sym c.from_vec.ensures)
    (more_near c.loop.terms.items c.extend_from_slice-2.new.self.items (take (c.args.count % 64) c.terms_of-2.result) c.in_ok-extend_from_slice-2.ensures.items c.loop.invariant.2
    (All-take (IsWithin 437) (c.args.count % 64) c.terms_of-2.result c.terms_of-2.ensures.range))
