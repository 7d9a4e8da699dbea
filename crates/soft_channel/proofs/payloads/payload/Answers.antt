use Rattle.std.proofs.Common.{ℕ, ◌+◌, ◌*◌, ◌%◌, List, ◌++◌, take, refl, ap, ◌∙◌, arith, rules}
use Rattle.std.proofs.lemmas.List.FromFn.{take-map-range_with_len}
use Rattle.soft_channel.specs.TrialPayload.{payload_draw, payload_byte, trial_payload}
use Rattle.soft_channel.specs.Words.{word}
use Rattle.soft_channel.proofs.Drawing.{none_drawn, more_drawn, words_drawn, place_drawn}
use Rattle.soft_channel.proofs.Pieces.{chunk_mapped, chunk_more}
use Rattle.soft_channel.proofs.payloads.payload.Goals as goal

pub loop-init : goal.loop-init
loop-init c = let d = payload_draw c.args.seed c.args.block in search (rules, none_drawn d)

pub next_words-requires : goal.next_words-requires
next_words-requires c =
    let at = place_drawn (payload_draw c.args.seed c.args.block) (64 * c.loop.counter) c.loop.words c.loop.invariant.0 in
    omega (arith, at, c.loop-test.true, c.ranges.length.fits)

pub loop-preserved : goal.loop-preserved
loop-preserved c =
    let d = payload_draw c.args.seed c.args.block in
    let f : (ℕ → ℕ) = payload_byte c.args.seed c.args.block in
    let i : ℕ = 64 * c.loop.counter in
    let words = words_drawn d i 64 c.loop.words c.next_words.result c.loop.invariant.0 c.next_words.ensures.words in
    let bytes = chunk_mapped (λ (w : ℕ). w % 256) (λ (k : ℕ). word d (i + k)) 64 c.next_words.result c.lowest_bytes.result words c.lowest_bytes.ensures in (
      more_drawn d i 64 _ c.loop.words c.next_words.new.generator c.loop.invariant.0 c.next_words.ensures.after (omega arith),
      chunk_more f (λ (k : ℕ). f (i + k)) c.loop.bytes.items c.extend_from_slice.new.self.items i 64 _ c.loop.invariant.1
          (c.in_ok-extend_from_slice.ensures.items ∙ ap (λ (ys : List ℕ). c.loop.bytes.items ++ ys) bytes) (omega arith) (λ k h. refl),
    )

pub next_words-requires-2 : goal.next_words-requires-2
next_words-requires-2 c =
    let at = place_drawn (payload_draw c.args.seed c.args.block) (64 * c.loop.counter) c.loop.words c.loop.invariant.0 in
    omega (arith, at, c.loop.auto.counter-end, c.ranges.length.fits)

pub returns : goal.returns
unfolding trial_payload
returns c =
    let d = payload_draw c.args.seed c.args.block in
    let f : (ℕ → ℕ) = payload_byte c.args.seed c.args.block in
    let i : ℕ = 64 * c.loop.counter in
    let n : ℕ = c.args.length % 64 in
    let g : (ℕ → ℕ) = λ (k : ℕ). f (i + k) in
    let words = words_drawn d i 64 c.loop.words c.next_words-2.result c.loop.invariant.0 c.next_words-2.ensures.words in
    let bytes = chunk_mapped (λ (w : ℕ). w % 256) (λ (k : ℕ). word d (i + k)) 64 c.next_words-2.result c.lowest_bytes-2.result words c.lowest_bytes-2.ensures in
    c.from_vec.ensures
    ∙ chunk_more f g c.loop.bytes.items c.extend_from_slice-2.new.self.items i n c.args.length c.loop.invariant.1
    (c.in_ok-extend_from_slice-2.ensures.items ∙ ap (λ (ys : List ℕ). c.loop.bytes.items ++ ys) (ap (take n) bytes ∙ take-map-range_with_len g 0 64 n (omega arith)))
    (omega (arith, c.loop-test.false, c.loop.auto.counter-end)) (λ k h. refl)
