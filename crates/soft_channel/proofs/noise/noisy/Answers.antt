use Rattle.std.proofs.Common.{◌++◌, ◌≡◌, ℕ, ℤ, ◌+◌, ◌*◌, ◌%◌, ◌/◌, ◌<◌, ◌≤◌, ◌^◌, pos, List, [], length, map, get_or, ap, sym, ◌∙◌, arith, rules}
use Rattle.std.specs.Prelude.{slice_index_or}
use Rattle.std.specs.List.{range_with_len}
use Rattle.std.proofs.lemmas.List.{get_or-drop, take_all}
use Rattle.std.proofs.lemmas.List.FromFn.{get_or-map-range_with_len}
use Rattle.lte_bits.specs.declared.bit.Bit.{Bit}
use Rattle.lte_bits.specs.declared.bit.Bit.TheVariants.{Zero}
use Rattle.soft_channel.specs.Noise.{Strength, Transmission, noise_draw, noise_term, noisy, noisy_value, received, term}
use Rattle.soft_channel.specs.Words.{word}
use Rattle.soft_channel.proofs.Drawing.{none_drawn, more_drawn, words_drawn, place_drawn}
use Rattle.soft_channel.proofs.Pieces.{chunk_mapped, chunk_more, chunk_value, length-chunk}
use Rattle.soft_channel.proofs.noise.noisy.Goals as goal

-- the soft values of a chunk's bits, of which the first has place i
chunk_values : (s : Strength) (t : Transmission) (bits chunk : List Bit) (terms : List ℤ) (i n k : ℕ) → k < n → n ≤ 64
    → get_or chunk k Zero ≡ get_or bits (i + k) Zero → terms ≡ map (λ (j : ℕ). noise_term s.noise t (i + j)) (range_with_len 0 64)
    → received s.amp (slice_index_or chunk k Zero) (slice_index_or terms k (pos 0)) ≡ noisy_value s t bits (i + k)
chunk_values s t bits chunk terms i n k below few same are =
    ap (λ (b : Bit). received s.amp b (get_or terms k (pos 0))) same
    ∙ ap (λ (z : ℤ). received s.amp (get_or bits (i + k) Zero) z)
    (ap (λ (zs : List ℤ). get_or zs k (pos 0)) are ∙ get_or-map-range_with_len (λ (j : ℕ). noise_term s.noise t (i + j)) 0 64 k k (pos 0) (omega arith) (omega arith))

pub loop-chunk-init : goal.loop-chunk-init
loop-chunk-init c =
    let t : Transmission = record { seed = c.args.seed; block = c.args.block; number = c.args.tx } in
    search (rules, none_drawn (noise_draw t))

pub next_words-requires : goal.next_words-requires
next_words-requires c =
    let t : Transmission = record { seed = c.args.seed; block = c.args.block; number = c.args.tx } in
    let at = place_drawn (noise_draw t) (64 * c.loop-chunk.chunk-index) c.loop-chunk.words c.loop-chunk.invariant.0 in
    let few : length c.args.bits.now < 2 ^ 64 = search rules in
    omega (arith, at, few, c.loop-chunk-test.true, c.as_chunks.ensures.front_len)

pub loop-chunk-preserved : goal.loop-chunk-preserved
loop-chunk-preserved c =
    let t : Transmission = record { seed = c.args.seed; block = c.args.block; number = c.args.tx } in
    let s : Strength = record { amp = c.args.amp; noise = c.args.noise } in
    let d = noise_draw t in
    let bits = c.args.bits.now in
    let chunks = c.as_chunks.result.0.now in
    let index : ℕ = c.loop-chunk.chunk-index in
    let i : ℕ = 64 * index in
    let chunk : List Bit = get_or chunks index [] in
    let below : index < length bits / 64 = omega (arith, c.loop-chunk-test.true, c.as_chunks.ensures.front_len) in
    let long : length chunk ≡ 64 = length-chunk 64 (length bits / 64) index bits chunks c.as_chunks.ensures.front below (omega (arith, below)) in
    let words = words_drawn d i 64 c.loop-chunk.words c.next_words.result c.loop-chunk.invariant.0 c.next_words.ensures.words in
    let terms = chunk_mapped (term c.args.noise) (λ (k : ℕ). word d (i + k)) 64 c.next_words.result c.terms_of-terms.result words c.terms_of-terms.ensures.value in
    let values = sym (take_all (length chunk) c.received_values.result (omega (arith, long))) ∙ c.received_values.ensures in (
      more_drawn d i 64 _ c.loop-chunk.words c.next_words.new.generator c.loop-chunk.invariant.0 c.next_words.ensures.after (omega arith),
      chunk_more (noisy_value s t bits) (λ (k : ℕ). received c.args.amp (slice_index_or chunk k Zero) (slice_index_or c.terms_of-terms.result k (pos 0)))
          c.loop-chunk.values.items c.extend_from_slice.new.self.items i (length chunk) _
          c.loop-chunk.invariant.1 (c.in_ok-extend_from_slice.ensures.items ∙ ap (λ (zs : List ℤ). c.loop-chunk.values.items ++ zs) values) (omega (arith, long))
          (λ k h. chunk_values s t bits chunk c.terms_of-terms.result i 64 k (omega (arith, h, long)) (omega arith)
          (chunk_value 64 (length bits / 64) index k bits chunks Zero c.as_chunks.ensures.front below (omega (arith, h, long))) terms),
    )

pub next_words-requires-2 : goal.next_words-requires-2
next_words-requires-2 c =
    let t : Transmission = record { seed = c.args.seed; block = c.args.block; number = c.args.tx } in
    let at = place_drawn (noise_draw t) (64 * c.loop-chunk.chunk-index) c.loop-chunk.words c.loop-chunk.invariant.0 in
    let few : length c.args.bits.now < 2 ^ 64 = search rules in
    omega (arith, at, few, c.loop-chunk.auto.chunk-index-end, c.as_chunks.ensures.front_len)

pub returns : goal.returns
unfolding noisy
returns c =
    let t : Transmission = record { seed = c.args.seed; block = c.args.block; number = c.args.tx } in
    let s : Strength = record { amp = c.args.amp; noise = c.args.noise } in
    let d = noise_draw t in
    let bits = c.args.bits.now in
    let last = c.as_chunks.result.1.now in
    let i : ℕ = 64 * c.loop-chunk.chunk-index in
    let all : c.loop-chunk.chunk-index ≡ length bits / 64 = omega (arith, c.loop-chunk-test.false, c.loop-chunk.auto.chunk-index-end, c.as_chunks.ensures.front_len) in
    let long : length last ≡ length bits % 64 = c.as_chunks.ensures.back_len in
    let words = words_drawn d i 64 c.loop-chunk.words c.next_words-2.result c.loop-chunk.invariant.0 c.next_words-2.ensures.words in
    let terms = chunk_mapped (term c.args.noise) (λ (k : ℕ). word d (i + k)) 64 c.next_words-2.result c.terms_of-terms-2.result words c.terms_of-terms-2.ensures.value in
    c.from_vec.ensures
    ∙ chunk_more (noisy_value s t bits) (λ (k : ℕ). received c.args.amp (slice_index_or last k Zero) (slice_index_or c.terms_of-terms-2.result k (pos 0)))
    c.loop-chunk.values.items c.extend_from_slice-2.new.self.items i (length last) (length bits)
    c.loop-chunk.invariant.1 (c.in_ok-extend_from_slice-2.ensures.items ∙ ap (λ (zs : List ℤ). c.loop-chunk.values.items ++ zs) c.received_values-2.ensures) (omega (arith, long, all))
    (λ k h. chunk_values s t bits last c.terms_of-terms-2.result i 64 k (omega (arith, h, long)) (omega arith)
    (ap (λ (xs : List Bit). get_or xs k Zero) c.as_chunks.ensures.back ∙ get_or-drop (length bits / 64 * 64) bits k Zero
    ∙ ap (λ m. get_or bits m Zero) (let e : length bits / 64 * 64 + k ≡ i + k = omega (arith, all) in e)) terms)
