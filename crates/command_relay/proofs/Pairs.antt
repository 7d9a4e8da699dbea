-- Points of two bits, which are sent as by themselves.
use Rattle.std.proofs.Common.{◌≡◌, ℕ, ◌%◌, ◌<◌, ℤ, pos, ◌+ℤ◌, ◌*ℤ◌, List, length, get_or, map, ap, ◌∙◌, arith}
use Rattle.std.specs.List.{range_with_len}
use Rattle.std.proofs.lemmas.Int.{ints}
use Rattle.std.proofs.lemmas.List.FromFn.{fill_by_all, get_or-map-range_with_len, length-map-range_with_len}
use Rattle.lte_bits.specs.Softs.{clamped}
use Rattle.lte_bits.specs.declared.bit.Bit.{Bit}
use Rattle.lte_bits.specs.declared.bit.Bit.TheVariants.{Zero, One}
use Rattle.soft_channel.specs.Noise.{Strength, Transmission, noise_term, noise_terms, noisy, noisy_value, sent}
use Rattle.qam_points.specs.Constellation.{sign}
use Rattle.qam_points.specs.Reception.{received, term_at, value_at}
use Rattle.qam_points.proofs.Receiving.{received-two}

amplified : (amp : ℕ) (b : Bit) → pos amp *ℤ sign b ≡ sent amp b
amplified amp Zero = omega (arith, ints)
amplified amp One = omega (arith, ints)

term_of : (noise : ℕ) (t : Transmission) (count i : ℕ) → i < count → term_at (noise_terms noise t count) i ≡ noise_term noise t i
unfolding noise_terms
term_of noise t count i h = get_or-map-range_with_len (noise_term noise t) 0 count i i (pos 0) h (omega arith)

value_of : (s : Strength) (t : Transmission) (bits : List Bit) (count i : ℕ) → i < count → value_at s.amp (noise_terms s.noise t count) bits i ≡ noisy_value s t bits i
value_of s t bits count i h =
    let b = get_or bits i Zero in
    ap (λ (z : ℤ). clamped 127 (z +ℤ term_at (noise_terms s.noise t count) i)) (amplified s.amp b)
    ∙ ap (λ (z : ℤ). clamped 127 (sent s.amp b +ℤ z)) (term_of s.noise t count i h)

pub as_by_themselves : (s : Strength) (t : Transmission) (bits : List Bit) (count : ℕ) → 0 < s.amp → length bits % 2 ≡ 0 → length bits ≡ count
    → received 2 s.amp (noise_terms s.noise t count) bits ≡ noisy s t bits
unfolding noisy
as_by_themselves s t bits count some even all =
    let n = length bits in
    let terms = noise_terms s.noise t count in
    received-two s.amp terms bits some even
    ∙ fill_by_all (noisy_value s t bits) (map (value_at s.amp terms bits) (range_with_len 0 n)) n (pos 0) (length-map-range_with_len (value_at s.amp terms bits) 0 n)
    (λ k h. get_or-map-range_with_len (value_at s.amp terms bits) 0 n k k (pos 0) h (omega arith) ∙ value_of s t bits count k (omega arith))
