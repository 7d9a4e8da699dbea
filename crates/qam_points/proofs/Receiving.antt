-- Transmissions that were sent as points.
use Rattle.std.proofs.Common.{◌≡◌, ℕ, zero, suc, ◌+◌, ◌*◌, ◌/◌, ◌%◌, ◌<◌, ◌≤◌, ℤ, pos, ◌+ℤ◌, ◌*ℤ◌, List, [], ◌∷◌, ◌++◌, length, get_or, take, map, refl, ap, sym, subst, ◌∙◌, inl, inr, arith, length-append}
use Rattle.std.specs.Prelude.{All, flat_map, unsigned_abs}
use Rattle.std.specs.List.{range_with_len}
use Rattle.std.proofs.lemmas.Int.{ints, unsigned_abs-mul}
use Rattle.std.proofs.lemmas.List.{append_assoc, drop_more, get_or_past}
use Rattle.std.proofs.lemmas.List.Elements.{All-map}
use Rattle.std.proofs.lemmas.Bool.{cases_lt}
use Rattle.std.proofs.lemmas.Nat.{div-add-mod'}
use native.Mathlib.Nat.{mul-le-mul}
use Rattle.std.proofs.lemmas.List.Concat.{flat_map-append}
use Rattle.std.proofs.lemmas.List.FromFn.{get_or-map-range_with_len, length-map-range_with_len, map-range_with_len_more}
use Rattle.lte_bits.specs.Softs.{IsWithin, clamped}
use Rattle.lte_bits.specs.declared.bit.Bit.{Bit}
use Rattle.lte_bits.specs.declared.bit.Bit.TheVariants.{Zero, One}
use Rattle.qam_points.specs.Constellation.{IsSmall, even_bits, level, mapped, odd_bits, point, sign, symbol}
use Rattle.qam_points.specs.Demapping.{IsNearby, demapped, soft_value, soft_values}
use Rattle.qam_points.specs.Reception.{received, received_point, received_points, sent_point, term_at, value_at}
use Rattle.qam_points.specs.declared.point.Point.{Point}
use Rattle.qam_points.proofs.Coordinates.{soft_value-first, soft_value-second}
use Rattle.qam_points.proofs.Signs.{value_of_one}

-- ---- lengths

pub length-mapped : (qm : ℕ) (bits : List Bit) → length (mapped qm bits) ≡ length bits / qm
unfolding mapped
length-mapped qm bits = length-map-range_with_len (λ s. point (symbol qm bits s)) 0 (length bits / qm)

-- ---- two bits a point

soft_values_of_two : (amp : ℕ) (y : Point) → 0 < amp → soft_values 2 amp y ≡ clamped 127 y.i ∷ clamped 127 y.q ∷ []
unfolding soft_values
soft_values_of_two amp y some =
    let a : soft_value 2 amp y 0 ≡ clamped 127 y.i = soft_value-first 1 amp y 0 (omega arith) ∙ ap (clamped 127) (value_of_one amp y.i some) in
    let b : soft_value 2 amp y 1 ≡ clamped 127 y.q = soft_value-second 1 amp y 0 (omega arith) ∙ ap (clamped 127) (value_of_one amp y.q some) in
    cc

symbol_of_two : (bits : List Bit) (s : ℕ) → 2 * s + 1 < length bits → symbol 2 bits s ≡ get_or bits (2 * s) Zero ∷ get_or bits (2 * s + 1) Zero ∷ []
symbol_of_two bits s h =
    ap (take 2) (drop_more bits (2 * s) Zero (omega arith) ∙ ap (λ x. get_or bits (2 * s) Zero ∷ x) (drop_more bits (2 * s + 1) Zero h))

symbol_received : (amp : ℕ) (terms : List ℤ) (bits : List Bit) (s : ℕ) → 0 < amp → s < length bits / 2
    → soft_values 2 amp (received_point amp terms (mapped 2 bits) s) ≡ value_at amp terms bits (2 * s) ∷ value_at amp terms bits (2 * s + 1) ∷ []
unfolding mapped
symbol_received amp terms bits s some h =
    let e : sent_point (mapped 2 bits) s ≡ point (get_or bits (2 * s) Zero ∷ get_or bits (2 * s + 1) Zero ∷ []) =
    get_or-map-range_with_len (λ k. point (symbol 2 bits k)) 0 (length bits / 2) s s (record { i = pos 0; q = pos 0 }) h (omega arith)
    ∙ ap point (symbol_of_two bits s (omega arith)) in
    soft_values_of_two amp (received_point amp terms (mapped 2 bits) s) some
    ∙ ap (λ (p : Point). clamped 127 (pos amp *ℤ p.i +ℤ term_at terms (2 * s)) ∷ clamped 127 (pos amp *ℤ p.q +ℤ term_at terms (2 * s + 1)) ∷ []) e

two_more : {X : Type 0} (g : ℕ → X) (n : ℕ) → map g (range_with_len 0 (2 * (n + 1))) ≡ map g (range_with_len 0 (2 * n)) ++ (g (2 * n) ∷ g (2 * n + 1) ∷ [])
two_more g n =
    ap (λ (k : ℕ). map g (range_with_len 0 k)) (let e : 2 * (n + 1) ≡ 2 * n + 1 + 1 = omega arith in e)
    ∙ (map-range_with_len_more g 0 (2 * n + 1) (2 * n + 1) (omega arith)
    ∙ (ap (λ x. x ++ g (2 * n + 1) ∷ []) (map-range_with_len_more g 0 (2 * n) (2 * n) (omega arith))
    ∙ append_assoc (map g (range_with_len 0 (2 * n))) (g (2 * n) ∷ []) (g (2 * n + 1) ∷ [])))

-- pairs, one after the other
in_pairs : {X Y : Type 0} (F : X → List Y) (R : ℕ → X) (g : ℕ → Y) (count n : ℕ) → ((s : ℕ) → s < count → F (R s) ≡ g (2 * s) ∷ g (2 * s + 1) ∷ []) → n ≤ count
    → flat_map F (map R (range_with_len 0 n)) ≡ map g (range_with_len 0 (2 * n))
in_pairs F R g count zero pairs h = refl
in_pairs F R g count (suc n) pairs h =
    let one : suc n ≡ n + 1 = omega arith in
    let here : F (R n) ++ [] ≡ g (2 * n) ∷ g (2 * n + 1) ∷ [] = ap (λ x. x ++ []) (pairs n (omega arith)) in
    ap (λ (k : ℕ). flat_map F (map R (range_with_len 0 k))) one
    ∙ (ap (flat_map F) (map-range_with_len_more R 0 n n (omega arith))
    ∙ (flat_map-append F (map R (range_with_len 0 n)) (R n ∷ [])
    ∙ (ap (λ x. x ++ (F (R n) ++ [])) (in_pairs F R g count n pairs (omega arith))
    ∙ (ap (λ x. map g (range_with_len 0 (2 * n)) ++ x) here
    ∙ (sym (two_more g n) ∙ ap (λ (k : ℕ). map g (range_with_len 0 (2 * k))) (sym one))))))

pub received-two : (amp : ℕ) (terms : List ℤ) (bits : List Bit) → 0 < amp → length bits % 2 ≡ 0 → received 2 amp terms bits ≡ map (value_at amp terms bits) (range_with_len 0 (length bits))
unfolding received
received-two amp terms bits some even =
    let count = length bits / 2 in
    ap (λ (k : ℕ). flat_map (soft_values 2 amp) (map (received_point amp terms (mapped 2 bits)) (range_with_len 0 k))) (length-mapped 2 bits)
    ∙ (in_pairs (soft_values 2 amp) (received_point amp terms (mapped 2 bits)) (value_at amp terms bits) count count
    (λ s h. symbol_received amp terms bits s some h) (omega arith)
    ∙ ap (λ (k : ℕ). map (value_at amp terms bits) (range_with_len 0 k)) (let e : 2 * count ≡ length bits = omega arith in e))

-- ---- coordinates are small

pub level-small : (x : List Bit) → IsWithin 7 (level x)
level-small [] = (omega (arith, ints), omega (arith, ints))
level-small (Zero ∷ []) = (omega (arith, ints), omega (arith, ints))
level-small (One ∷ []) = (omega (arith, ints), omega (arith, ints))
level-small (Zero ∷ Zero ∷ []) = (omega (arith, ints), omega (arith, ints))
level-small (Zero ∷ One ∷ []) = (omega (arith, ints), omega (arith, ints))
level-small (One ∷ Zero ∷ []) = (omega (arith, ints), omega (arith, ints))
level-small (One ∷ One ∷ []) = (omega (arith, ints), omega (arith, ints))
level-small (Zero ∷ Zero ∷ Zero ∷ []) = (omega (arith, ints), omega (arith, ints))
level-small (Zero ∷ Zero ∷ One ∷ []) = (omega (arith, ints), omega (arith, ints))
level-small (Zero ∷ One ∷ Zero ∷ []) = (omega (arith, ints), omega (arith, ints))
level-small (Zero ∷ One ∷ One ∷ []) = (omega (arith, ints), omega (arith, ints))
level-small (One ∷ Zero ∷ Zero ∷ []) = (omega (arith, ints), omega (arith, ints))
level-small (One ∷ Zero ∷ One ∷ []) = (omega (arith, ints), omega (arith, ints))
level-small (One ∷ One ∷ Zero ∷ []) = (omega (arith, ints), omega (arith, ints))
level-small (One ∷ One ∷ One ∷ []) = (omega (arith, ints), omega (arith, ints))
level-small (a ∷ b ∷ c ∷ d ∷ x) = (omega (arith, ints), omega (arith, ints))

pub mapped-small : (qm : ℕ) (bits : List Bit) → All IsSmall (mapped qm bits)
unfolding mapped
mapped-small qm bits =
    All-map IsSmall (λ s. point (symbol qm bits s)) (range_with_len 0 (length bits / qm))
    (λ k d h. let x = symbol qm bits (get_or (range_with_len 0 (length bits / qm)) k d) in (level-small (even_bits x), level-small (odd_bits x)))

amplified : (amp : ℕ) (l x : ℤ) → amp ≤ 127 → IsWithin 7 l → IsWithin 437 x → IsWithin 4000 (pos amp *ℤ l +ℤ x)
amplified amp l x few small near =
    let size : unsigned_abs l ≤ 7 = omega (arith, ints) in
    let product = unsigned_abs-mul (pos amp) l in
    let bound = mul-le-mul few size in
    (omega (arith, ints), omega (arith, ints))

term-small : (terms : List ℤ) (n : ℕ) → All (IsWithin 437) terms → IsWithin 437 (term_at terms n)
term-small terms n all =
    elim (cases_lt n (length terms)) [
      | inl inside ↦ all n (pos 0) inside
      | inr past ↦ subst (IsWithin 437) (sym (get_or_past terms n (pos 0) past)) (omega (arith, ints), omega (arith, ints))
    ]

sent_point-small : (points : List Point) (s : ℕ) → All IsSmall points → IsSmall (sent_point points s)
sent_point-small points s all =
    elim (cases_lt s (length points)) [
      | inl inside ↦ all s (record { i = pos 0; q = pos 0 }) inside
      | inr past ↦
          subst IsSmall (sym (get_or_past points s (record { i = pos 0; q = pos 0 }) past))
          ((omega (arith, ints), omega (arith, ints)), (omega (arith, ints), omega (arith, ints)))
    ]

-- what is received of small points is near enough to be demapped
pub received_points-nearby : (amp : ℕ) (terms : List ℤ) (points : List Point) → amp ≤ 127 → All (IsWithin 437) terms → All IsSmall points → All IsNearby (received_points amp terms points)
received_points-nearby amp terms points few near small =
    All-map IsNearby (received_point amp terms points) (range_with_len 0 (length points))
    (λ k d h.
    let s = get_or (range_with_len 0 (length points)) k d in
    let p = sent_point-small points s small in (
      amplified amp (sent_point points s).i (term_at terms (2 * s)) few p.0 (term-small terms (2 * s) near),
      amplified amp (sent_point points s).q (term_at terms (2 * s + 1)) few p.1 (term-small terms (2 * s + 1) near),
    ))

-- ---- as many soft values as bits

length-demapped : (qm amp : ℕ) (ys : List Point) → length (demapped qm amp ys) ≡ qm * length ys
unfolding soft_values
length-demapped qm amp [] = omega arith
length-demapped qm amp (y ∷ ys) =
    length-append (map (soft_value qm amp y) (range_with_len 0 qm)) (demapped qm amp ys)
    ∙ (let here = length-map-range_with_len (soft_value qm amp y) 0 qm in
    let rest = length-demapped qm amp ys in
    omega arith)

pub length-received : (qm amp : ℕ) (terms : List ℤ) (bits : List Bit) → length bits % qm ≡ 0 → length (received qm amp terms bits) ≡ length bits
unfolding received
length-received qm amp terms bits whole =
    length-demapped qm amp (received_points amp terms (mapped qm bits))
    ∙ (ap (λ (n : ℕ). qm * n) (length-map-range_with_len (received_point amp terms (mapped qm bits)) 0 (length (mapped qm bits)) ∙ length-mapped qm bits)
    ∙ (let e : qm * (length bits / qm) ≡ length bits = omega (arith, div-add-mod' (length bits) qm) in e))
