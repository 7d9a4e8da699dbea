-- Soft values of a received point: this project's own, by the nearest points (max-log).
use Rattle.std.specs.Prelude.{◌≡◌, ℕ, zero, suc, ◌*◌, ℤ, pos, ◌+ℤ◌, ◌-ℤ◌, ◌*ℤ◌, ◌≤ℤ◌, int_div, List, [], ◌∷◌, length, map, flat_map, slice_index_or, slice_set}
use Rattle.std.specs.List.{range_with_len}
use Rattle.std.specs.Int.{int_min}
use Rattle.lte_bits.specs.Softs.{IsWithin, clamped}
use Rattle.lte_bits.specs.declared.bit.Bit.{Bit}
use Rattle.lte_bits.specs.declared.bit.Bit.TheVariants.{Zero, One}
use Rattle.qam_points.specs.Constellation.{point}
use Rattle.qam_points.specs.declared.point.Point.{Point}

-- both coordinates are from -4000 to 4000
abbrev pub IsNearby : Point → Type 0
IsNearby y = IsWithin 4000 y.i × IsWithin 4000 y.q

abbrev pub square : ℤ → ℤ
square z = z *ℤ z

-- the squared distance from y to the point x that was sent with an amplitude
abbrev pub distance : (amp : ℕ) → (y x : Point) → ℤ
distance amp y x = square (y.i -ℤ pos amp *ℤ x.i) +ℤ square (y.q -ℤ pos amp *ℤ x.q)

-- m is the value of some allowed x, and no allowed x has a smaller one
pub record IsLeast {X : Type 0} (Allowed : X → Type 0) (value : X → ℤ) (m : ℤ) : Type 0 where
  pub attained : (x : X) × Allowed x × (value x ≡ m)
  pub bound : (x : X) → Allowed x → m ≤ℤ value x

-- m is the least squared distance from y to a point of qm bits whose bit i is b
abbrev pub IsNear : (qm amp : ℕ) → Point → (i : ℕ) → Bit → ℤ → Type 0
IsNear qm amp y i b m =
    IsLeast (λ (x : List Bit). (length x ≡ qm) × (slice_index_or x i Zero ≡ b))
    (λ x. distance amp y (point x)) m

-- the least value over all lists of n bits
abbrev pub least_over : (n : ℕ) → (List Bit → ℤ) → ℤ
least_over zero value = value []
least_over (suc n) value = int_min (least_over n (λ x. value (Zero ∷ x))) (least_over n (λ x. value (One ∷ x)))

-- the least squared distance from y to one of the 2^qm points whose bit i is b: over all lists of qm bits,
-- with b put at place i; the law `near_is_the_least` ties it to `IsNear`
unfoldable pub near : (qm amp : ℕ) → Point → (i : ℕ) → Bit → ℤ
near qm amp y i b = least_over qm (λ x. distance amp y (point (slice_set x i b)))

-- the soft value of bit i, rounded toward zero and clamped
unfoldable pub soft_value : (qm amp : ℕ) → Point → (i : ℕ) → ℤ
soft_value qm amp y i =
    clamped 127 (int_div (near qm amp y i One -ℤ near qm amp y i Zero) (pos (4 * amp)))

-- those of all bits of a point
unfoldable pub soft_values : (qm amp : ℕ) → Point → List ℤ
soft_values qm amp y = map (soft_value qm amp y) (range_with_len 0 qm)

-- those of all points
abbrev pub demapped : (qm amp : ℕ) → List Point → List ℤ
demapped qm amp ys = flat_map (soft_values qm amp) ys
