-- One coordinate of a received point by itself.
use Rattle.std.specs.Prelude.{ℕ, ◌*◌, ℤ, pos, ◌-ℤ◌, ◌*ℤ◌, int_div, List, slice_set}
use Rattle.lte_bits.specs.declared.bit.Bit.{Bit}
use Rattle.lte_bits.specs.declared.bit.Bit.TheVariants.{Zero, One}
use Rattle.qam_points.specs.Constellation.{level}
use Rattle.qam_points.specs.Demapping.{least_over, square}

-- the square of the distance from the coordinate t to the level of bits that was sent with an amplitude
abbrev pub level_distance : (amp : ℕ) → (t : ℤ) → List Bit → ℤ
level_distance amp t bits = square (t -ℤ pos amp *ℤ level bits)

-- the least of them over the levels of n bits whose bit j is b
unfoldable pub coordinate_near : (n amp : ℕ) → (t : ℤ) → (j : ℕ) → Bit → ℤ
coordinate_near n amp t j b = least_over n (λ w. level_distance amp t (slice_set w j b))

-- the value of bit j of a coordinate of n bits
unfoldable pub coordinate_value : (n amp : ℕ) → (t : ℤ) → (j : ℕ) → ℤ
coordinate_value n amp t j =
    int_div (coordinate_near n amp t j One -ℤ coordinate_near n amp t j Zero) (pos (4 * amp))
