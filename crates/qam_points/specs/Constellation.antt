-- The points of 36.211, 7.1, without the factor that gives them a mean power of 1.
use Rattle.std.specs.Prelude.{◌≡◌, ℕ, ℤ, pos, negsuc, ◌-ℤ◌, ◌*ℤ◌, ◌*◌, ◌/◌, ◌⊎◌, List, [], ◌∷◌, length, map, take, drop}
use Rattle.std.specs.List.{range_with_len}
use Rattle.lte_bits.specs.Softs.{IsWithin}
use Rattle.lte_bits.specs.declared.bit.Bit.{Bit}
use Rattle.lte_bits.specs.declared.bit.Bit.TheVariants.{Zero, One}
use Rattle.qam_points.specs.declared.point.Point.{Point}

-- how many bits a point can have: 2 with QPSK, 4 with 16QAM, 6 with 64QAM
abbrev pub IsModulationOrder : ℕ → Type 0
IsModulationOrder qm = (qm ≡ 2) ⊎ (qm ≡ 4) ⊎ (qm ≡ 6)

-- 1 - 2b
abbrev pub sign : Bit → ℤ
sign Zero = pos 1
sign One = negsuc 0

-- the coordinate of its one, two or three bits
abbrev pub level : List Bit → ℤ
level (a ∷ []) = sign a
level (a ∷ b ∷ []) = sign a *ℤ (pos 2 -ℤ sign b)
level (a ∷ b ∷ c ∷ []) = sign a *ℤ (pos 4 -ℤ sign b *ℤ (pos 2 -ℤ sign c))
level _ = pos 0

-- the bits b0, b2, b4 of b0 to b5, which give the first coordinate
abbrev pub even_bits : List Bit → List Bit
even_bits [] = []
even_bits (a ∷ []) = a ∷ []
even_bits (a ∷ b ∷ bits) = a ∷ even_bits bits

-- the bits b1, b3, b5, which give the second
abbrev pub odd_bits : List Bit → List Bit
odd_bits [] = []
odd_bits (a ∷ []) = []
odd_bits (a ∷ b ∷ bits) = b ∷ odd_bits bits

-- the point of its bits
abbrev pub point : List Bit → Point
point bits = record { i = level (even_bits bits); q = level (odd_bits bits) }

-- both coordinates are from -7 to 7
abbrev pub IsSmall : Point → Type 0
IsSmall p = IsWithin 7 p.i × IsWithin 7 p.q

-- the bits of symbol s, of qm bits each
abbrev pub symbol : (qm : ℕ) → List Bit → (s : ℕ) → List Bit
symbol qm bits s = take qm (drop (qm * s) bits)

-- the points of all symbols
unfoldable pub mapped : (qm : ℕ) → List Bit → List Point
mapped qm bits = map (λ s. point (symbol qm bits s)) (range_with_len 0 (length bits / qm))
