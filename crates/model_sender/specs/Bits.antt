-- Words on bits and whole numbers that the definitions share.
use Rattle.std.specs.Prelude.{ℕ, List, [], ◌∷◌, fold, min, max, slice_index_or}
use Rattle.lte_bits.specs.declared.bit.Bit.{Bit}
use Rattle.lte_bits.specs.declared.bit.Bit.TheVariants.{Zero, One}

-- the sum modulo 2
abbrev pub plus : Bit → Bit → Bit
plus Zero b = b
plus One Zero = One
plus One One = Zero

-- the bit at a place, and Zero past the end
abbrev pub at : List Bit → ℕ → Bit
at bits k = slice_index_or bits k Zero

abbrev pub least : List ℕ → ℕ
least [] = 0
least (x ∷ xs) = fold min x xs

abbrev pub greatest : List ℕ → ℕ
greatest [] = 0
greatest (x ∷ xs) = fold max x xs
