-- Small numbers, and their sums.
use Rattle.std.proofs.Common.{◌≡◌, ℕ, ◌+◌, ◌≤◌, ℤ, ◌+ℤ◌, arith}
use Rattle.std.proofs.lemmas.Int.{ints}
use Rattle.lte_bits.specs.Softs.{IsWithin}
use Rattle.lte_bits.specs.declared.bit.Bit.{Bit}
use Rattle.lte_bits.specs.declared.bit.Bit.TheVariants.{Zero, One}
use Rattle.model_receiver.specs.Borders.{if_zero}

pub within-if_zero : (b : Bit) (n : ℕ) (v : ℤ) → IsWithin n v → IsWithin n (if_zero b v)
within-if_zero Zero n v h = h
within-if_zero One n v h = (omega (arith, ints), omega (arith, ints))

pub within-sum : (m n : ℕ) (x y : ℤ) → IsWithin m x → IsWithin n y → IsWithin (m + n) (x +ℤ y)
within-sum m n x y h k = (omega (arith, ints), omega (arith, ints))

pub within-more : (m n : ℕ) (x : ℤ) → m ≤ n → IsWithin m x → IsWithin n x
within-more m n x le h = (omega (arith, ints), omega (arith, ints))

pub within-same : (n : ℕ) (x y : ℤ) → x ≡ y → IsWithin n y → IsWithin n x
within-same n x y e h = (omega (arith, ints), omega (arith, ints))
