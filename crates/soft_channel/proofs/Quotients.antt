-- The noise's term: a product, and a quotient.
use Rattle.std.proofs.Common.{◌≡◌, ◌≤◌, ℕ, ℤ, pos, negsuc, ◌*ℤ◌, ap, ◌∙◌, FitsSigned, to_z, of_z, w16, w32, arith}
use Rattle.std.specs.Prelude.{int_div, unsigned_abs}
use Rattle.std.proofs.lemmas.Int.{ints, to_z-of_z, fits_signed_mul, unsigned_abs-mul}
use native.Mathlib.Nat.{mul-le-mul}
use Rattle.lte_bits.specs.Softs.{IsWithin}

size : (d : ℤ) → IsWithin 510 d → unsigned_abs d ≤ 510
size d near = omega (arith, ints)

-- a product as the code has it
abbrev pub product : (b d : ℤ) → ℤ
product b d = to_z w32 (of_z w32 b) *ℤ to_z w32 (of_z w32 d)

pub product-is : (b d : ℤ) (n : ℕ) → b ≡ pos n → n ≤ 127 → IsWithin 510 d → product b d ≡ pos n *ℤ d
product-is b d n e few near =
    ap (λ (x : ℤ). x *ℤ to_z w32 (of_z w32 d)) (let f : to_z w32 (of_z w32 b) ≡ pos n = omega (arith, ints) in f)
    ∙ ap (λ (x : ℤ). pos n *ℤ x) (let f : to_z w32 (of_z w32 d) ≡ d = omega (arith, ints) in f)

fits : (d : ℤ) (n : ℕ) → n ≤ 127 → IsWithin 510 d → FitsSigned w32 (pos n *ℤ d)
fits d n few near = fits_signed_mul w32 (pos n) d 127 510 few (size d near) (omega arith)

pub product-fits : (b d : ℤ) (n : ℕ) → b ≡ pos n → n ≤ 127 → IsWithin 510 d → FitsSigned w32 (product b d)
product-fits b d n e few near = rw (product-is b d n e few near) (fits d n few near)

-- the product in 32 bits
pub product-cast : (b d : ℤ) (n : ℕ) → b ≡ pos n → n ≤ 127 → IsWithin 510 d → to_z w32 (of_z w32 (product b d)) ≡ pos n *ℤ d
product-cast b d n e few near =
    ap (λ (x : ℤ). to_z w32 (of_z w32 x)) (product-is b d n e few near) ∙ to_z-of_z w32 (pos n *ℤ d) (fits d n few near)

pub small-product : (d : ℤ) (n : ℕ) → n ≤ 127 → IsWithin 510 d → IsWithin 64770 (pos n *ℤ d)
small-product d n few near = omega (arith, ints, unsigned_abs-mul (pos n) d, mul-le-mul few (size d near))

-- a quotient is near to 0
pub small_quotient : (z : ℤ) → IsWithin 64770 z → IsWithin 437 (int_div z (pos 148))
small_quotient (pos n) h = omega (arith, ints)
small_quotient (negsuc n) h = omega (arith, ints)

cast-32 : (q : ℤ) → IsWithin 64770 q → to_z w32 (of_z w32 q) ≡ q
cast-32 q h = omega (arith, ints)

wider : (q : ℤ) → IsWithin 437 q → IsWithin 64770 q
wider q h = omega (arith, ints)

-- the quotient in 32 bits
pub quotient_cast : (z : ℤ) → IsWithin 64770 z → to_z w32 (of_z w32 (int_div (to_z w32 (of_z w32 z)) (pos 148))) ≡ int_div z (pos 148)
quotient_cast z h =
    ap (λ (x : ℤ). to_z w32 (of_z w32 (int_div x (pos 148)))) (cast-32 z h)
    ∙ cast-32 (int_div z (pos 148)) (wider (int_div z (pos 148)) (small_quotient z h))

-- a term stays what it is in 16 bits
pub cast : (q : ℤ) → IsWithin 437 q → to_z w16 (of_z w16 q) ≡ q
cast q h = omega (arith, ints)
