-- The bits of a tail by their places.
use Rattle.std.proofs.Common.{◌≡◌, ℕ, List, [], ◌∷◌, get_or, map, sym, ap, ◌∙◌}
use Rattle.std.proofs.Math.ListN.{get_or-map}
use Rattle.lte_bits.specs.declared.bit.Bit.{Bit}
use Rattle.lte_bits.specs.declared.bit.Bit.TheVariants.{Zero}

pub input_at : (path : List (Bit × Bit)) (xs : List Bit) (k : ℕ) → map (λ p. p.0) path ≡ xs → (get_or path k (Zero, Zero)).0 ≡ get_or xs k Zero
input_at path xs k e = sym (get_or-map (λ p. p.0) path k (Zero, Zero)) ∙ ap (λ bits. get_or bits k Zero) e

pub parity_at : (path : List (Bit × Bit)) (zs : List Bit) (k : ℕ) → map (λ p. p.1) path ≡ zs → (get_or path k (Zero, Zero)).1 ≡ get_or zs k Zero
parity_at path zs k e = sym (get_or-map (λ p. p.1) path k (Zero, Zero)) ∙ ap (λ bits. get_or bits k Zero) e

pub four : (a b c d a' b' c' d' : Bit) → a ≡ a' → b ≡ b' → c ≡ c' → d ≡ d' → a ∷ b ∷ c ∷ d ∷ [] ≡ a' ∷ b' ∷ c' ∷ d' ∷ []
four a b c d a' b' c' d' ea eb ec ed = cc
