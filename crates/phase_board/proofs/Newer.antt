-- Of two words that are not newer than a third, the greater is the newer.
use Rattle.std.proofs.Common.{◌≡◌, ℕ, max, ◌%◌, ◌^◌, ◌≤◌, sym, refl, subst, ap, ◌∙◌, arith}
use native.Mathlib.Decide.{dec_le}
use Rattle.phase_board.specs.ClaimWord.{NotNewer}

pub pick_max : (a b : ℕ) (F : ℕ → Type 0) → (b ≤ a → F a) → (a ≤ b → F b) → F (max a b)
pick_max a b F left right = go (dec_le b a)
  where
    go : Dec (b ≤ a) → F (max a b)
    go (yes d) = let e : a ≡ max a b = omega arith in subst F e (left d)
    go (no d) = let e : b ≡ max a b = omega arith in subst F e (right (omega arith))

pub below_max : (a b c : ℕ) → NotNewer a c → NotNewer b c → NotNewer a (max a b) × NotNewer b (max a b)
below_max a b c p q = pick_max a b (λ m. NotNewer a m × NotNewer b m)
    (λ le. ((omega arith, λ _. refl), (low a b c le p q, λ h. let e : b ≡ c = q.1 h in let f : a ≡ c = p.1 (omega arith) in e ∙ sym f)))
    (λ le. ((low b a c le q p, λ h. let e : a ≡ c = p.1 h in let f : b ≡ c = q.1 (omega arith) in e ∙ sym f), (omega arith, λ _. refl)))
  where
    low : (a b c : ℕ) → b ≤ a → NotNewer a c → NotNewer b c → b % 2 ^ 63 ≤ a % 2 ^ 63
    low a b c le p q = go (dec_le (2 ^ 63) a)
      where
        go : Dec (2 ^ 63 ≤ a) → b % 2 ^ 63 ≤ a % 2 ^ 63
        go (yes h) = let e : a ≡ c = p.1 h in let x = q.0 in let f : c % 2 ^ 63 ≡ a % 2 ^ 63 = ap (λ (z : ℕ). z % 2 ^ 63) (sym e) in omega arith
        go (no h) = omega arith
