-- How often a number is in the done lists, where the mask changes.
use Rattle.std.proofs.Common.{◌≡◌, ◌≢◌, ℕ, suc, ◌+◌, ◌-◌, ◌*◌, ◌^◌, ◌<◌, ◌≤◌, ◌∷◌, [], if◌then◌else◌, ltb, sym, ap, ◌∙◌, suc-mul, arith}
use Rattle.std.proofs.lemmas.Bool.Decides.{nat_tests}
use native.Mathlib.Decide.{ℕ_discrete, dec_le}
use Rattle.std.specs.Int.{bit_at}
use Rattle.std.specs.Int.Bits.{bit_or}
use Rattle.std.proofs.lemmas.Nat.Bits.{bit_at_above, bit_at-zero}
use Rattle.phase_board.specs.Numbers.{times, once_below}
use Rattle.phase_board.proofs.Masks.{or_same, or_other}

-- below is done, and then by the mask
abbrev pub by_mask : ℕ → ℕ → ℕ → ℕ
by_mask below mask x = if ltb x below then 1 else bit_at mask (x - below)

pub below_is : (below mask x : ℕ) → x < below → by_mask below mask x ≡ 1
below_is below mask x l = grind (arith, nat_tests)

pub above_is : (below mask x : ℕ) → below ≤ x → by_mask below mask x ≡ bit_at mask (x - below)
above_is below mask x l = grind (arith, nat_tests)

within_is : (n x : ℕ) → x < n → once_below x n ≡ 1
within_is n x l = grind (arith, nat_tests)

pub beyond_is : (n x : ℕ) → n ≤ x → once_below x n ≡ 0
beyond_is n x l = grind (arith, nat_tests)

here_is : (x n : ℕ) → x ≡ n → times x (n ∷ []) ≡ 1
here_is x n e = grind (arith, nat_tests)

else_is : (x n : ℕ) → x ≢ n → times x (n ∷ []) ≡ 0
else_is x n e = grind (arith, nat_tests)

-- window t joins those that are done
pub marked : (below mask t x : ℕ) → bit_at mask t ≡ 0 → by_mask below (bit_or mask (2 ^ t)) x ≡ by_mask below mask x + times x ((below + t) ∷ [])
marked below mask t x free = go (dec_le below x) (ℕ_discrete x (below + t))
  where
    go : Dec (below ≤ x) → Dec (x ≡ below + t) → by_mask below (bit_or mask (2 ^ t)) x ≡ by_mask below mask x + times x ((below + t) ∷ [])
    go (no d) e =
        let lt : x < below = omega arith in let a = below_is below (bit_or mask (2 ^ t)) x lt in let b = below_is below mask x lt in
        let c = else_is x (below + t) (λ q. omega arith) in omega arith
    go (yes d) (yes e) =
        let i : x - below ≡ t = omega arith in let a = above_is below (bit_or mask (2 ^ t)) x d ∙ ap (bit_at (bit_or mask (2 ^ t))) i ∙ or_same mask t in
        let b = above_is below mask x d ∙ ap (bit_at mask) i ∙ free in let c = here_is x (below + t) e in omega arith
    go (yes d) (no e) =
        let i : x - below ≢ t = (λ q. e (omega arith)) in let a = above_is below (bit_or mask (2 ^ t)) x d ∙ or_other mask t (x - below) i in
        let b = above_is below mask x d in let c = else_is x (below + t) e in omega arith

-- all windows of a half are done
pub all_marked : (below m mask x : ℕ) → mask < 2 ^ m → ((t : ℕ) → t < m → bit_at mask t ≡ 1) → by_mask below mask x ≡ once_below x (below + m)
all_marked below m mask x small all = go (dec_le below x) (dec_le (below + m) x)
  where
    go : Dec (below ≤ x) → Dec (below + m ≤ x) → by_mask below mask x ≡ once_below x (below + m)
    go (no d) e = below_is below mask x (omega arith) ∙ sym (within_is (below + m) x (omega arith))
    go (yes d) (no e) = above_is below mask x d ∙ all (x - below) (omega arith) ∙ sym (within_is (below + m) x (omega arith))
    go (yes d) (yes e) = above_is below mask x d ∙ bit_at_above mask m (x - below) small (omega arith) ∙ sym (beyond_is (below + m) x e)

-- none of a half's windows is done
pub none_marked : (below x : ℕ) → by_mask below 0 x ≡ once_below x below
none_marked below x = go (dec_le below x)
  where
    go : Dec (below ≤ x) → by_mask below 0 x ≡ once_below x below
    go (no d) = below_is below 0 x (omega arith) ∙ sym (within_is below x (omega arith))
    go (yes d) = above_is below 0 x d ∙ bit_at-zero (x - below) ∙ sym (beyond_is below x d)

pub next_half : (h m : ℕ) → (h + 1) * m ≡ h * m + m
next_half h m = let e : h + 1 ≡ suc h = omega arith in let f : (h + 1) * m ≡ suc h * m = ap (λ (z : ℕ). z * m) e in omega (arith, suc-mul h m)
