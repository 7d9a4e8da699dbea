-- What a claim word says.
use Rattle.std.proofs.Common.{◌≡◌, ℕ, suc, ◌+◌, ◌*◌, ◌%◌, ◌^◌, ◌<◌, ◌≤◌, Bool, true, false, refl, subst, ap, ◌∙◌, mul-le-mul_right, lt_of_not-le, suc-mul, arith}
use native.Mathlib.Decide.{dec_le}
use Rattle.phase_board.specs.ClaimWord.{half_of, drawn_of, next_number, word_of, NotNewer}

pub low_word : (stop : Bool) (h n : ℕ) → h ≤ 1000000 → n ≤ 64 → word_of stop h n % 2 ^ 63 ≡ h * 256 + n
low_word true h n a b = omega arith
low_word false h n a b = omega arith

pub half_word : (stop : Bool) (h n : ℕ) → h ≤ 1000000 → n ≤ 64 → half_of (word_of stop h n) ≡ h
half_word stop h n a b = let l = low_word stop h n a b in omega arith

pub drawn_word : (stop : Bool) (h n : ℕ) → h ≤ 1000000 → n ≤ 64 → drawn_of (word_of stop h n) ≡ n
drawn_word true h n a b = omega arith
drawn_word false h n a b = omega arith

pub same_newer : (a : ℕ) → NotNewer a a
same_newer a = (omega arith, λ _. refl)

rows : (m x y i j : ℕ) → i ≤ m → x * 256 + i ≤ y * 256 + j → i < 256 → j < 256 → x * m + i ≤ y * m + j
rows m x y i j le at a b = go (dec_le y x)
  where
    go : Dec (y ≤ x) → x * m + i ≤ y * m + j
    go (yes d) = let same : x ≡ y = omega arith in let e : x * m ≡ y * m = ap (λ (z : ℕ). z * m) same in omega arith
    go (no d) = let up : suc x * m ≤ y * m = mul-le-mul_right m (lt_of_not-le d) in omega (arith, suc-mul x m)

pub number_le : (m a b : ℕ) → drawn_of a ≤ m → a % 2 ^ 63 ≤ b % 2 ^ 63 → next_number m a ≤ next_number m b
number_le m a b le at = rows m (half_of a) (half_of b) (drawn_of a) (drawn_of b) le (omega arith) (omega arith) (omega arith)

pub newer_trans : (a b c : ℕ) → NotNewer a b → NotNewer b c → NotNewer a c
newer_trans a b c p q = (let x = p.0 in let y = q.0 in omega arith, λ h. let e : a ≡ b = p.1 h in e ∙ q.1 (subst (λ (z : ℕ). 2 ^ 63 ≤ z) e h))

pub goes_up : (a c : ℕ) → c + 1 < 2 ^ 63 → NotNewer a c → NotNewer a (c + 1)
goes_up a c low p = (let x = p.0 in omega arith, λ h. let e : a ≡ c = p.1 h in absurd (omega arith))

pub not_stopped : (stop : Bool) (h n : ℕ) → word_of stop h n < 2 ^ 63 → stop ≡ false
not_stopped true h n low = absurd (omega arith)
not_stopped false h n low = refl

pub goes_to : (a c d : ℕ) → c ≤ d → d < 2 ^ 63 → NotNewer a c → NotNewer a d
goes_to a c d up low p = (let x = p.0 in omega arith, λ h. let e : a ≡ c = p.1 h in absurd (omega arith))
