-- Numbers that were read are written as their bytes.
use Rattle.std.proofs.Common.{◌≡◌, ℕ, zero, suc, ◌+◌, ◌<◌, List, [], ◌∷◌, length, drop, get_or, slice_index, refl, ap, sym, ◌∙◌, add-one, drop-cons, arith}
use Rattle.std.specs.declared.option.Option.{Option}
use Rattle.std.proofs.lemmas.List.{drop_all}
use Rattle.std.proofs.lemmas.Nat.{be_bytes_2, be_bytes_4}
use Rattle.std.specs.Int.{w16, w32, to_be_bytes, from_be_bytes}
use Rattle.coded_stream.specs.Header.{word, half_word, word_text, half_word_text, limit_code, limit_of_code}
use Rattle.coded_stream.specs.Stream.{AreBytes}

-- ---- a list by its places

unfoldable pub indexed : ℕ → ℕ → List ℕ → List ℕ
indexed i zero xs = []
indexed i (suc n) xs = slice_index xs i ∷ indexed (i + 1) n xs

pub indexed-all : (i n : ℕ) (xs : List ℕ) → length xs ≡ i + n → drop i xs ≡ indexed i n xs
unfolding indexed
indexed-all i zero xs long = drop_all i xs (omega (arith, long))
indexed-all i (suc n) xs long =
    drop-cons xs i 0 (omega (arith, long))
    ∙ ap (λ (k : ℕ). slice_index xs i ∷ drop k xs) (sym (add-one i))
    ∙ ap (λ (ys : List ℕ). slice_index xs i ∷ ys) (indexed-all (i + 1) n xs (omega (arith, long)))

-- ---- numbers

byte-at : (xs : List ℕ) (i : ℕ) → AreBytes xs → slice_index xs i < 256
byte-at [] i are = omega arith
byte-at (x ∷ xs) zero (small, are) = small
byte-at (x ∷ xs) (suc i) (small, are) = byte-at xs i are

word-spelled : (a b c d : ℕ) (n : ℕ) → a < 256 → b < 256 → c < 256 → d < 256 → n ≡ from_be_bytes w32 (a ∷ b ∷ c ∷ d ∷ []) → to_be_bytes w32 n ≡ a ∷ b ∷ c ∷ d ∷ []
word-spelled a b c d n pa pb pc pd is = be_bytes_4 (a ∷ b ∷ c ∷ d ∷ []) n refl small is
  where
    small : (i : ℕ) → get_or (a ∷ b ∷ c ∷ d ∷ []) i 0 < 256
    small zero = pa
    small (suc zero) = pb
    small (suc (suc zero)) = pc
    small (suc (suc (suc zero))) = pd
    small (suc (suc (suc (suc i)))) = omega arith

half-spelled : (a b : ℕ) (n : ℕ) → a < 256 → b < 256 → n ≡ from_be_bytes w16 (a ∷ b ∷ []) → to_be_bytes w16 n ≡ a ∷ b ∷ []
half-spelled a b n pa pb is = be_bytes_2 (a ∷ b ∷ []) n refl small is
  where
    small : (i : ℕ) → get_or (a ∷ b ∷ []) i 0 < 256
    small zero = pa
    small (suc zero) = pb
    small (suc (suc i)) = omega arith

-- the text of four bytes' number
pub word-at : (xs : List ℕ) (i : ℕ) → AreBytes xs → word_text (word xs i) ≡ slice_index xs i ∷ slice_index xs (i + 1) ∷ slice_index xs (i + 2) ∷ slice_index xs (i + 3) ∷ []
unfolding word word_text
word-at xs i are = word-spelled _ _ _ _ (word xs i) (byte-at xs i are) (byte-at xs (i + 1) are) (byte-at xs (i + 2) are) (byte-at xs (i + 3) are) refl

pub half-at : (xs : List ℕ) (i : ℕ) → AreBytes xs → half_word_text (half_word xs i) ≡ slice_index xs i ∷ slice_index xs (i + 1) ∷ []
unfolding half_word half_word_text
half-at xs i are = half-spelled _ _ (half_word xs i) (byte-at xs i are) (byte-at xs (i + 1) are) refl

code-of_limit : (n : ℕ) → limit_code (limit_of_code n) ≡ n
code-of_limit zero = refl
code-of_limit (suc n) = refl

-- N_IR, read and written
pub limit-at : (xs : List ℕ) (i : ℕ) (limit : Option ℕ) → AreBytes xs → limit ≡ limit_of_code (word xs i)
    → word_text (limit_code limit) ≡ slice_index xs i ∷ slice_index xs (i + 1) ∷ slice_index xs (i + 2) ∷ slice_index xs (i + 3) ∷ []
limit-at xs i limit are is = ap (λ l. word_text (limit_code l)) is ∙ ap word_text (code-of_limit (word xs i)) ∙ word-at xs i are
