-- A unit before what is left.
use Rattle.std.proofs.Common.{◌≡◌, ℕ, false, nat_lt, List, [], ◌∷◌, ◌++◌, length, take, drop, refl, ap, sym, ◌∙◌, arith}
use Rattle.std.proofs.Math.Seq.{take-append_seam, drop-append_seam}
use Rattle.std.proofs.lemmas.List.{length-append}
use Rattle.std.proofs.lemmas.Bool.{le-ltb}
use Rattle.coded_stream.specs.Header.{word}

pub take_front : (unit left : List ℕ) (n : ℕ) → length unit ≡ n → take n (unit ++ left) ≡ unit
take_front unit left n long = ap (λ (k : ℕ). take k (unit ++ left)) (sym long) ∙ take-append_seam unit left

pub drop_front : (unit left : List ℕ) (n : ℕ) → length unit ≡ n → drop n (unit ++ left) ≡ left
drop_front unit left n long = ap (λ (k : ℕ). drop k (unit ++ left)) (sym long) ∙ drop-append_seam unit left

-- it came whole
pub whole_front : (unit left : List ℕ) (n : ℕ) → length unit ≡ n → nat_lt (length (unit ++ left)) n ≡ false
whole_front unit left n long = le-ltb (length (unit ++ left)) n (omega (arith, length-append unit left, long))

-- the number of a unit of four bytes
pub word_front : (unit left : List ℕ) → length unit ≡ 4 → word (unit ++ left) 0 ≡ word unit 0
unfolding word
word_front [] left long = absurd (omega (arith, long))
word_front (a ∷ []) left long = absurd (omega (arith, long))
word_front (a ∷ b ∷ []) left long = absurd (omega (arith, long))
word_front (a ∷ b ∷ c ∷ []) left long = absurd (omega (arith, long))
word_front (a ∷ b ∷ c ∷ d ∷ []) left long = refl
word_front (a ∷ b ∷ c ∷ d ∷ e ∷ unit) left long = absurd (omega (arith, long))
