-- Texts cut at their first mark.
use Rattle.std.proofs.Common.{◌≡◌, ℕ, ◌<◌, true, false, ◌==◌, List, [], ◌∷◌, length, arith, refl, sym, subst}
use Rattle.std.proofs.lemmas.Grind.{common_steps}
use Rattle.std.specs.List.{before_first, after_first, list_any, position_or_len}
use Rattle.command_words.specs.Operands.{is_comma, listed}

pub none_at : (mark : ℕ) (text : List ℕ) → position_or_len (λ c. c == mark) text ≡ length text → list_any (λ c. c == mark) text ≡ false
none_at mark [] at = refl
none_at mark (c ∷ text) at = grind (arith, common_steps, none_at mark text, at)

pub some_at : (mark : ℕ) (text : List ℕ) → position_or_len (λ c. c == mark) text < length text → list_any (λ c. c == mark) text ≡ true
some_at mark [] at = absurd (omega (arith, at))
some_at mark (c ∷ text) at = grind (arith, common_steps, some_at mark text, at)

shorter : (mark : ℕ) (text : List ℕ) → list_any (λ c. c == mark) text ≡ true → length (after_first (λ c. c == mark) text) < length text
shorter mark [] has = cc
shorter mark (c ∷ text) has = grind (arith, common_steps, shorter mark text, has)

-- the mark counts
pub shorter_after : (mark : ℕ) (text after : List ℕ) → list_any (λ c. c == mark) text ≡ true → after ≡ after_first (λ c. c == mark) text → length after < length text
shorter_after mark text after has is =
    let P : List ℕ → Type 0 = λ t. length t < length text in
    subst P (sym is) (shorter mark text has)

pub listed_here : (text : List ℕ) → list_any is_comma text ≡ true →
    listed text ≡ before_first is_comma text ∷ listed (after_first is_comma text)
listed_here [] has = cc
listed_here (c ∷ text) has = grind (arith, common_steps, listed_here text, has)

pub listed_last : (text : List ℕ) → list_any is_comma text ≡ false → listed text ≡ text ∷ []
listed_last [] none = refl
listed_last (c ∷ text) none = grind (arith, common_steps, listed_last text, none)
