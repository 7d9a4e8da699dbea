-- A try takes the held results one after the other.
use Rattle.std.proofs.Common.{◌≡◌, ℕ, ◌+◌, [], ◌∷◌, length, drop, get_or, refl, sym, ap, ◌∙◌, arith}
use Rattle.std.specs.Prelude.{Option, None, Some, MatchOption}
use Rattle.std.specs.Option.{option_flatten}
use Rattle.std.proofs.lemmas.List.{drop-drop, get_or-drop}
use Rattle.model_receiver.specs.declared.result.CodeResult.{CodeResult}
use Rattle.model_receiver.specs.TransportBlocks.{Held}

-- what was drawn from the front of the results that are left, and what is left after it
pub record IsDrawn (left after : Held) (o : Option (Option CodeResult)) : Type 0 where
  pub result : option_flatten o ≡ get_or left 0 None
  pub after_is : after ≡ drop 1 left

empty-is : (xs : Held) → length xs ≡ 0 → xs ≡ []
empty-is [] long = refl
empty-is (x ∷ xs) long = absurd (omega (arith, long))

pub drawn : (left after : Held) (o : Option (Option CodeResult)) (m n : ℕ) → length left ≡ m → length after ≡ n
    → MatchOption o ((m ≡ 0) × (n ≡ 0)) (λ x. (left ≡ x ∷ after) × (n + 1 ≡ m)) → IsDrawn left after o
drawn left after None m n long rest step =
    let none : left ≡ [] = empty-is left (long ∙ step.0) in
    record {
      result = ap (λ (xs : Held). get_or xs 0 None) (sym none);
      after_is = empty-is after (rest ∙ step.1) ∙ ap (drop 1) (sym none);
    }
drawn left after (Some x) m n long rest step = record {
  result = ap (λ (xs : Held). get_or xs 0 None) (sym step.0);
  after_is = ap (drop 1) (sym step.0);
}

-- r results were drawn
pub drawn-next : (held left after : Held) (o : Option (Option CodeResult)) (r : ℕ) → left ≡ drop r held → IsDrawn left after o
    → (option_flatten o ≡ get_or held r None) × (after ≡ drop (r + 1) held)
drawn-next held left after o r is h = (
  h.result ∙ ap (λ (xs : Held). get_or xs 0 None) is ∙ get_or-drop r held 0 None ∙ ap (λ (n : ℕ). get_or held n None) (let e : r + 0 ≡ r = omega arith in e),
  h.after_is ∙ ap (drop 1) is ∙ drop-drop 1 r held,
)
