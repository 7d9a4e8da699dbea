-- What a source that tells what is left still tells after a read.
use Rattle.std.proofs.Common.{◌≡◌, ℕ, List, [], ◌++◌, Some, None, refl, ap, sym, subst, ◌∙◌}
use Rattle.std.proofs.lemmas.List.{append-nil}
use Rattle.std.specs.declared.option.Option.{Option}
use Rattle.std.specs.Io.KnownBytes.{IsAtEnd}
use Rattle.edge_io.specs.Edge.{Takes}

-- the input is these bytes and what is left, which the source tells
pub record IsTold (old new : Option (List ℕ)) (bytes input : List ℕ) : Type 0 where
  pub left : List ℕ
  pub old_is : old ≡ Some (bytes ++ left)
  pub new_is : new ≡ Some left
  pub input_is : input ≡ bytes ++ left

none_some : {xs : List ℕ} → None ≡ Some xs → ⊥
none_some e = cc

pub told_rest : (old new : Option (List ℕ)) (bytes input : List ℕ) → Takes old new bytes → old ≡ Some input → IsTold old new bytes input
told_rest old None bytes input took is = absurd (none_some {xs = input} (sym took ∙ is))
told_rest old (Some left) bytes input took is = record { left = left; old_is = took; new_is = refl; input_is = cc }

-- where the end was seen, all of the input was taken
pub record IsAll (old new : Option (List ℕ)) (bytes input : List ℕ) : Type 0 where
  pub old_is : old ≡ Some bytes
  pub new_is : new ≡ Some []
  pub input_is : input ≡ bytes

pub told_all : (old new : Option (List ℕ)) (bytes input : List ℕ) → Takes old new bytes → IsAtEnd new → old ≡ Some input → IsAll old new bytes input
told_all old new bytes input took ended is =
    let t = told_rest old new bytes input took is in
    let none : t.left ≡ [] = subst IsAtEnd t.new_is ended in
    let all : bytes ++ t.left ≡ bytes = ap (λ (ys : List ℕ). bytes ++ ys) none ∙ append-nil bytes in
    record { old_is = t.old_is ∙ ap Some all; new_is = t.new_is ∙ ap Some none; input_is = t.input_is ∙ all }
