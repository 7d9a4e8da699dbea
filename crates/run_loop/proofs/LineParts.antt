-- A line written piece by piece.
use Rattle.std.proofs.Common.{◌≡◌, ℕ, ◌+◌, ◌<◌, List, [], ◌∷◌, ◌++◌, length, take, drop, min, get_or, ap, sym, ◌∙◌, subst, append_assoc, arith}
use Rattle.std.proofs.lemmas.Grind.{common_steps, flat_map-append}
use Rattle.std.proofs.lemmas.List.{append-nil, take-append-le, take_more, take-append-drop}
use Rattle.std.proofs.Math.Seq.{take-append-add, take-length}
use Rattle.std.specs.declared.option.Option.{Option}
use Rattle.edge_io.specs.Edge.{Adds, Rose}
use Rattle.run_loop.specs.FaultLine.{joined, AddsLine}

joined-append : (xs ys : List (List ℕ)) → joined (xs ++ ys) ≡ joined xs ++ joined ys
joined-append xs ys = flat_map-append (λ (t : List ℕ). t) xs ys

-- n bytes of the piece after the first i are a prefix of the whole
pub front_of : (xs : List (List ℕ)) (i n : ℕ) → i < length xs → (k : ℕ) × (joined (take i xs) ++ take n (get_or xs i []) ≡ take k (joined xs))
front_of xs i n in_xs =
    let text : List ℕ = get_or xs i [] in
    let before : List ℕ = joined (take i xs) in
    let after : List ℕ = joined (drop (i + 1) xs) in
    let m : ℕ = min n (length text) in
    let split : joined xs ≡ before ++ (text ++ after) =
    ap joined (sym (take-append-drop (i + 1) xs)) ∙ joined-append (take (i + 1) xs) (drop (i + 1) xs)
    ∙ ap (λ (t : List ℕ). t ++ after) (ap joined (take_more xs i [] in_xs) ∙ joined-append (take i xs) (text ∷ []) ∙ ap (λ (t : List ℕ). before ++ t) (append-nil text))
    ∙ append_assoc before text after in
    let shorter : take n text ≡ take m text = grind (arith, common_steps) in (
      length before + m,
      ap (λ (t : List ℕ). before ++ t) (shorter ∙ sym (take-append-le m text after (omega arith))) ∙ sym (take-append-add before (text ++ after) m) ∙ ap (take (length before + m)) (sym split),
    )

pub more_of : (xs : List (List ℕ)) (i : ℕ) → i < length xs → joined (take (i + 1) xs) ≡ joined (take i xs) ++ get_or xs i []
more_of xs i in_xs = ap joined (take_more xs i [] in_xs) ∙ joined-append (take i xs) (get_or xs i [] ∷ []) ∙ ap (λ (t : List ℕ). joined (take i xs) ++ t) (append-nil (get_or xs i []))

pub line_all : (old new : Option (List ℕ)) (line : List ℕ) (before now : ℕ) → Adds old new line → AddsLine old new line before now
line_all old new line before now added =
    let P : List ℕ → Type 0 = λ t. Adds old new t in
    record { front = (length line, subst P (sym (take-length line)) added); whole = λ _. added }

pub line_part : (old new : Option (List ℕ)) (line : List ℕ) (before now n : ℕ) → Adds old new (take n line) → Rose before now → AddsLine old new line before now
line_part old new line before now n added rose = record { front = (n, added); whole = λ none. absurd (none rose) }
