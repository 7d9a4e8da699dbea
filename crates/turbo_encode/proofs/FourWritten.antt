-- Four cells written one after the other.
use Rattle.std.proofs.Common.{◌≡◌, ℕ, ◌+◌, ◌≤◌, List, [], ◌∷◌, ◌++◌, length, take, set, get_or, refl, ap, ◌∙◌, append_assoc, arith}
use Rattle.std.proofs.lemmas.List.{length-set, take_more_set}
use Rattle.lte_bits.specs.declared.bit.Cell.{Cell}
use Rattle.lte_bits.specs.declared.bit.Cell.TheVariants.{Zero}

four-cells : (cells : List Cell) → length cells ≡ 4 → get_or cells 0 Zero ∷ get_or cells 1 Zero ∷ get_or cells 2 Zero ∷ get_or cells 3 Zero ∷ [] ≡ cells
four-cells [] long = absurd (omega (arith, long))
four-cells (a ∷ []) long = absurd (omega (arith, long))
four-cells (a ∷ b ∷ []) long = absurd (omega (arith, long))
four-cells (a ∷ b ∷ c ∷ []) long = absurd (omega (arith, long))
four-cells (a ∷ b ∷ c ∷ d ∷ []) long = refl
four-cells (a ∷ b ∷ c ∷ d ∷ e ∷ rest) long = absurd (omega (arith, long))

in_row : (xs : List Cell) (a b c d : Cell) → (((xs ++ a ∷ []) ++ b ∷ []) ++ c ∷ []) ++ d ∷ [] ≡ xs ++ a ∷ b ∷ c ∷ d ∷ []
in_row xs a b c d = simp append_assoc

-- the cells before them stay
pub four_written : (old cells : List Cell) (at : ℕ) → at + 4 ≤ length old → length cells ≡ 4
    → take (at + 4) (set (set (set (set old at (get_or cells 0 Zero)) (at + 1) (get_or cells 1 Zero)) (at + 2) (get_or cells 2 Zero)) (at + 3) (get_or cells 3 Zero)) ≡ take at old ++ cells
four_written old cells at fits long =
    let a = get_or cells 0 Zero in let b = get_or cells 1 Zero in let c = get_or cells 2 Zero in let d = get_or cells 3 Zero in
    let l1 : List Cell = set old at a in
    let l2 : List Cell = set l1 (at + 1) b in
    let l3 : List Cell = set l2 (at + 2) c in
    let l4 : List Cell = set l3 (at + 3) d in
    let n1 : length l1 ≡ length old = length-set old at a in
    let n2 : length l2 ≡ length old = length-set l1 (at + 1) b ∙ n1 in
    let n3 : length l3 ≡ length old = length-set l2 (at + 2) c ∙ n2 in
    let t1 : take (at + 1) l1 ≡ take at old ++ a ∷ [] = take_more_set old at a (omega (arith, fits)) in
    let t2 : take (at + 2) l2 ≡ take (at + 1) l1 ++ b ∷ [] = ap (λ n. take n l2) (let e : at + 2 ≡ at + 1 + 1 = omega arith in e) ∙ take_more_set l1 (at + 1) b (omega (arith, fits, n1)) in
    let t3 : take (at + 3) l3 ≡ take (at + 2) l2 ++ c ∷ [] = ap (λ n. take n l3) (let e : at + 3 ≡ at + 2 + 1 = omega arith in e) ∙ take_more_set l2 (at + 2) c (omega (arith, fits, n2)) in
    let t4 : take (at + 4) l4 ≡ take (at + 3) l3 ++ d ∷ [] = ap (λ n. take n l4) (let e : at + 4 ≡ at + 3 + 1 = omega arith in e) ∙ take_more_set l3 (at + 3) d (omega (arith, fits, n3)) in
    t4
    ∙ ap (λ xs. xs ++ d ∷ []) (t3 ∙ ap (λ xs. xs ++ c ∷ []) (t2 ∙ ap (λ xs. xs ++ b ∷ []) t1))
    ∙ in_row (take at old) a b c d
    ∙ ap (λ xs. take at old ++ xs) (four-cells cells long)
