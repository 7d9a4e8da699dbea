-- Cells that are at the places from k on, in order.
use Rattle.std.proofs.Common.{◌≡◌, ℕ, zero, suc, ◌+◌, List, [], ◌∷◌, length, get_or, refl, sym, ap, ◌∙◌, arith}
use lib.ListN.{drop, length-map}
use Rattle.std.specs.List.{range_with_len}
use Rattle.std.proofs.lemmas.List.FromFn.{length-range_with_len}
use Rattle.cell_shares.specs.Parts.{numbered, places, values}

pub renumbered : {X : Type 0} (k n : ℕ) (cs : List (ℕ × X)) → places cs ≡ range_with_len k n → cs ≡ numbered k (values cs)
renumbered k n [] e = refl
renumbered k zero (c ∷ cs) e = let l : suc (length (places cs)) ≡ 0 = ap length e in absurd (omega (arith, l))
renumbered k (suc n) (c ∷ cs) e =
    let first : c.0 ≡ k = ap (λ (l : List ℕ). get_or l 0 0) e in let rest : cs ≡ numbered (k + 1) (values cs) = renumbered (k + 1) n cs (ap (drop 1) e) in
    λ i. (first i, c.1) ∷ rest i

pub values-long : {X : Type 0} (k n : ℕ) (cs : List (ℕ × X)) → places cs ≡ range_with_len k n → n ≡ length (values cs)
values-long k n cs e = sym (length-range_with_len k n) ∙ (ap length (sym e) ∙ (length-map cs (λ c. c.0) ∙ sym (length-map cs (λ c. c.1))))

pub places-numbered : {X : Type 0} (k : ℕ) (xs : List X) → places (numbered k xs) ≡ range_with_len k (length xs)
places-numbered k [] = refl
places-numbered k (x ∷ xs) = ap (λ (l : List ℕ). k ∷ l) (places-numbered (k + 1) xs)

pub values-numbered : {X : Type 0} (k : ℕ) (xs : List X) → values (numbered k xs) ≡ xs
values-numbered k [] = refl
values-numbered k (x ∷ xs) = ap (λ (l : List _). x ∷ l) (values-numbered (k + 1) xs)
