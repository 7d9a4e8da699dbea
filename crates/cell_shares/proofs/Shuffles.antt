-- Cells are brought into an order of their places.
use Rattle.std.proofs.Common.{◌≡◌, ℕ, suc, List, [], ◌∷◌, length, get_or, refl, sym, ap, ◌∙◌, arith}
use lib.ListN.{drop}
use Rattle.cell_shares.specs.Parts.{places, Shuffled, nothing_left, under, turned, then_on}

no_cons : {X : Type 0} (x : X) (xs : List X) → [] ≡ x ∷ xs → ⊥
no_cons x xs e = let n : 0 ≡ suc (length xs) = ap length e in absurd (omega (arith, n))

-- the cells whose places are shuffled to qs
pub record Carried {X : Type 0} (cs : List (ℕ × X)) (qs : List ℕ) : Type 0 where
  pub cells : List (ℕ × X)
  pub shuffled : Shuffled cs cells
  pub placed : places cells ≡ qs

pub carried : {X : Type 0} (ps qs : List ℕ) (cs : List (ℕ × X)) → Shuffled ps qs → places cs ≡ ps → Carried cs qs
carried _ _ [] nothing_left e = record { cells = []; shuffled = nothing_left; placed = refl }
carried _ _ (c ∷ cs) nothing_left e = absurd (no_cons c.0 (places cs) (sym e))
carried _ _ [] (under x ps qs s) e = absurd (no_cons x ps e)
carried _ _ (c ∷ cs) (under x ps qs s) e =
    let rest = carried ps qs cs s (ap (drop 1) e) in let first : c.0 ≡ x = ap (λ (l : List ℕ). get_or l 0 0) e in
    record { cells = c ∷ rest.cells; shuffled = under c cs rest.cells rest.shuffled; placed = ap (λ (l : List ℕ). c.0 ∷ l) rest.placed ∙ ap (λ (n : ℕ). n ∷ qs) first }
carried _ _ [] (turned x y ps) e = absurd (no_cons x (y ∷ ps) e)
carried _ _ (c ∷ []) (turned x y ps) e = absurd (no_cons y ps (ap (drop 1) e))
carried _ _ (c ∷ d ∷ cs) (turned x y ps) e =
    let first : c.0 ≡ x = ap (λ (l : List ℕ). get_or l 0 0) e in let second : d.0 ≡ y = ap (λ (l : List ℕ). get_or l 1 0) e in let rest : places cs ≡ ps = ap (drop 2) e in
    record { cells = d ∷ c ∷ cs; shuffled = turned c d cs; placed = λ i. second i ∷ first i ∷ rest i }
carried _ _ cs (then_on ps qs rs s t) e =
    let one = carried ps qs cs s e in let two = carried qs rs one.cells t one.placed in
    record { cells = two.cells; shuffled = then_on cs one.cells two.cells one.shuffled two.shuffled; placed = two.placed }
