-- One cell among those of a share: read, and written.
use Rattle.std.proofs.Common.{◌≡◌, ℕ, zero, suc, ◌+◌, ◌<◌, List, [], ◌∷◌, length, get_or, map, refl, ap, ◌∙◌, subst, arith}
use Rattle.std.specs.Prelude.{slice_index_or, slice_set}
use Rattle.std.specs.List.{range_with_len}
use lib.ListN.{drop}
use Rattle.cell_shares.specs.Parts.{places, values, IsCell, changed}

-- the j-th cell, where the cells stand at the values of f from a on
pub cell_of : {X : Type 0} (f : ℕ → ℕ) (a n j : ℕ) (cs : List (ℕ × X)) → places cs ≡ map f (range_with_len a n) → j < n → (x : X) × IsCell cs j (f (a + j)) x
cell_of f a zero j cs at h = absurd (omega (arith, h))
cell_of f a (suc n) j [] at h = let no : 0 ≡ suc (length (map f (range_with_len (a + 1) n))) = ap length at in absurd (omega (arith, no))
cell_of f a (suc n) zero (c ∷ cs) at h = let s : a ≡ a + 0 = omega arith in (c.1, (ap (λ (l : List ℕ). get_or l 0 0) at ∙ ap f s, refl))
cell_of f a (suc n) (suc j) (c ∷ cs) at h =
    let r = cell_of f (a + 1) n j cs (ap (drop 1) at) (omega (arith, h)) in let s : (a + 1) + j ≡ a + suc j = omega arith in (r.0, subst (λ (m : ℕ). IsCell cs j (f m) r.0) s r.1)

pub cell_read : {X : Type 0} (cs : List (ℕ × X)) (j n : ℕ) (x d : X) → IsCell cs j n x → slice_index_or (values cs) j d ≡ x
cell_read [] j n x d is = absurd is
cell_read (c ∷ cs) zero n x d is = is.1
cell_read (c ∷ cs) (suc j) n x d is = cell_read cs j n x d is

pub changed_values : {X : Type 0} (cs : List (ℕ × X)) (j : ℕ) (y : X) → values (changed cs j y) ≡ slice_set (values cs) j y
changed_values [] j y = refl
changed_values (c ∷ cs) zero y = refl
changed_values (c ∷ cs) (suc j) y = ap (λ (l : List _). c.1 ∷ l) (changed_values cs j y)

pub changed-places : {X : Type 0} (cs : List (ℕ × X)) (j : ℕ) (y : X) → places (changed cs j y) ≡ places cs
changed-places [] j y = refl
changed-places (c ∷ cs) zero y = refl
changed-places (c ∷ cs) (suc j) y = ap (λ (l : List ℕ). c.0 ∷ l) (changed-places cs j y)
