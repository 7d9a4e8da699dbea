-- What a write at one of a window's places leaves of the window's cells, and of all others.
use Rattle.std.proofs.Common.{◌≡◌, ◌≢◌, ◌⊎◌, ℕ, zero, suc, ◌<◌, List, [], ◌∷◌, length, get_or, set, refl, sym, ap, ◌∙◌, arith, inl, inr}
use Rattle.std.proofs.lemmas.Bool.{cases_eq}
use Rattle.std.proofs.lemmas.List.{ext_get_or, set_comm, set-set, length-set, length-map, get_or-map, get_or-set_same, get_or-set_other}
use Rattle.model_receiver.specs.Windows.{Extrinsic, zero_cell, cell_at}
use Rattle.serial_decode.specs.Strips.{cells_at, elsewhere}

-- different positions have different places
abbrev pub AreApart : List ℕ → Type 0
AreApart ps = (i j : ℕ) → i < length ps → j < length ps → get_or ps i 0 ≡ get_or ps j 0 → i ≡ j

abbrev pub AreBelow : ℕ → List ℕ → Type 0
AreBelow n ps = (j : ℕ) → j < length ps → get_or ps j 0 < n

pub cell-of_window : (ps : List ℕ) (cells : List Extrinsic) (i : ℕ) → i < length ps
    → get_or (cells_at ps cells) i zero_cell ≡ cell_at cells (get_or ps i 0)
cell-of_window ps cells i h = get_or-map (cell_at cells) ps i 0 zero_cell h

pub write-in_window : (ps : List ℕ) (cells : List Extrinsic) (j : ℕ) (v : Extrinsic) → AreBelow (length cells) ps → AreApart ps → j < length ps
    → cells_at ps (set cells (get_or ps j 0) v) ≡ set (cells_at ps cells) j v
write-in_window ps cells j v below apart h =
    let long : length (cells_at ps cells) ≡ length ps = length-map ps (cell_at cells) in
    ext_get_or zero_cell _ _
    (length-map ps (cell_at (set cells (get_or ps j 0) v)) ∙ sym (length-set (cells_at ps cells) j v ∙ long))
    (λ i lt. let l : i < length ps = omega (arith, length-map ps (cell_at (set cells (get_or ps j 0) v)), lt) in
    cell-of_window ps (set cells (get_or ps j 0) v) i l ∙ by_place i l long (cases_eq i j))
  where
    by_place : (i : ℕ) → i < length ps → length (cells_at ps cells) ≡ length ps → (i ≡ j) ⊎ (i ≡ j → ⊥)
        → cell_at (set cells (get_or ps j 0) v) (get_or ps i 0) ≡ get_or (set (cells_at ps cells) j v) i zero_cell
    by_place i l long (inl e) =
        rw e (get_or-set_same cells (get_or ps j 0) v zero_cell (below j h)
        ∙ sym (get_or-set_same (cells_at ps cells) j v zero_cell (omega (arith, long, h))))
    by_place i l long (inr ne) =
        get_or-set_other cells (get_or ps j 0) (get_or ps i 0) v zero_cell (λ e. ne (apart i j l h e))
        ∙ (sym (cell-of_window ps cells i l) ∙ sym (get_or-set_other (cells_at ps cells) j i v zero_cell ne))

pub write-elsewhere : (ps : List ℕ) (cells : List Extrinsic) (j : ℕ) (v : Extrinsic) → j < length ps
    → elsewhere ps (set cells (get_or ps j 0) v) ≡ elsewhere ps cells
write-elsewhere [] cells j v h = absurd (omega arith)
write-elsewhere (p ∷ ps) cells zero v h = ap (elsewhere ps) (set-set cells p v zero_cell)
write-elsewhere (p ∷ ps) cells (suc j) v h = by_place (write-elsewhere ps (set cells p zero_cell) j v (omega (arith, h))) (cases_eq (get_or ps j 0) p)
  where
    by_place : elsewhere ps (set (set cells p zero_cell) (get_or ps j 0) v) ≡ elsewhere ps (set cells p zero_cell)
        → (get_or ps j 0 ≡ p) ⊎ (get_or ps j 0 ≡ p → ⊥)
        → elsewhere ps (set (set cells (get_or ps j 0) v) p zero_cell) ≡ elsewhere ps (set cells p zero_cell)
    by_place rest (inl e) = rw e (ap (elsewhere ps) (set-set cells p v zero_cell))
    by_place rest (inr ne) = ap (elsewhere ps) (set_comm cells (get_or ps j 0) p v zero_cell ne) ∙ rest

-- what stands at no place of the window is seen there
pub cell-elsewhere : (ps : List ℕ) (cells : List Extrinsic) (n : ℕ) → ((j : ℕ) → j < length ps → n ≢ get_or ps j 0)
    → cell_at (elsewhere ps cells) n ≡ cell_at cells n
cell-elsewhere [] cells n h = refl
cell-elsewhere (p ∷ ps) cells n h =
    cell-elsewhere ps (set cells p zero_cell) n (λ j lt. h (suc j) (omega (arith, lt)))
    ∙ get_or-set_other cells p n zero_cell zero_cell (h 0 (omega arith))

pub length-elsewhere : (ps : List ℕ) (cells : List Extrinsic) → length (elsewhere ps cells) ≡ length cells
length-elsewhere [] cells = refl
length-elsewhere (p ∷ ps) cells = length-elsewhere ps (set cells p zero_cell) ∙ length-set cells p zero_cell
