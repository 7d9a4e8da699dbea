-- Rows brought into the order of the windows, and put back, step after step.
use Rattle.std.proofs.Common.{◌≡◌, ℕ, ◌+◌, ◌*◌, ◌<◌, ◌≤◌, ℤ, List, [], length, get_or, set, sym, ap, ◌∙◌, subst, arith, inl, inr, get_or-set_other, get_or-set_same}
use Rattle.std.specs.Prelude.{slice_index}
use Rattle.std.proofs.lemmas.Bool.{cases_eq}
use Rattle.std.proofs.lemmas.List.{get_or_default}
use Rattle.std.proofs.lemmas.Nat.{same_from_place}
use Rattle.model_receiver.specs.Borders.{at}
use Rattle.window_rows.specs.Rows.{number_in}
use Rattle.lane_banks.specs.Permutations.{place_of, bank_at, IsTable, AreApart}
use Rattle.lane_banks.proofs.BankCells.{place-inside}
use Rattle.lane_banks.proofs.BankRows.{read-number}
use Rattle.window_rows.proofs.Columns.{number-in_same, number-in_other}

-- a bank of a row that was read
pub read-bank : (banks : List (List ℕ)) (j t : ℕ) (row : List ℕ) → j < length banks → row ≡ get_or banks j row → slice_index row t ≡ bank_at banks j t
read-bank banks j t row lt e = ap (λ (xs : List ℕ). slice_index xs t) (e ∙ get_or_default banks j row [] lt)

-- a table of the steps before one of them
pub record IsTableTo (n w steps : ℕ) (place : ℕ → ℕ) (rows : List ℕ) (banks : List (List ℕ)) : Type 0 where
  pub row : (j : ℕ) → j < steps → slice_index rows j < w
  pub bank : (j t : ℕ) → j < steps → t < n → bank_at banks j t < n
  pub stands : (j t : ℕ) → j < steps → t < n → bank_at banks j t * w + slice_index rows j ≡ place_of place w t j

pub no-table : (n w : ℕ) (place : ℕ → ℕ) (rows : List ℕ) (banks : List (List ℕ)) → IsTableTo n w 0 place rows banks
no-table n w place rows banks = record {
  row = λ j lt. absurd (omega (arith, lt));
  bank = λ j t lt. absurd (omega (arith, lt));
  stands = λ j t lt. absurd (omega (arith, lt));
}

pub whole-table : (n w steps : ℕ) (place : ℕ → ℕ) (rows : List ℕ) (banks : List (List ℕ)) → w ≤ steps → IsTableTo n w steps place rows banks → IsTable n w place rows banks
whole-table n w steps place rows banks le table = record {
  row = λ j lt. table.row j (omega (arith, lt, le));
  bank = λ j t lt. table.bank j t (omega (arith, lt, le));
  stands = λ j t lt. table.stands j t (omega (arith, lt, le));
}

pub same_table : (n w steps : ℕ) (place : ℕ → ℕ) {rows more : List ℕ} {banks others : List (List ℕ)} → rows ≡ more → banks ≡ others
    → IsTableTo n w steps place more others → IsTableTo n w steps place rows banks
same_table n w steps place {rows} {more} {banks} {others} er eb table =
    subst (λ (xs : List ℕ). IsTableTo n w steps place xs banks) (sym er) (subst (λ (xs : List (List ℕ)). IsTableTo n w steps place more xs) (sym eb) table)

-- a table by other names of the places
pub table-by : (n w : ℕ) (p q : ℕ → ℕ) (rows : List ℕ) (banks : List (List ℕ)) → ((i : ℕ) → i < n * w → p i ≡ q i) → IsTable n w p rows banks → IsTable n w q rows banks
table-by n w p q rows banks same table = record {
  row = table.row;
  bank = table.bank;
  stands = λ j t lj lt. table.stands j t lj lt ∙ same (t * w + j) (place-inside n w t j lt lj);
}

-- the permutation of one more step
pub table-more : (n w j : ℕ) (place : ℕ → ℕ) (rows : List ℕ) (banks : List (List ℕ)) (row : ℕ) (bank : List ℕ)
    → j < length rows → j < length banks → IsTableTo n w j place rows banks → row < w
    → ((t : ℕ) → t < n → slice_index bank t < n) → ((t : ℕ) → t < n → slice_index bank t * w + row ≡ place_of place w t j)
    → IsTableTo n w (j + 1) place (set rows j row) (set banks j bank)
table-more n w j place rows banks row bank lr lb table below here stands = record {
  row = λ i li. elim (cases_eq i j) [
    | inl e ↦ subst (λ (x : ℕ). x < w) (sym (ap (slice_index (set rows j row)) e ∙ get_or-set_same rows j row 0 lr)) below
    | inr ne ↦ subst (λ (x : ℕ). x < w) (sym (get_or-set_other rows j i row 0 ne)) (table.row i (omega (arith, li, ne)))
  ];
  bank = λ i t li lt. elim (cases_eq i j) [
    | inl e ↦ subst (λ (x : ℕ). x < n) (sym (bank-here i t e)) (here t lt)
    | inr ne ↦ subst (λ (x : ℕ). x < n) (sym (bank-other i t ne)) (table.bank i t (omega (arith, li, ne)) lt)
  ];
  stands = λ i t li lt. elim (cases_eq i j) [
    | inl e ↦
        ap (λ (b : ℕ). b * w + slice_index (set rows j row) i) (bank-here i t e)
        ∙ (ap (λ (r : ℕ). slice_index bank t * w + r) (ap (slice_index (set rows j row)) e ∙ get_or-set_same rows j row 0 lr)
        ∙ (stands t lt ∙ ap (λ (k : ℕ). place_of place w t k) (sym e)))
    | inr ne ↦
        ap (λ (b : ℕ). b * w + slice_index (set rows j row) i) (bank-other i t ne)
        ∙ (ap (λ (r : ℕ). bank_at banks i t * w + r) (get_or-set_other rows j i row 0 ne) ∙ table.stands i t (omega (arith, li, ne)) lt)
  ];
}
  where
    bank-here : (i t : ℕ) → i ≡ j → bank_at (set banks j bank) i t ≡ slice_index bank t
    bank-here i t e = ap (λ (k : ℕ). bank_at (set banks j bank) k t) e ∙ ap (λ (xs : List ℕ). slice_index xs t) (get_or-set_same banks j bank [] lb)

    bank-other : (i t : ℕ) → (i ≡ j → ⊥) → bank_at (set banks j bank) i t ≡ bank_at banks i t
    bank-other i t ne = ap (λ (xs : List ℕ). slice_index xs t) (get_or-set_other banks j i bank [] ne)

module _ (n w : ℕ) (place : ℕ → ℕ) (rows : List ℕ) (banks : List (List ℕ)) (table : IsTable n w place rows banks) where
  -- the banks of one step are apart
  pub banks_apart : AreApart n w place → (j t u : ℕ) → j < w → t < n → u < n → bank_at banks j t ≡ bank_at banks j u → t ≡ u
  banks_apart apart j t u lj lt lu e =
      let same : place (t * w + j) ≡ place (u * w + j) = sym (table.stands j t lj lt) ∙ (ap (λ (b : ℕ). b * w + slice_index rows j) e ∙ table.stands j u lj lu) in
      (same_from_place t j u j w lj lj (apart (t * w + j) (u * w + j) (place-inside n w t j lt lj) (place-inside n w u j lu lj) same)).0

  -- the banks of another step in the same row are others
  pub banks_elsewhere : AreApart n w place → (i j t u : ℕ) → i < w → j < w → t < n → u < n → slice_index rows i ≡ slice_index rows j → (i ≡ j → ⊥) → bank_at banks j u ≡ bank_at banks i t → ⊥
  banks_elsewhere apart i j t u li lj lt lu er ne e =
      let same : place (u * w + j) ≡ place (t * w + i) =
      sym (table.stands j u lj lu) ∙ (ap (λ (b : ℕ). b * w + slice_index rows j) e ∙ (ap (λ (r : ℕ). bank_at banks i t * w + r) (sym er) ∙ table.stands i t li lt)) in
      let both = same_from_place u j t i w lj li (apart (u * w + j) (t * w + i) (place-inside n w u j lu lj) (place-inside n w t i lt li) same) in
      ne (sym both.1)

  -- one more step is put back
  pub put-more : AreApart n w place → (from to : List (List ℤ)) (j : ℕ) (new : List ℤ) → j < w → length to ≡ w
      → ((t : ℕ) → t < n → at new (bank_at banks j t) ≡ number_in from j t)
      → ((b : ℕ) → b < n → ((t : ℕ) → t < n → bank_at banks j t ≡ b → ⊥) → ⊥)
      → ((i t : ℕ) → i < j → t < n → number_in to (slice_index rows i) (bank_at banks i t) ≡ number_in from i t)
      → (i t : ℕ) → i < j + 1 → t < n → number_in (set to (slice_index rows j) new) (slice_index rows i) (bank_at banks i t) ≡ number_in from i t
  put-more apart from to j new lj long put reached done i t li lt =
      let inside : slice_index rows j < length to = omega (arith, long, table.row j lj) in
      elim (cases_eq i j) [
        | inl e ↦ subst (λ (k : ℕ). number_in (set to (slice_index rows j) new) (slice_index rows k) (bank_at banks k t) ≡ number_in from k t) (sym e)
            (number-in_same to (slice_index rows j) (bank_at banks j t) new inside ∙ put t lt)
        | inr ne ↦ (
            let before : i < j = omega (arith, li, ne) in
            elim (cases_eq (slice_index rows i) (slice_index rows j)) [
              | inl er ↦ absurd (reached (bank_at banks i t) (table.bank i t (omega (arith, before, lj)) lt)
                  (λ u lu e. banks_elsewhere apart i j t u (omega (arith, before, lj)) lj lt lu er ne e))
              | inr nr ↦ number-in_other to (slice_index rows j) (slice_index rows i) (bank_at banks i t) new nr ∙ done i t before lt
            ])
      ]

  -- one more step is brought
  pub bring-more : (from to : List (List ℤ)) (j : ℕ) (source new : List ℤ) → j < w → length to ≡ w → length from ≡ w
      → source ≡ get_or from (slice_index rows j) source
      → ((t : ℕ) → t < n → at new t ≡ at source (bank_at banks j t))
      → ((i t : ℕ) → i < j → t < n → number_in to i t ≡ number_in from (slice_index rows i) (bank_at banks i t))
      → (i t : ℕ) → i < j + 1 → t < n → number_in (set to j new) i t ≡ number_in from (slice_index rows i) (bank_at banks i t)
  bring-more from to j source new lj long full read brought done i t li lt =
      elim (cases_eq i j) [
        | inl e ↦ subst (λ (k : ℕ). number_in (set to j new) k t ≡ number_in from (slice_index rows k) (bank_at banks k t)) (sym e)
            (number-in_same to j t new (omega (arith, long, lj)) ∙ (brought t lt ∙ read-number from (slice_index rows j) (bank_at banks j t) source (omega (arith, full, table.row j lj)) read))
        | inr ne ↦ number-in_other to j i t new ne ∙ done i t (omega (arith, li, ne)) lt
      ]
