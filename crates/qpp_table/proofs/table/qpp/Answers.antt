use Rattle.std.proofs.Common.{◌≡◌, ℕ, ◌==◌, find, List, Option, Some, Contains, subst, refl, sym, ap, ◌∙◌}
use Rattle.model_sender.specs.Interleaver.{pi, sizes, row_of, place}
use Rattle.model_sender.specs.Rows.{IsRow}
use Rattle.model_sender.specs.declared.rows.Row.{Row}
use Rattle.model_sender.specs.declared.rows.TheConstants.{ROWS}
use Rattle.model_sender.proofs.RowLaws.{size-of_find, row-of_find, no_size-of_find, row_found, row-of_size}
use Rattle.qpp_table.specs.Qpp.{row_in}
use Rattle.qpp_table.proofs.table.qpp.Goals as goal

-- what was found among the rows was found in the table
in_table : {rows : List Row} (k : ℕ) {found answer : Option Row} → found ≡ find (λ r. r.0 == k) rows → rows ≡ ROWS → found ≡ answer
    → find (λ r. r.0 == k) ROWS ≡ answer
in_table {rows = rows} k e f g = ap (λ (rs : List Row). find (λ r. r.0 == k) rs) (sym f) ∙ (sym e ∙ g)

record IsLookedUp (k : ℕ) (row : Row) : Type 0 where
  size : Contains sizes k
  own : row ≡ row_of k
  same : row.0 ≡ k
  kept : IsRow row

looked_up : {rows : List Row} (k : ℕ) {found : Option Row} {row : Row} → found ≡ find (λ r. r.0 == k) rows → rows ≡ ROWS → found ≡ Some row → IsLookedUp k row
looked_up {rows = rows} k {found = found} {row = row} e f g =
    let h = in_table {rows = rows} k {found = found} {answer = Some row} e f g in
    let size = size-of_find k row h in
    let own = row-of_find k row h in
    record {
      size = size;
      own = sym own;
      same = subst (λ (r : Row). r.0 ≡ k) own (row_found k size).size;
      kept = subst (λ (r : Row). IsRow r) own (row-of_size k size);
    }

values_agree : (k : ℕ) (q r : Row) → q ≡ r → r ≡ row_of k → r.0 ≡ k → (i : ℕ) → pi q.0 q.1 q.2 i ≡ place k i
values_agree k q r e own same i = ap (λ (s : Row). pi s.0 s.1 s.2 i) e ∙ (ap (λ (n : ℕ). pi n r.1 r.2 i) same ∙ ap (λ (s : Row). pi k s.1 s.2 i) own)

pub of_row-requires : goal.of_row-requires
of_row-requires c = (looked_up c.args.k c.find_row.ensures c.table.ensures.rows c.in-Some.is).kept

pub returns-in-Some-clause-some : goal.returns-in-Some-clause-some
returns-in-Some-clause-some c = ((λ _. (looked_up c.args.k c.find_row.ensures c.table.ensures.rows c.in-Some.is).size), (λ _. refl))

pub returns-in-Some-clause-row : goal.returns-in-Some-clause-row
returns-in-Some-clause-row c = c.of_row.ensures ∙ (looked_up c.args.k c.find_row.ensures c.table.ensures.rows c.in-Some.is).own

pub returns-in-Some-clause-size : goal.returns-in-Some-clause-size
returns-in-Some-clause-size c = ap (λ (r : Row). r.0) c.of_row.ensures ∙ (looked_up c.args.k c.find_row.ensures c.table.ensures.rows c.in-Some.is).same

pub returns-in-Some-clause-place : goal.returns-in-Some-clause-place
returns-in-Some-clause-place c =
    let found = looked_up c.args.k c.find_row.ensures c.table.ensures.rows c.in-Some.is in
    values_agree c.args.k (row_in c.of_row.result) c.in-Some.row c.of_row.ensures found.own found.same

pub returns-in-None-clause-some : goal.returns-in-None-clause-some
returns-in-None-clause-some c =
    ((λ h. absurd (cc)), (λ h. absurd (no_size-of_find c.args.k (in_table c.args.k c.find_row.ensures c.table.ensures.rows c.in-None.is) h)))
