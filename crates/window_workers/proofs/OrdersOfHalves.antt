-- The orders of the halves as orders of shares.
use Rattle.std.proofs.Common.{◌≡◌, ℕ, ◌%◌, ◌==◌, ◌<◌, ◌≤◌, Bool, true, false, cond, Option, Some, None, Contains, refl, sym, ap, ◌∙◌}
use mathlib.Core.HLevel.{is_prop→PathP}
use Rattle.std.specs.Coded.{le_prop}
use Rattle.std.proofs.Math.Logic.{∥∥₁_prop}
use Rattle.model_sender.specs.declared.rows.Row.{Row}
use Rattle.model_sender.specs.Interleaver.{Lawful, pi, sizes, row_of, place}
use Rattle.model_sender.proofs.RowLaws.{row_found}
use Rattle.qpp_table.specs.declared.interleaver.Qpp.{Qpp}
use Rattle.qpp_table.specs.Qpp.{row_in}
use Rattle.model_receiver.specs.HalfIteration.{order}
use Rattle.cell_shares.specs.declared.order.Order.{Order}
use Rattle.cell_shares.specs.declared.order.Order.TheVariants.{Natural, Interleaved}
use Rattle.cell_shares.specs.Orders.{place_in, IsOrderOf}
use Rattle.cell_shares.proofs.Nones.{none_some, some_same}
use Rattle.window_workers.specs.Orders.{row_for, IsOrderIn}

row_at : Bool → ℕ → Option Row
row_at b k = cond b None (Some (row_of k))

-- positions stand for the places of the half
pub place-of_order : (k h : ℕ) (o : Order) → Contains sizes k → IsOrderIn k h o → (i : ℕ) → place_in o i ≡ order k h i
place-of_order k h o size is i = by_test (h % 2 == 0) o is
  where
    by_test : (b : Bool) (o : Order) → row_for o ≡ cond b None (Some (row_of k)) → place_in o i ≡ cond b i (place k i)
    by_test true Natural e = refl
    by_test true (Interleaved q) e = absurd (none_some _ (sym e))
    by_test false Natural e = absurd (none_some _ e)
    by_test false (Interleaved q) e =
        let r : row_in q ≡ row_of k = some_same _ _ e in
        ap (λ (s : Row). pi s.0 s.1 s.2 i) r ∙ ap (λ (n : ℕ). pi n (row_of k).1 (row_of k).2 i) (row_found k size).size

-- and the order is one of k places
pub order-is_of : (k h : ℕ) (o : Order) → Contains sizes k → IsOrderIn k h o → IsOrderOf k o
order-is_of k h o size is = by_test (h % 2 == 0) o is
  where
    by_test : (b : Bool) (o : Order) → row_for o ≡ cond b None (Some (row_of k)) → IsOrderOf k o
    by_test b Natural e = refl
    by_test true (Interleaved q) e = absurd (none_some _ (sym e))
    by_test false (Interleaved q) e = ap (λ (s : Row). s.0) (some_same _ _ e) ∙ (row_found k size).size

-- interleavers of one row are the same
pub same-interleaver : (q r : Qpp) → row_in q ≡ row_in r → q ≡ r
same-interleaver q r e = λ i. record {
  k = (e i).0;
  f1 = (e i).1;
  f2 = (e i).2;
  lawful = is_prop→PathP (λ j. ∥ Lawful (e j).0 (e j).1 (e j).2 ∥₁) (λ j. ∥∥₁_prop) q.lawful r.lawful i;
  size_bound = is_prop→PathP (λ j. (e j).0 ≤ 6144) (λ j. le_prop) q.size_bound r.size_bound i;
  f1_bound = is_prop→PathP (λ j. (e j).1 < 1024) (λ j. le_prop) q.f1_bound r.f1_bound i;
  f2_bound = is_prop→PathP (λ j. (e j).2 < 1024) (λ j. le_prop) q.f2_bound r.f2_bound i;
}

-- a half has one order
pub same-order : (a b : Order) → row_for a ≡ row_for b → a ≡ b
same-order Natural Natural e = refl
same-order Natural (Interleaved q) e = absurd (none_some _ e)
same-order (Interleaved q) Natural e = absurd (none_some _ (sym e))
same-order (Interleaved q) (Interleaved r) e = ap Interleaved (same-interleaver q r (some_same _ _ e))

-- the order of half h, by the interleaver of k places
abbrev pub half_order : ℕ → Qpp → Order
half_order h q = cond (h % 2 == 0) Natural (Interleaved q)

pub half_order-is : (k h : ℕ) (q : Qpp) → row_in q ≡ row_of k → IsOrderIn k h (half_order h q)
half_order-is k h q e = by_test (h % 2 == 0)
  where
    by_test : (b : Bool) → row_for (cond b Natural (Interleaved q)) ≡ cond b None (Some (row_of k))
    by_test true = refl
    by_test false = ap Some e
