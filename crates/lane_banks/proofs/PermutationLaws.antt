-- Rows and banks of the cells of all windows at one step.
use Rattle.std.proofs.Common.{◌≡◌, ℕ, zero, suc, ◌+◌, ◌*◌, ◌/◌, ◌%◌, ◌<◌, List, length, get_or, sym, ap, ◌∙◌, subst, arith}
use Prim.Native.Nat.{◌∣◌}
use Rattle.std.proofs.Math.Nat.{dvd-mul_right}
use Rattle.std.proofs.lemmas.List.FromFn.{length-map-range_with_len, get_or-map-range_with_len}
use Rattle.std.proofs.lemmas.Nat.{div_below, mod-mul-add, div-add-mod', same_from_place}
use Rattle.qpp_table.specs.Qpp.{size_in, value_at}
use Rattle.qpp_table.specs.QppLaws.{value-below, values_differ, value-kept}
use Rattle.model_sender.specs.Interleaver.{place, row_of}
use Rattle.model_sender.specs.InterleaverLaws.{pi_remainder}
use Rattle.model_receiver.proofs.PlacesFilled.{reached-all}
use Rattle.cell_shares.specs.declared.order.Order.{Order}
use Rattle.cell_shares.specs.declared.order.Order.TheVariants.{Natural, Interleaved}
use Rattle.cell_shares.specs.Orders.{place_in, IsOrderOf}
use Rattle.lane_banks.specs.Permutations.{place_of, row_of_step, crossbar_of, HasEachOnce, AreApart}
use Rattle.lane_banks.proofs.BankCells.{place-inside}

place-below : (order : Order) (k i : ℕ) → IsOrderOf k order → i < k → place_in order i < k
place-below Natural k i e lt = lt
place-below (Interleaved q) k i e lt = subst (λ (n : ℕ). value_at q i < n) e (value-below q i (subst (λ (n : ℕ). i < n) (sym e) lt))

places_differ : (order : Order) (k i j : ℕ) → IsOrderOf k order → i < k → j < k → place_in order i ≡ place_in order j → i ≡ j
places_differ Natural k i j e li lj same = same
places_differ (Interleaved q) k i j e li lj same = values_differ q i j (subst (λ (n : ℕ). i < n) (sym e) li) (subst (λ (n : ℕ). j < n) (sym e) lj) same

divides : (n w k : ℕ) → k ≡ n * w → w ∣ k
divides n w k e = subst (λ (x : ℕ). w ∣ x) ((let s : w * n ≡ n * w = omega arith in s) ∙ sym e) (dvd-mul_right w n)

-- the cells of a step are in one row
pub one-row : (order : Order) (n w t j : ℕ) → IsOrderOf (n * w) order → t < n → j < w → place_of (place_in order) w t j % w ≡ row_of_step order w j
one-row Natural n w t j e lt lj = mod-mul-add t w j lj ∙ (sym (mod-mul-add 0 w j lj) ∙ ap (λ (k : ℕ). k % w) (let s : 0 * w + j ≡ j = omega arith in s))
one-row (Interleaved q) n w t j e lt lj = rows t lt
  where
    rows : (t : ℕ) → t < n → value_at q (t * w + j) % w ≡ value_at q j % w
    rows zero lt = ap (λ (k : ℕ). value_at q k % w) (let s : 0 * w + j ≡ j = omega arith in s)
    rows (suc t) lt =
        let s : suc t * w + j ≡ t * w + j + w = omega arith in
        let inside : t * w + j + w < size_in q = subst (λ (k : ℕ). k < size_in q) s (subst (λ (k : ℕ). suc t * w + j < k) (sym e) (place-inside n w (suc t) j lt lj)) in
        ap (λ (k : ℕ). value_at q k % w) s ∙ (value-kept q (t * w + j) w (divides n w (size_in q) e) inside ∙ rows t (omega (arith, lt)))

module _ (order : Order) (n w j : ℕ) (e : IsOrderOf (n * w) order) (lj : j < w) where
  bank_of : ℕ → ℕ
  bank_of t = place_of (place_in order) w t j / w

  pub bank-below_count : (t : ℕ) → t < n → place_of (place_in order) w t j / w < n
  bank-below_count t lt = div_below (place_of (place_in order) w t j) w n (omega (arith, lj)) (place-below order (n * w) (t * w + j) e (place-inside n w t j lt lj))

  -- a bank and the row make the place
  pub place-made : (t : ℕ) → t < n → (place_of (place_in order) w t j / w) * w + row_of_step order w j ≡ place_of (place_in order) w t j
  place-made t lt =
      ap (λ (r : ℕ). (place_of (place_in order) w t j / w) * w + r) (sym (one-row order n w t j e lt lj)) ∙ div-add-mod' (place_of (place_in order) w t j) w

  pub banks-apart : (t u : ℕ) → t < n → u < n → place_of (place_in order) w t j / w ≡ place_of (place_in order) w u j / w → t ≡ u
  banks-apart t u lt lu same =
      let places : place_of (place_in order) w t j ≡ place_of (place_in order) w u j =
      sym (place-made t lt) ∙ (ap (λ (b : ℕ). b * w + row_of_step order w j) same ∙ place-made u lu) in
      (same_from_place t j u j w lj lj (places_differ order (n * w) (t * w + j) (u * w + j) e (place-inside n w t j lt lj) (place-inside n w u j lu lj) places)).0

  banks-at : (banks : List ℕ) → banks ≡ crossbar_of n order w j → (t : ℕ) → t < n → get_or banks t 0 ≡ place_of (place_in order) w t j / w
  banks-at banks eb t lt =
      ap (λ (xs : List ℕ). get_or xs t 0) eb
      ∙ get_or-map-range_with_len (λ (t : ℕ). place_of (place_in order) w t j / w) 0 n t t 0 lt (omega arith)

  -- the crossbar is a permutation of the banks
  pub each-once : (banks : List ℕ) → banks ≡ crossbar_of n order w j → HasEachOnce n banks
  each-once banks eb = record {
    long = ap length eb ∙ length-map-range_with_len (λ (t : ℕ). place_of (place_in order) w t j / w) 0 n;
    below = λ t lt. subst (λ (b : ℕ). b < n) (sym (banks-at banks eb t lt)) (bank-below_count t lt);
    apart = λ t u lt lu same. banks-apart t u lt lu (sym (banks-at banks eb t lt) ∙ (same ∙ banks-at banks eb u lu));
    reached = λ b lb.
        let h = reached-all n (λ (t : ℕ). place_of (place_in order) w t j / w) b (record { below = bank-below_count; apart = banks-apart }) lb in
        (h.0, h.1, banks-at banks eb h.0 h.1 ∙ h.2);
  }

  pub made-by_crossbar : (banks : List ℕ) (r : ℕ) → banks ≡ crossbar_of n order w j → r ≡ row_of_step order w j → (t : ℕ) → t < n
      → get_or banks t 0 * w + r ≡ place_of (place_in order) w t j
  made-by_crossbar banks r eb er t lt =
      ap (λ (b : ℕ). b * w + r) (banks-at banks eb t lt) ∙ (ap (λ (k : ℕ). (place_of (place_in order) w t j / w) * w + k) er ∙ place-made t lt)

-- different positions are at different places
pub order-apart : (order : Order) (n w : ℕ) → IsOrderOf (n * w) order → AreApart n w (place_in order)
order-apart order n w e i j li lj same = places_differ order (n * w) i j e li lj same

-- the same for the places of a code block
pub place-one_row : (k n w t j : ℕ) → k ≡ n * w → place k (t * w + j) % w ≡ place k j % w
place-one_row k n w zero j e = ap (λ (i : ℕ). place k i % w) (let s : 0 * w + j ≡ j = omega arith in s)
place-one_row k n w (suc t) j e =
    ap (λ (i : ℕ). place k i % w) (let s : suc t * w + j ≡ t * w + j + w = omega arith in s)
    ∙ (pi_remainder k (row_of k).1 (row_of k).2 w (t * w + j) (divides n w k e) ∙ place-one_row k n w t j e)
