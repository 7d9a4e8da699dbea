-- The cells of banks by place, and by row and bank.
use Rattle.std.proofs.Common.{◌≡◌, ℕ, pos, [], ◌-◌, drop, replicate, Bool, true, false, nat_lt, ◌+◌, ◌*◌, ◌/◌, ◌%◌, ◌<◌, ◌≤◌, ℤ, List, length, get_or, map, sym, ap, ◌∙◌, subst, refl, arith, inl, inr}
use Rattle.std.proofs.lemmas.Bool.{cases_lt, ltb-true, ltb-false}
use Rattle.std.specs.Prelude.{if◌then◌else◌}
use Rattle.std.proofs.lemmas.Int.{ints}
use Rattle.lte_bits.specs.Softs.{IsWithin}
use Rattle.lte_bits.specs.declared.bit.Bit.TheVariants.{Zero}
use Rattle.model_receiver.specs.Decoding.{decided_bit, decided_bits}
use Rattle.std.proofs.lemmas.List.{ext_get_or, get_or_past, get_or-replicate, length-replicate, get_or-map, get_or_append_left, get_or-append-add, get_or-drop, length-append, length-drop, length-map}
use Rattle.std.proofs.lemmas.List.FromFn.{length-map-range_with_len, get_or-map-range_with_len}
use Rattle.std.proofs.lemmas.Nat.{div-mul-add, mod-mul-add, mul-add-lt, div_below, mod_below, div-add-mod'}
use Rattle.model_receiver.specs.Borders.{at}
use Rattle.model_receiver.specs.Windows.{Extrinsic, zero_cell, cell_at}
use Rattle.window_rows.specs.Rows.{IsLaneCount, AreWithin, number_in}
use Rattle.lane_banks.specs.Banks.{cell_of, cell_in, cells_by_place}

-- the place of a row and a bank is one of n * w
pub place-inside : (n w b r : ℕ) → b < n → r < w → b * w + r < n * w
place-inside n w b r lb lr = let m = mul-add-lt b w r n lb lr in let c : w * n ≡ n * w = omega arith in omega (arith, m, c)

module _ (n w : ℕ) (values sums : List (List ℤ)) where
  pub length-by_place : length (cells_by_place n w values sums) ≡ n * w
  length-by_place = length-map-range_with_len (λ i. cell_in values sums (i % w) (i / w)) 0 (n * w)

  pub cell-by_place : (i : ℕ) → i < n * w → cell_at (cells_by_place n w values sums) i ≡ cell_in values sums (i % w) (i / w)
  cell-by_place i lt = get_or-map-range_with_len (λ i. cell_in values sums (i % w) (i / w)) 0 (n * w) i i zero_cell lt (omega arith)

  -- a bank's cell in a row
  pub cell-in_bank : (b r : ℕ) → b < n → r < w → cell_at (cells_by_place n w values sums) (b * w + r) ≡ cell_in values sums r b
  cell-in_bank b r lb lr =
      cell-by_place (b * w + r) (place-inside n w b r lb lr)
      ∙ (ap (λ (k : ℕ). cell_in values sums k ((b * w + r) / w)) (mod-mul-add b w r lr)
      ∙ ap (λ (k : ℕ). cell_in values sums r k) (div-mul-add b w r lr))

-- n banks of w cells have w rows
pub rows-of_product : (n w k : ℕ) → 1 ≤ n → k ≡ n * w → k / n ≡ w
rows-of_product n w k some e =
    let p : n * w ≡ w * n + 0 = omega arith in
    ap (λ (m : ℕ). m / n) (e ∙ p) ∙ div-mul-add w n 0 (omega (arith, some))

pub lanes-some : (n : ℕ) → IsLaneCount n → 1 ≤ n
lanes-some n (inl e) = omega (arith, e)
lanes-some n (inr (inl e)) = omega (arith, e)
lanes-some n (inr (inr e)) = omega (arith, e)

pub lanes-few : (n : ℕ) → IsLaneCount n → n ≤ 32
lanes-few n (inl e) = omega (arith, e)
lanes-few n (inr (inl e)) = omega (arith, e)
lanes-few n (inr (inr e)) = omega (arith, e)

pub lanes-least : (n : ℕ) → IsLaneCount n → 8 ≤ n
lanes-least n (inl e) = omega (arith, e)
lanes-least n (inr (inl e)) = omega (arith, e)
lanes-least n (inr (inr e)) = omega (arith, e)

-- rows of a few bytes a lane fit the memory
pub fits-twice : (n : ℕ) → IsLaneCount n → n * 2 < 9223372036854775808
fits-twice n lanes = let few = lanes-few n lanes in omega (arith, few)

pub fits-once : (n : ℕ) → IsLaneCount n → n * 1 < 9223372036854775808
fits-once n lanes = let few = lanes-few n lanes in omega (arith, few)

pub fits-four_times : (n : ℕ) → IsLaneCount n → n * 4 < 9223372036854775808
fits-four_times n lanes = let few = lanes-few n lanes in omega (arith, few)

-- ---- rows of zeros

zero-at : (n t : ℕ) → at (replicate n (pos 0)) t ≡ pos 0
zero-at n t = elim (cases_lt t n) [
  | inl lt ↦ get_or-replicate n t (pos 0) (pos 0) lt
  | inr le ↦ get_or_past (replicate n (pos 0)) t (pos 0) (omega (arith, length-replicate n (pos 0), le))
]

zero-number : (w n j t : ℕ) → number_in (replicate w (replicate n (pos 0))) j t ≡ pos 0
zero-number w n j t = elim (cases_lt j w) [
  | inl lt ↦ ap (λ (xs : List ℤ). at xs t) (get_or-replicate w j (replicate n (pos 0)) [] lt) ∙ zero-at n t
  | inr le ↦ ap (λ (xs : List ℤ). at xs t) (get_or_past (replicate w (replicate n (pos 0))) j [] (omega (arith, length-replicate w (replicate n (pos 0)), le)))
]

pub zero-within : (n w : ℕ) (rows : List (List ℤ)) → rows ≡ replicate w (replicate n (pos 0)) → AreWithin n 511 rows
zero-within n w rows e j t lj lt =
    subst (IsWithin 511) (sym (ap (λ (xs : List (List ℤ)). number_in xs j t) e ∙ zero-number w n j t)) (omega (arith, ints), omega (arith, ints))

pub zero-cells : (n w : ℕ) (values sums : List (List ℤ)) → values ≡ replicate w (replicate n (pos 0)) → sums ≡ replicate w (replicate n (pos 0))
    → cells_by_place n (length values) values sums ≡ replicate (n * w) zero_cell
zero-cells n w values sums ev es =
    let long : length values ≡ w = ap length ev ∙ length-replicate w (replicate n (pos 0)) in
    ap (λ (k : ℕ). cells_by_place n k values sums) long
    ∙ ext_get_or zero_cell _ _ (length-by_place n w values sums ∙ sym (length-replicate (n * w) zero_cell))
    (λ i lt. let li : i < n * w = omega (arith, length-by_place n w values sums, lt) in
    cell-by_place n w values sums i li
    ∙ (both (number_in values (i % w) (i / w)) (number_in sums (i % w) (i / w))
    (ap (λ (xs : List (List ℤ)). number_in xs (i % w) (i / w)) ev ∙ zero-number w n (i % w) (i / w))
    (ap (λ (xs : List (List ℤ)). number_in xs (i % w) (i / w)) es ∙ zero-number w n (i % w) (i / w))
    ∙ sym (get_or-replicate (n * w) i zero_cell zero_cell li)))
  where
    both : (v s : ℤ) → v ≡ pos 0 → s ≡ pos 0 → cell_of v s ≡ zero_cell
    both v s ev es = ap (λ (x : ℤ). cell_of x s) ev ∙ ap (cell_of (pos 0)) es

-- ---- cells that are equal in each bank and row

pub same-by_banks : (n w : ℕ) (xs ys : List Extrinsic) → 1 ≤ w → length xs ≡ n * w → length ys ≡ n * w
    → ((s b : ℕ) → s < w → b < n → cell_at xs (b * w + s) ≡ cell_at ys (b * w + s)) → xs ≡ ys
same-by_banks n w xs ys some ex ey same =
    ext_get_or zero_cell xs ys (ex ∙ sym ey)
    (λ i lt. let e : (i / w) * w + i % w ≡ i = div-add-mod' i w in
    subst (λ (k : ℕ). cell_at xs k ≡ cell_at ys k) e
    (same (i % w) (i / w) (mod_below i w (omega (arith, some))) (div_below i w n (omega (arith, some)) (omega (arith, ex, lt)))))

-- the bank of a place
pub bank-below : (n w b r i : ℕ) → b * w + r ≡ i → r < w → i < n * w → b < n
bank-below n w b r i e lr lt = let d = div_below i w n (omega (arith, lr)) lt in let q = div-mul-add b w r lr in omega (arith, d, q, ap (λ (k : ℕ). k / w) e)

-- ---- the decided bit of a place

pub bit-at : (fill i : ℕ) (cells : List Extrinsic) → i < length cells
    → (if nat_lt i fill then Zero else decided_bit (cell_at cells i)) ≡ get_or (decided_bits fill cells) i Zero
bit-at fill i cells lt = by_test (nat_lt i fill) refl
  where
    value : decided_bit (cell_at cells i) ≡ get_or (map decided_bit cells) i Zero
    value = sym (get_or-map decided_bit cells i zero_cell Zero lt)

    by_test : (b : Bool) → nat_lt i fill ≡ b → (if b then Zero else decided_bit (cell_at cells i)) ≡ get_or (decided_bits fill cells) i Zero
    by_test true h =
        let l : i < fill = ltb-true i fill h in
        sym (get_or_append_left (replicate fill Zero) (drop fill (map decided_bit cells)) Zero i (omega (arith, length-replicate fill Zero, l)) ∙ get_or-replicate fill i Zero Zero l)
    by_test false h =
        let l : fill ≤ i = ltb-false i fill h in
        let a : fill + (i - fill) ≡ i = omega (arith, l) in
        let long : length (replicate fill Zero) + (i - fill) ≡ i = omega (arith, length-replicate fill Zero, l) in
        value
        ∙ (ap (λ (k : ℕ). get_or (map decided_bit cells) k Zero) (sym a)
        ∙ (sym (get_or-drop fill (map decided_bit cells) (i - fill) Zero)
        ∙ (sym (get_or-append-add (replicate fill Zero) (drop fill (map decided_bit cells)) (i - fill) Zero)
        ∙ ap (λ (k : ℕ). get_or (decided_bits fill cells) k Zero) long)))

pub length-decided : (fill : ℕ) (cells : List Extrinsic) → fill ≤ length cells → length (decided_bits fill cells) ≡ length cells
length-decided fill cells le =
    omega (arith, length-append (replicate fill Zero) (drop fill (map decided_bit cells)), length-replicate fill Zero, length-drop fill (map decided_bit cells), length-map cells decided_bit)
