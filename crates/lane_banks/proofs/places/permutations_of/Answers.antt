use Rattle.std.proofs.Common.{◌≡◌, ℕ, ◌+◌, ◌*◌, ◌/◌, ◌<◌, List, length, map, sym, ap, ◌∙◌, subst, arith}
use Rattle.std.specs.Prelude.{slice_index}
use Rattle.std.specs.List.{range_with_len}
use Rattle.std.proofs.lemmas.List.{length-set}
use Rattle.std.proofs.lemmas.List.FromFn.{length-map-range_with_len}
use Rattle.std.proofs.lemmas.Nat.{mod_below, div_below, div-add-mod'}
use Rattle.window_rows.specs.Rows.{IsLaneCount}
use Rattle.lane_banks.proofs.BankCells.{fits-once, place-inside, lanes-some}
use Rattle.lane_banks.proofs.PermutationSteps.{same_table, no-table, whole-table, table-more}
use Rattle.lane_banks.proofs.places.permutations_of.Goals as goal

-- the banks of all places
long-banks : (w k : ℕ) (banks : List ℕ) → banks ≡ map (λ n. n / w) (range_with_len 0 k) → length banks ≡ k
long-banks w k banks e = ap length e ∙ length-map-range_with_len (λ n. n / w) 0 k

own-banks : (w k : ℕ) (banks : List ℕ) → banks ≡ map (λ n. n / w) (range_with_len 0 k) → banks ≡ map (λ n. n / w) (range_with_len 0 (length banks))
own-banks w k banks e = e ∙ ap (λ (m : ℕ). map (λ n. n / w) (range_with_len 0 m)) (sym (long-banks w k banks e))

first-row : (n w j : ℕ) → IsLaneCount n → j < w → j < n * w
first-row n w j lanes lt = subst (λ (k : ℕ). k < n * w) (let s : 0 * w + j ≡ j = omega arith in s) (place-inside n w 0 j (lanes-some n lanes) lt)

pub loop-j-init : goal.loop-j-init
loop-j-init g c = record {
  rows = c.in_ok-permutations.ensures.rows;
  banks = c.in_ok-permutations.ensures.banks;
  table = no-table g.row.N c.args.width (slice_index c.args.places.now) c.in_ok-permutations.permutations.rows.items c.in_ok-permutations.permutations.banks.items;
}

pub row_at-row-requires : goal.row_at-row-requires
row_at-row-requires g c =
    let n = g.row.N in let w = c.args.width in let k : ℕ = n * w in
    let banks = c.as_slice-banks.result.now in
    let e : banks ≡ map (λ i. i / w) (range_with_len 0 k) = c.as_slice-banks.ensures.value ∙ c.in_ok-banks.ensures in
    let lj : c.loop-j.j < n * w = first-row n w c.loop-j.j c.requires.lanes c.loop-j-test.true in
    record {
      position = omega (arith, lj, c.requires.places);
      place = omega (arith, c.requires.below c.loop-j.j lj, long-banks w k banks e, c.requires.places);
      banks = own-banks w k banks e;
      some = omega (arith, c.requires.least);
    }

pub banks_at-requires : goal.banks_at-requires
banks_at-requires g c =
    let n = g.row.N in let w = c.args.width in let k : ℕ = n * w in
    let banks = c.as_slice-banks.result.now in
    let e : banks ≡ map (λ i. i / w) (range_with_len 0 k) = c.as_slice-banks.ensures.value ∙ c.in_ok-banks.ensures in
    let below : (i : ℕ) → i < length c.args.places.now → slice_index c.args.places.now i < length banks =
    λ i li. (let b = c.requires.below i (omega (arith, li, c.requires.places)) in omega (arith, b, long-banks w k banks e, c.requires.places)) in
    (fits-once n c.requires.lanes, (c.loop-j-test.true, (c.requires.places, (below, own-banks w k banks e))))

pub set-requires : goal.set-requires
set-requires g c =
    let l = c.loop-j in let inv = l.invariant in
    let lr : l.j < length l.permutations.rows.items = omega (arith, c.loop-j-test.true, inv.rows) in
    let lb : l.j < length l.permutations.banks.items = omega (arith, c.loop-j-test.true, inv.banks) in
    (omega arith, (fits-once g.row.N c.requires.lanes, (c.requires.lanes, (lr, lb))))

pub loop-j-preserved : goal.loop-j-preserved
loop-j-preserved g c =
    let n = g.row.N in let w = c.args.width in let l = c.loop-j in let inv = l.invariant in
    let place : ℕ → ℕ = slice_index c.args.places.now in
    let lj : l.j < w = c.loop-j-test.true in
    let some : 0 < w = omega (arith, c.requires.least) in
    let lr : l.j < length l.permutations.rows.items = omega (arith, lj, inv.rows) in
    let lb : l.j < length l.permutations.banks.items = omega (arith, lj, inv.banks) in
    let row = c.row_at-row.result in let banks = c.banks_at.result in
    record {
      rows = ap length c.set.ensures.rows ∙ (length-set l.permutations.rows.items l.j row ∙ inv.rows);
      banks = ap length c.set.ensures.banks ∙ (length-set l.permutations.banks.items l.j banks ∙ inv.banks);
      table = same_table n w (l.j + 1) place c.set.ensures.rows c.set.ensures.banks
          (table-more n w l.j place l.permutations.rows.items l.permutations.banks.items row banks lr lb inv.table
          (subst (λ (r : ℕ). r < w) (sym c.row_at-row.ensures) (mod_below (place l.j) w some))
          (λ t lt. subst (λ (b : ℕ). b < n) (sym (c.banks_at.ensures t lt)) (div_below (place (t * w + l.j)) w n some (c.requires.below (t * w + l.j) (place-inside n w t l.j lt lj))))
          (λ t lt.
          ap (λ (b : ℕ). b * w + row) (c.banks_at.ensures t lt)
          ∙ (ap (λ (r : ℕ). (place (t * w + l.j) / w) * w + r) (c.row_at-row.ensures ∙ sym (c.requires.one_row t l.j lt lj)) ∙ div-add-mod' (place (t * w + l.j)) w)));
    }

pub returns-clause-table : goal.returns-clause-table
returns-clause-table g c =
    let l = c.loop-j in
    whole-table g.row.N c.args.width l.j (slice_index c.args.places.now) l.permutations.rows.items l.permutations.banks.items c.loop-j-test.false l.invariant.table
