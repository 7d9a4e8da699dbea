use Rattle.std.proofs.Common.{◌≡◌, ℕ, ◌<◌, List, [], length, get_or, sym, ap, ◌∙◌, subst, arith}
use Rattle.std.specs.Prelude.{slice_index, slice_set}
use Rattle.std.proofs.lemmas.List.{get_or_default}
use Rattle.lte_bits.specs.Softs.{IsWithin}
use Rattle.model_receiver.specs.Borders.{at}
use Rattle.window_rows.specs.Rows.{AreWithin, number_in}
use Rattle.lane_banks.specs.Permutations.{bank_at, AreDistinct, IsInverse}
use Rattle.lane_banks.proofs.PermutationSteps.{read-bank, banks_apart, put-more}
use Rattle.lane_banks.proofs.BankCells.{fits-twice, fits-once}
use Rattle.lane_banks.proofs.BankRows.{read-number}
use Rattle.lane_banks.proofs.Inverses.{bank-reached}
use Rattle.window_rows.proofs.Columns.{within-set}
use Rattle.lane_banks.proofs.permutations.LanePermutations.put_back.Goals as goal

pub bounds-to-row : goal.bounds-to-row
bounds-to-row g c =
    let l = c.loop-j in let s = c.args.self.now in
    let w : ℕ = length c.args.from.now in
    let lj : l.j < w = omega (arith, c.loop-j-test.true) in
    let lr : l.j < length s.rows.items = omega (arith, lj, c.requires.rows) in
    let row : c.from-row.result ≡ slice_index s.rows.items l.j = c.from-row.ensures ∙ (c.index.ensures ∙ get_or_default s.rows.items l.j c.index.result.now 0 lr) in
    omega (arith, row, c.requires.table.1.row l.j lj, l.auto.to, c.requires.to)

pub shuffle-requires : goal.shuffle-requires
shuffle-requires g c =
    let n = g.row.N in let l = c.loop-j in let s = c.args.self.now in
    let lj : l.j < length c.args.from.now = omega (arith, c.loop-j-test.true) in
    let lb : l.j < length s.banks.items = omega (arith, lj, c.requires.banks) in
    let below : (b : ℕ) → b < n → slice_index c.index-in-loop-j.result.now b < n =
    λ b lt. subst (λ (t : ℕ). t < n) (sym (read-bank s.windows.items l.j b c.index-in-loop-j.result.now (omega (arith, lb, s.long)) c.index-in-loop-j.ensures)) ((s.inverses l.j lb).below b lt) in
    let within : (t : ℕ) → t < n → IsWithin 32767 (at c.index-from-j.result t) =
    λ t lt. subst (IsWithin 32767) (sym (read-number c.args.from.now l.j t c.index-from-j.result lj c.index-from-j.is)) (c.requires.within l.j t lj lt) in
    (fits-twice n c.requires.lanes, (fits-once n c.requires.lanes, (c.requires.lanes, (within, below))))

pub loop-j-preserved : goal.loop-j-preserved
loop-j-preserved g c =
    let n = g.row.N in let l = c.loop-j in let inv = l.invariant in let s = c.args.self.now in
    let w : ℕ = length c.args.from.now in
    let lj : l.j < w = omega (arith, c.loop-j-test.true) in
    let lb : l.j < length s.banks.items = omega (arith, lj, c.requires.banks) in
    let lr : l.j < length s.rows.items = omega (arith, lj, c.requires.rows) in
    let row : c.from-row.result ≡ slice_index s.rows.items l.j = c.from-row.ensures ∙ (c.index.ensures ∙ get_or_default s.rows.items l.j c.index.result.now 0 lr) in
    let r : ℕ = slice_index s.rows.items l.j in
    let inside : r < length l.to = omega (arith, c.requires.table.1.row l.j lj, l.auto.to, c.requires.to) in
    let banks : List ℕ = get_or s.banks.items l.j [] in
    let inverse : IsInverse n banks (get_or s.windows.items l.j []) = s.inverses l.j lb in
    let distinct : AreDistinct n banks = record {
      below = λ t lt. c.requires.table.1.bank l.j t lj lt;
      apart = λ t u lt lu e. banks_apart n w c.requires.table.0 s.rows.items s.banks.items c.requires.table.1 c.requires.table.2 l.j t u lj lt lu e;
    } in
    let moved : (b : ℕ) → b < n → at c.shuffle.new.to b ≡ number_in c.args.from.now l.j (bank_at s.windows.items l.j b) =
    λ b lt. c.shuffle.ensures b lt
    ∙ (ap (at c.index-from-j.result) (read-bank s.windows.items l.j b c.index-in-loop-j.result.now (omega (arith, lb, s.long)) c.index-in-loop-j.ensures)
    ∙ read-number c.args.from.now l.j (bank_at s.windows.items l.j b) c.index-from-j.result lj c.index-from-j.is) in
    let put : (t : ℕ) → t < n → at c.shuffle.new.to (bank_at s.banks.items l.j t) ≡ number_in c.args.from.now l.j t =
    λ t lt. moved (bank_at s.banks.items l.j t) (distinct.below t lt) ∙ ap (number_in c.args.from.now l.j) (inverse.window distinct t lt) in
    let new-kept : (m : ℕ) → AreWithin n m c.args.from.now → (b : ℕ) → b < n → IsWithin m (at c.shuffle.new.to b) =
    λ m all b lm. subst (IsWithin m) (sym (moved b lm)) (all l.j (bank_at s.windows.items l.j b) lj (inverse.below b lm)) in
    record {
      done = λ i t li lt. ap (λ (k : ℕ). number_in (slice_set l.to k c.shuffle.new.to) (slice_index s.rows.items i) (bank_at s.banks.items i t)) row
          ∙ put-more n w c.requires.table.0 s.rows.items s.banks.items c.requires.table.1 c.requires.table.2 c.args.from.now l.to l.j c.shuffle.new.to lj (l.auto.to ∙ c.requires.to)
          put (bank-reached n banks distinct) inv.done i t li lt;
      kept = λ m all before. within-set n m l.to c.from-row.result c.shuffle.new.to (omega (arith, row, inside)) (inv.kept m all before) (new-kept m all);
    }
