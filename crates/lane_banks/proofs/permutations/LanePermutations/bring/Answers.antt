use Rattle.std.proofs.Common.{◌≡◌, ℕ, ◌<◌, length, get_or, sym, ap, ◌∙◌, subst, arith, inl, inr}
use Rattle.std.specs.Prelude.{slice_index, slice_set}
use Rattle.std.proofs.lemmas.Bool.{cases_eq}
use Rattle.std.proofs.lemmas.List.{get_or_default}
use Rattle.lte_bits.specs.Softs.{IsWithin}
use Rattle.model_receiver.specs.Borders.{at}
use Rattle.window_rows.specs.Rows.{AreWithin, number_in}
use Rattle.lane_banks.specs.Permutations.{bank_at}
use Rattle.lane_banks.proofs.PermutationSteps.{read-bank, bring-more}
use Rattle.lane_banks.proofs.BankCells.{fits-twice, fits-once}
use Rattle.lane_banks.proofs.BankRows.{read-number}
use Rattle.window_rows.proofs.Columns.{number-in_same, number-in_other}
use Rattle.lane_banks.proofs.permutations.LanePermutations.bring.Goals as goal

pub shuffle-requires : goal.shuffle-requires
shuffle-requires g c =
    let n = g.row.N in let l = c.loop-j in let s = c.args.self.now in
    let w : ℕ = length c.args.to.now in
    let lj : l.j < w = omega (arith, c.loop-j-test.true, l.auto.to) in
    let lb : l.j < length s.banks.items = omega (arith, lj, c.requires.banks) in
    let below : (t : ℕ) → t < n → slice_index c.index-in-loop-j.result.now t < n =
    λ t lt. subst (λ (b : ℕ). b < n) (sym (read-bank s.banks.items l.j t c.index-in-loop-j.result.now lb c.index-in-loop-j.ensures)) (c.requires.table.1.bank l.j t lj lt) in
    let row : c.from-row.result ≡ slice_index s.rows.items l.j = c.from-row.ensures ∙ (c.index.ensures ∙ get_or_default s.rows.items l.j c.index.result.now 0 (omega (arith, lj, c.requires.rows))) in
    let inside : c.from-row.result < length c.args.from.now = omega (arith, row, c.requires.from, c.requires.table.1.row l.j lj) in
    let within : (b : ℕ) → b < n → IsWithin 32767 (at c.index-from-row.result b) =
    λ b lt. subst (IsWithin 32767) (sym (read-number c.args.from.now c.from-row.result b c.index-from-row.result inside c.index-from-row.is)) (c.requires.within c.from-row.result b inside lt) in
    (fits-twice n c.requires.lanes, (fits-once n c.requires.lanes, (c.requires.lanes, (within, below))))

pub loop-j-preserved : goal.loop-j-preserved
loop-j-preserved g c =
    let n = g.row.N in let l = c.loop-j in let inv = l.invariant in let s = c.args.self.now in
    let w : ℕ = length c.args.to.now in
    let lj : l.j < w = omega (arith, c.loop-j-test.true, l.auto.to) in
    let lb : l.j < length s.banks.items = omega (arith, lj, c.requires.banks) in
    let lr : l.j < length s.rows.items = omega (arith, lj, c.requires.rows) in
    let row : c.from-row.result ≡ slice_index s.rows.items l.j = c.from-row.ensures ∙ (c.index.ensures ∙ get_or_default s.rows.items l.j c.index.result.now 0 lr) in
    let source = c.index-from-row.result in
    let read : source ≡ get_or c.args.from.now (slice_index s.rows.items l.j) source = c.index-from-row.is ∙ ap (λ (r : ℕ). get_or c.args.from.now r source) row in
    let brought : (t : ℕ) → t < n → at c.shuffle.new.to t ≡ at source (bank_at s.banks.items l.j t) =
    λ t lt. c.shuffle.ensures t lt ∙ ap (at source) (read-bank s.banks.items l.j t c.index-in-loop-j.result.now lb c.index-in-loop-j.ensures) in
    let from-kept : (m : ℕ) → AreWithin n m c.args.from.now → (b : ℕ) → b < n → IsWithin m (at source b) =
    λ m all b lm. subst (IsWithin m) (sym (read-number c.args.from.now (slice_index s.rows.items l.j) b source
    (omega (arith, c.requires.from, c.requires.table.1.row l.j lj)) read)) (all (slice_index s.rows.items l.j) b (omega (arith, c.requires.from, c.requires.table.1.row l.j lj)) lm) in
    record {
      done = bring-more n w c.requires.table.0 s.rows.items s.banks.items c.requires.table.1 c.args.from.now l.to l.j source c.shuffle.new.to lj l.auto.to c.requires.from read brought inv.done;
      kept = λ m all i t li lt. elim (cases_eq i l.j) [
        | inl e ↦ subst (λ (k : ℕ). IsWithin m (number_in (slice_set l.to l.j c.shuffle.new.to) k t)) (sym e)
            (subst (IsWithin m) (sym (number-in_same l.to l.j t c.shuffle.new.to (omega (arith, l.auto.to, lj))))
            (subst (IsWithin m) (sym (brought t lt)) (from-kept m all (bank_at s.banks.items l.j t) (c.requires.table.1.bank l.j t lj lt))))
        | inr ne ↦ subst (IsWithin m) (sym (number-in_other l.to l.j i t c.shuffle.new.to ne)) (inv.kept m all i t (omega (arith, li, ne)) lt)
      ];
    }

pub returns-clause-kept : goal.returns-clause-kept
returns-clause-kept g c = λ m all j t lj lt. c.loop-j.invariant.kept m all j t (omega (arith, c.loop-j-test.false, lj)) lt
