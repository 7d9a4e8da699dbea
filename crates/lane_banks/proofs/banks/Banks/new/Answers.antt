use Rattle.std.proofs.Common.{◌≡◌, ◌≢◌, ℕ, ◌+◌, ◌*◌, ◌/◌, ◌%◌, ◌<◌, List, length, sym, ap, ◌∙◌, subst, arith, inl, inr}
use Rattle.std.proofs.lemmas.Bool.{cases_eq}
use Rattle.std.proofs.lemmas.List.{length-replicate}
use Rattle.std.proofs.lemmas.Nat.{mod-mul-add}
use Rattle.model_sender.specs.InterleaverLaws.{windows-whole}
use Rattle.model_receiver.specs.Windows.{Extrinsic, zero_cell, cell_at}
use Rattle.lane_banks.proofs.BankCells.{rows-of_product, lanes-some, fits-four_times, same-by_banks}
use Rattle.lane_banks.proofs.banks.Banks.new.Goals as goal

pub loop-r-init : goal.loop-r-init
loop-r-init g c =
    let w = length c.as_slice.result.now / g.row.N in
    record {
      long = ap length c.in_ok-banks.ensures ∙ length-replicate (g.row.N * w) zero_cell;
      done = λ s b ls. absurd (omega (arith, ls));
    }

pub set_row-requires : goal.set_row-requires
set_row-requires g c =
    let w = length c.as_slice.result.now / g.row.N in
    let e = rows-of_product g.row.N w (length c.loop-r.banks) (lanes-some g.row.N c.requires.lanes) c.loop-r.invariant.long in
    (omega arith, (fits-four_times g.row.N c.requires.lanes, (let below : c.loop-r.r < length c.loop-r.banks / g.row.N = omega (arith, e, c.loop-r-test.true) in below)))

pub loop-r-preserved : goal.loop-r-preserved
loop-r-preserved g c =
    let n = g.row.N in let l = c.loop-r in let inv = l.invariant in
    let w = length c.as_slice.result.now / n in
    let e : length l.banks / n ≡ w = rows-of_product n w (length l.banks) (lanes-some n c.requires.lanes) inv.long in
    let row = c.set_row.ensures.row in
    let others = c.set_row.ensures.others in
    record {
      long = c.set_row.ensures.long ∙ inv.long;
      done = λ s b ls lb. elim (cases_eq s l.r) [
        | inl es ↦ subst (λ (k : ℕ). cell_at c.set_row.new.self (b * w + k) ≡ cell_at c.args.cells (b * w + k)) (sym es)
            (ap (λ (k : ℕ). cell_at c.set_row.new.self (b * k + l.r)) (sym e)
            ∙ (row b lb ∙ (c.row_of.ensures b lb ∙ ap (λ (xs : List Extrinsic). cell_at xs (b * w + l.r)) c.as_slice-in-loop-r.ensures)))
        | inr ne ↦ (
            let far : (b * w + s) % (length l.banks / n) ≢ l.r = λ h. ne (sym (mod-mul-add b w s (omega (arith, ls, c.loop-r-test.true))) ∙ (ap (λ (k : ℕ). (b * w + s) % k) (sym e) ∙ h)) in
            others (b * w + s) far ∙ inv.done s b (omega (arith, ls, ne)) lb)
      ];
    }

pub returns : goal.returns
returns g c =
    let n = g.row.N in let l = c.loop-r in let inv = l.invariant in
    let w = length c.as_slice.result.now / n in
    let whole : length c.args.cells ≡ n * (length c.args.cells / n) = sym (windows-whole (length c.args.cells) n c.requires.whole) in
    let ew : length c.args.cells / n ≡ w = ap (λ (xs : List Extrinsic). length xs / n) (sym c.as_slice.ensures) in
    same-by_banks n w l.banks c.args.cells (omega (arith, ew, c.requires.least)) inv.long (whole ∙ ap (λ (k : ℕ). n * k) ew)
    (λ s b ls lb. inv.done s b (omega (arith, c.loop-r-test.false, ls)) lb)
