use Rattle.std.proofs.Common.{◌≡◌, ℕ, ◌+◌, ◌*◌, ◌<◌, length, get_or, set, sym, ap, ◌∙◌, subst, arith, inl, inr, get_or-set_other, get_or-set_same}
use Rattle.std.proofs.lemmas.Bool.{cases_eq}
use Rattle.lte_bits.specs.declared.bit.Bit.TheVariants.{Zero}
use Rattle.window_rows.specs.Rows.{number_in}
use Rattle.lane_banks.specs.Banks.{bit_of}
use Rattle.lane_banks.proofs.BankCells.{fits-twice, place-inside}
use Rattle.lane_banks.proofs.BankRows.{read-number}
use Rattle.lane_banks.proofs.bits.decide_bank.Goals as goal

pub lane_bit-requires : goal.lane_bit-requires
lane_bit-requires g c = (fits-twice g.row.N c.requires.lanes, c.requires.bank)

pub loop-r-preserved : goal.loop-r-preserved
loop-r-preserved g c =
    let l = c.loop-r in let inv = l.invariant in let b = c.args.b in let sums = c.args.sums.now in
    let first : ℕ = b * length sums in
    let lr : l.r < length sums = c.loop-r-test.true in
    let inside : first + l.r < length l.bits = omega (arith, place-inside g.row.N (length sums) b l.r c.requires.bank lr, l.auto.bits, c.requires.long) in
    record {
      done = λ k lk. elim (cases_eq k l.r) [
        | inl e ↦ subst (λ (i : ℕ). get_or (set l.bits (first + l.r) c.lane_bit.result) (first + i) Zero ≡ bit_of (number_in sums i b)) (sym e)
            (get_or-set_same l.bits (first + l.r) c.lane_bit.result Zero inside ∙ (c.lane_bit.ensures ∙ ap bit_of (read-number sums l.r b c.index-sums-r.result lr c.index-sums-r.is)))
        | inr ne ↦ get_or-set_other l.bits (first + l.r) (first + k) c.lane_bit.result Zero (λ e. ne (omega (arith, e))) ∙ inv.done k (omega (arith, lk, ne))
      ];
      before = λ i li. get_or-set_other l.bits (first + l.r) i c.lane_bit.result Zero (λ e. omega (arith, e, li)) ∙ inv.before i li;
    }
