use Rattle.std.proofs.Common.{◌≡◌, ℕ, ◌+◌, ◌-◌, ◌*◌, ◌/◌, ◌<◌, length, get_or, sym, ap, ◌∙◌, subst, arith, inl, inr}
use Rattle.std.proofs.lemmas.Bool.{cases_lt}
use Rattle.std.proofs.lemmas.List.{ext_get_or}
use Rattle.std.specs.Prelude.{nat_lt, if◌then◌else◌}
use Rattle.lte_bits.specs.declared.bit.Bit.{Bit}
use Rattle.lte_bits.specs.declared.bit.Bit.TheVariants.{Zero}
use Rattle.model_receiver.specs.Windows.{cell_at}
use Rattle.model_receiver.specs.Decoding.{decided_bit}
use Rattle.window_rows.specs.Rows.{number_in}
use Rattle.lane_banks.specs.Banks.{bit_of}
use Rattle.lane_banks.proofs.BankCells.{fits-twice, bit-at, length-decided}
use Rattle.lane_banks.proofs.BankRows.{length-of_view, width-of_view, cell-of_view}
use Rattle.lane_banks.proofs.banks.Banks.decide.Goals as goal

pub loop-b-init : goal.loop-b-init
loop-b-init g c = λ i lt. absurd (omega (arith, lt))

pub decide_bank-requires : goal.decide_bank-requires
decide_bank-requires g c =
    let n = g.row.N in let b = c.self.inside in let l = c.loop-b in
    let rows : length c.as_slice.result.now ≡ length b.values.items = ap length c.as_slice.ensures.value ∙ c.self.invariant.sums_long in
    let long = length-of_view n b.values.items b.sums.items c.args.self.now c.self.invariant c.self.view_is in
    (fits-twice n c.self.invariant.lanes, (c.self.invariant.lanes, (c.loop-b-test.true, l.auto.bits ∙ (c.requires.long ∙ (long ∙ ap (λ (w : ℕ). n * w) (sym rows))))))

pub loop-b-preserved : goal.loop-b-preserved
loop-b-preserved g c = λ i lt.
    let n = g.row.N in let b = c.self.inside in let l = c.loop-b in let cells = c.args.self.now in
    let w : ℕ = length cells / n in
    let rows : length c.as_slice.result.now ≡ length b.values.items = ap length c.as_slice.ensures.value ∙ c.self.invariant.sums_long in
    let wide : w ≡ length b.values.items = width-of_view n b.values.items b.sums.items cells c.self.invariant c.self.view_is in
    let same : l.b * length c.as_slice.result.now ≡ l.b * w = ap (λ (k : ℕ). l.b * k) (rows ∙ sym wide) in
    let more : (l.b + 1) * w ≡ l.b * w + w = omega arith in
    elim (cases_lt i (l.b * w)) [
      | inl before ↦ c.decide_bank.ensures.before i (omega (arith, before, same)) ∙ l.invariant i before
      | inr le ↦
          let r : ℕ = i - l.b * w in
          let lr : r < w = omega (arith, le, lt, more) in
          let place : l.b * w + r ≡ i = omega (arith, le) in
          let read : l.b * length c.as_slice.result.now + r ≡ i = omega (arith, same, place) in
          subst (λ (k : ℕ). get_or c.decide_bank.new.bits k Zero ≡ bit_of (number_in c.as_slice.result.now r l.b)) read (c.decide_bank.ensures.bank r (omega (arith, lr, rows, wide)))
          ∙ (ap (λ rows. bit_of (number_in rows r l.b)) c.as_slice.ensures.value
          ∙ (ap decided_bit (cell-of_view n b.values.items b.sums.items cells c.self.invariant c.self.view_is l.b r c.loop-b-test.true (omega (arith, lr, wide)))
          ∙ ap (λ (k : ℕ). decided_bit (cell_at cells k)) place))
    ]

pub clear-requires : goal.clear-requires
clear-requires g c = omega (arith, c.requires.fill, c.requires.long, c.loop-b.auto.bits)

pub returns : goal.returns
returns g c =
    let n = g.row.N in let b = c.self.inside in let l = c.loop-b in let cells = c.args.self.now in
    let w : ℕ = length cells / n in
    let wide : w ≡ length b.values.items = width-of_view n b.values.items b.sums.items cells c.self.invariant c.self.view_is in
    let view = length-of_view n b.values.items b.sums.items cells c.self.invariant c.self.view_is in
    let all : n * w ≡ length cells = ap (λ (k : ℕ). n * k) wide ∙ sym view in
    let last : l.b * w ≡ n * w = ap (λ (k : ℕ). k * w) (omega (arith, l.auto.b-end, c.loop-b-test.false)) in
    let long : length c.clear.new.bits ≡ length cells = c.clear.auto.bits ∙ (l.auto.bits ∙ c.requires.long) in
    ext_get_or Zero _ _ (long ∙ sym (length-decided c.args.fill cells c.requires.fill))
    (λ i lt. let li : i < length cells = omega (arith, lt, long) in
    let below : i < l.b * w = omega (arith, li, all, last) in
    let decided : get_or l.bits i Zero ≡ decided_bit (cell_at cells i) = l.invariant i below in
    c.clear.ensures i ∙ (ap (λ (bit : Bit). if nat_lt i c.args.fill then Zero else bit) decided ∙ bit-at c.args.fill i cells li))
