use Rattle.std.proofs.Common.{◌≡◌, ℕ, ◌+◌, ◌-◌, ◌*◌, ◌/◌, ◌<◌, ◌≤◌, length, sym, ap, ◌∙◌, subst, arith, inl, inr}
use Rattle.std.specs.Prelude.{slice_index}
use Rattle.std.proofs.lemmas.Bool.{cases_lt}
use Rattle.std.proofs.lemmas.Grind.{same_number_lists}
use Rattle.std.proofs.lemmas.List.FromFn.{length-map-range_with_len, get_or-map-range_with_len}
use Rattle.std.proofs.lemmas.Nat.{div-mul-add}
use Rattle.lane_banks.proofs.BankCells.{lanes-few, place-inside}
use Rattle.lane_banks.proofs.places.fill_banks.Goals as goal

pub loop-b-init : goal.loop-b-init
loop-b-init g c = λ i lt. absurd (omega (arith, lt))

pub fill_bank-requires : goal.fill_bank-requires
fill_bank-requires g c =
    let l = c.loop-b in let w = c.args.width in let n = g.row.N in
    let few : n ≤ 32 = lanes-few n c.requires.lanes in
    let last = place-inside n w l.b (w - 1) c.loop-b-test.true (omega (arith, c.requires.some)) in
    let more : (l.b + 1) * w ≡ l.b * w + w = omega arith in
    record { few = omega (arith, few, c.loop-b-test.true); inside = omega (arith, last, more, c.requires.some, c.requires.long, l.auto.banks) }

pub loop-b-preserved : goal.loop-b-preserved
loop-b-preserved g c = λ i lt.
    let l = c.loop-b in let w = c.args.width in
    let more : (l.b + 1) * w ≡ l.b * w + w = omega arith in
    elim (cases_lt i (l.b * w)) [
      | inl before ↦ c.fill_bank.ensures.before i before ∙ l.invariant i before
      | inr le ↦
          let r : ℕ = i - l.b * w in
          let lr : r < w = omega (arith, le, lt, more) in
          let place : l.b * w + r ≡ i = omega (arith, le) in
          subst (λ (k : ℕ). slice_index c.fill_bank.new.banks k ≡ k / w) place (c.fill_bank.ensures.bank r lr ∙ sym (div-mul-add l.b w r lr))
    ]

pub returns : goal.returns
returns g c =
    let l = c.loop-b in let w = c.args.width in let n = g.row.N in
    let k : ℕ = n * w in
    let long : length l.banks ≡ k = l.auto.banks ∙ c.requires.long in
    let last : l.b * w ≡ k = ap (λ (m : ℕ). m * w) (omega (arith, l.auto.b-end, c.loop-b-test.false)) in
    same_number_lists l.banks _ (long ∙ sym (length-map-range_with_len (λ (i : ℕ). i / w) 0 k))
    (λ i li. let lt : i < k = omega (arith, li, long) in
    l.invariant i (omega (arith, lt, last)) ∙ sym (get_or-map-range_with_len (λ (i : ℕ). i / w) 0 k i i 0 lt (omega arith)))
