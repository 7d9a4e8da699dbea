use Rattle.std.proofs.Common.{◌≡◌, ℕ, ◌+◌, Bool, get_or, set, sym, ap, ◌∙◌, subst, arith, inl, inr, get_or-set_other, get_or-set_same}
use Rattle.std.specs.Prelude.{if◌then◌else◌}
use Rattle.std.proofs.lemmas.Bool.{cases_eq, cases_lt, lt-ltb, le-ltb}
use Rattle.lte_bits.specs.declared.bit.Bit.{Bit}
use Rattle.lte_bits.specs.declared.bit.Bit.TheVariants.{Zero}
use Rattle.lane_banks.proofs.bits.clear.Goals as goal

pub loop-i-preserved : goal.loop-i-preserved
loop-i-preserved c = λ k.
    let l = c.loop-i in let old : Bit = get_or c.args.bits.now k Zero in
    let choose : Bool → Bit = λ b. if b then Zero else old in
    elim (cases_eq k l.i) [
      | inl e ↦
          subst (λ (i : ℕ). get_or (set l.bits l.i Zero) i Zero ≡ Zero) (sym e) (get_or-set_same l.bits l.i Zero Zero (omega (arith, c.loop-i-test.true, c.requires, l.auto.bits)))
          ∙ sym (ap choose (lt-ltb k (l.i + 1) (omega (arith, e))))
      | inr ne ↦
          get_or-set_other l.bits l.i k Zero Zero ne
          ∙ (l.invariant k
          ∙ elim (cases_lt k l.i) [
            | inl lt ↦ ap choose (lt-ltb k l.i lt) ∙ sym (ap choose (lt-ltb k (l.i + 1) (omega (arith, lt))))
            | inr le ↦ ap choose (le-ltb k l.i le) ∙ sym (ap choose (le-ltb k (l.i + 1) (omega (arith, le, ne))))
          ])
    ]
