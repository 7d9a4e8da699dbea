use Rattle.std.proofs.Common.{◌≡◌, ℕ, ◌+◌, ◌*◌, ◌<◌, length, set, sym, ◌∙◌, subst, arith, inl, inr, get_or-set_other, get_or-set_same}
use Rattle.std.specs.Prelude.{slice_index}
use Rattle.std.proofs.lemmas.Bool.{cases_eq}
use Rattle.lane_banks.proofs.places.fill_bank.Goals as goal

pub loop-r-preserved : goal.loop-r-preserved
loop-r-preserved c =
    let l = c.loop-r in let inv = l.invariant in let b = c.args.b in let w = c.args.width in
    let more : (b + 1) * w ≡ b * w + w = omega arith in
    let inside : b * w + l.r < length l.banks = omega (arith, c.loop-r-test.true, more, c.requires.inside, l.auto.banks) in
    record {
      done = λ k lk. elim (cases_eq k l.r) [
        | inl e ↦ subst (λ (i : ℕ). slice_index (set l.banks (b * w + l.r) b) (b * w + i) ≡ b) (sym e) (get_or-set_same l.banks (b * w + l.r) b 0 inside)
        | inr ne ↦ get_or-set_other l.banks (b * w + l.r) (b * w + k) b 0 (λ e. ne (omega (arith, e))) ∙ inv.done k (omega (arith, lk, ne))
      ];
      before = λ i li. get_or-set_other l.banks (b * w + l.r) i b 0 (λ e. omega (arith, e, li)) ∙ inv.before i li;
    }
