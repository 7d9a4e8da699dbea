use Rattle.std.proofs.Common.{◌≡◌, ℕ, ◌*◌, ◌≤◌, ◌<◌, ◌+◌, inl, inr, sym, subst, arith}
use Rattle.std.proofs.lemmas.Bool.{cases_lt}
use Rattle.std.proofs.lemmas.Nat.Gcd.{dvd_of_mod-eq-zero, mod-eq-zero_of_dvd}
use Prim.Native.Nat.{◌∣◌}
use Rattle.model_sender.proofs.RowLaws.{range-of_size}
use Rattle.qpp_table.proofs.windows.win.Goals as goal
use Rattle.qpp_table.proofs.windows.win.Goals.{then-k-count-eq0+then-count-k, else-k-count-eq0, else-k-count-eq0-via-then-k-count-eq0+else-count-k, else-k-count-eq0-via-else-k-count-eq0}

pub loop-count-init : goal.loop-count-init
loop-count-init c = let h = range-of_size c.args.k c.requires.size in record {
  positive = omega arith;
  divides = dvd_of_mod-eq-zero 1 (omega arith);
  wide = omega (arith, h.0);
  within = omega arith;
  greatest = λ d _ _ lt. omega (arith, lt);
}

-- a count that isn't taken is none of those that are sought
past : (k count best : ℕ) → (count ∣ k → 8 * count ≤ k → ⊥) → ((d : ℕ) → d ∣ k → 8 * d ≤ k → d < count → d ≤ best)
    → (d : ℕ) → d ∣ k → 8 * d ≤ k → d < count + 1 → d ≤ best
past k count best refused under d divides wide lt =
    elim (cases_lt d count) [
      | inl less ↦ under d divides wide less
      | inr more ↦ absurd (
          let e : d ≡ count = omega (arith, more, lt) in
          refused (subst (λ (n : ℕ). n ∣ k) e divides) (subst (λ (n : ℕ). 8 * n ≤ k) e wide))
    ]

pub loop-count-preserved : goal.loop-count-preserved
loop-count-preserved c =
    let old = c.loop-count.invariant in
    let k = c.args.k in
    let count = c.loop-count.count in
    elim c.if-k-count-eq0.branch [
      | then-k-count-eq0+then-count-k w ↦ record {
        positive = omega arith;
        divides = subst (λ (n : ℕ). n ∣ k) (sym w.best-is) (dvd_of_mod-eq-zero count w.if-k-count-eq0.true);
        wide = omega arith;
        within = omega arith;
        greatest = λ d _ _ lt. omega (arith, lt);
      }
      | else-k-count-eq0 w ↦ record {
        positive = omega (arith, old.positive);
        divides = subst (λ (n : ℕ). n ∣ k) (sym w.best-is) old.divides;
        wide = omega (arith, old.wide);
        within = omega (arith, old.within);
        greatest = λ d divides wide lt.
            subst (λ (n : ℕ). d ≤ n) (sym w.best-is)
            (past k count c.loop-count.best
            (λ whole enough. elim w.else-k-count-eq0.branch [
              | else-k-count-eq0-via-then-k-count-eq0+else-count-k v ↦ omega arith
              | else-k-count-eq0-via-else-k-count-eq0 v ↦ v.if-k-count-eq0.false (mod-eq-zero_of_dvd count whole)
            ])
            old.greatest d divides wide lt);
      }
    ]
