use Rattle.std.proofs.Common.{ℕ, ◌<◌, List, set, sym, ap, ◌∙◌, arith, inl, inr, get_or-set_other, get_or-set_same}
use Rattle.std.specs.Prelude.{slice_index}
use Rattle.std.proofs.lemmas.Bool.{cases_eq}
use Rattle.lane_banks.proofs.permutations.invert.Goals as goal

pub loop-t-preserved : goal.loop-t-preserved
loop-t-preserved g c =
    let l = c.loop-t in let inv = l.invariant in let banks = c.args.banks.now in
    let bank : ℕ = slice_index banks l.t in
    record {
      long = c.put_window.ensures.long ∙ inv.long;
      below = c.put_window.ensures.below inv.below;
      window = λ distinct k lk.
          let lb : bank < g.row.N = distinct.below l.t c.loop-t-test.true in
          ap (λ (xs : List ℕ). slice_index xs (slice_index banks k)) (c.put_window.ensures.put lb)
          ∙ elim (cases_eq k l.t) [
            | inl e ↦ ap (λ (i : ℕ). slice_index (set l.windows bank l.t) (slice_index banks i)) e ∙ (get_or-set_same l.windows bank l.t 0 (omega (arith, lb, inv.long)) ∙ sym e)
            | inr ne ↦
                get_or-set_other l.windows bank (slice_index banks k) l.t 0 (λ e. ne (distinct.apart k l.t (omega (arith, lk, c.loop-t-test.true)) c.loop-t-test.true e))
                ∙ inv.window distinct k (omega (arith, lk, ne))
          ];
    }
