use Rattle.std.proofs.Common.{◌≡◌, ℤ, List, pos, ◌+ℤ◌, sym, ap, subst, arith, rules}
use Rattle.std.specs.Prelude.{int_lt}
use Rattle.std.proofs.lemmas.Int.{ints}
use Rattle.model_receiver.specs.Borders.{at}
use Rattle.lock_step.specs.Vectors.{AreRelative, better_by}
use Rattle.lock_step.proofs.Vectors.{sum-small}
use Rattle.lock_step.proofs.Cells.{same_cell}
use Rattle.lock_step.proofs.rows.step_back.Goals as goal

pub backward-requires : goal.backward-requires
backward-requires g c = (
  search rules,
  (
    search rules,
    (
      subst (λ (m : List (List ℤ)). AreRelative g.row.N m) (sym c.keep.ensures) c.requires.beta,
      (sum-small g.row.N c.args.sys.now c.args.cell.now c.add.new.out c.requires.systematic c.requires.cell c.add.ensures.lanes, c.requires.parity),
    ),
  ),
)

whole : (r e x s k : ℤ) → r ≡ e +ℤ x → x ≡ s +ℤ k → r ≡ e +ℤ s +ℤ k
whole r e x s k p q = omega (arith, ints)

pub returns-clause-cells : goal.returns-clause-cells
returns-clause-cells g c = λ t lt.
    same_cell _ _ _ _ (c.write_extrinsic.ensures.cell.lanes t lt)
    (ap (λ z. int_lt z (pos 0)) (whole _ (better_by c.args.alpha.now c.args.beta.now (at c.args.par.now t) t) _ _ _ (c.write_extrinsic.ensures.sum.lanes t lt) (c.add.ensures.lanes t lt)))
