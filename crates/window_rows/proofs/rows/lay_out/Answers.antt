use Rattle.std.proofs.Common.{ℕ, ◌*◌, length, arith}
use Rattle.model_receiver.specs.Borders.{at}
use Rattle.window_rows.proofs.Columns.{column-is}
use Rattle.window_rows.proofs.rows.lay_out.Goals as goal

pub returns-clause-columns : goal.returns-clause-columns
returns-clause-columns g c = λ t lt.
    let l = c.loop-j in let w : ℕ = length c.args.rows.now in
    column-is t l.rows (at c.args.values.now) (t * w) w l.auto.rows (λ j lj. l.invariant.value j t (omega (arith, c.loop-j-test.false, lj)) lt)
