use Rattle.std.proofs.Common.{◌≡◌, length}
use Rattle.window_rows.specs.Rows.{AreWithin}
use Rattle.test_receiver.proofs.lane_rows.rows.Given as goal

abbrev pub invariant-loop-j : goal.invariant-loop-j
invariant-loop-j g l = record {
  long : length l.rows.items ≡ length l.initial.rows.items;
  within : AreWithin g.row.N g.row.B l.rows.items;
}
