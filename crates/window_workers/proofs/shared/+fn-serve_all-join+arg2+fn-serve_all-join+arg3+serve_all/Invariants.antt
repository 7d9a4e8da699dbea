use Rattle.std.proofs.Common.{◌+◌, ◌-◌, ◌*◌, ◌/◌}
use Rattle.window_workers.proofs.shared.+fn-serve_all-join+arg2+fn-serve_all-join+arg3+serve_all.Given as goal

abbrev pub decreases-join+arg2 : goal.decreases-join+arg2
decreases-join+arg2 g l = 2 * (l.workers / 2) + 1

abbrev pub decreases-join+arg3 : goal.decreases-join+arg3
decreases-join+arg3 g l = 2 * (l.workers - l.workers / 2) + 1

abbrev pub decreases-serve_all : goal.decreases-serve_all
decreases-serve_all g l = 2 * l.workers
