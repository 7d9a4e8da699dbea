use Rattle.std.proofs.Common.{◌≡◌}
use Rattle.command_batch.proofs.reading.JobReader.keep_rooms.Given as goal

abbrev pub invariant-loop-job : goal.invariant-loop-job
invariant-loop-job l = (l.self.reader ≡ l.initial.self.reader) × (l.self.limits ≡ l.initial.self.limits)
