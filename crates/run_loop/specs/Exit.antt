-- The exit status of each ending.
use Rattle.std.specs.Prelude.{ℕ}
use Rattle.run_loop.specs.declared.status.Status.{Status}
use Rattle.run_loop.specs.declared.status.Status.TheVariants.{Done, SomeFailed, BadWords, BadStream, ReadFault, WriteFault, NoMemory}

abbrev pub exit_of : Status → ℕ
exit_of Done = 0
exit_of SomeFailed = 1
exit_of (BadWords number place) = 2
exit_of (BadStream number place) = 3
exit_of ReadFault = 4
exit_of (WriteFault sink) = 5
exit_of NoMemory = 6
