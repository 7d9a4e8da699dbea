use Rattle.std.proofs.Common.{◌≡◌, ◌≤◌, ◌++◌, length, take}
use Rattle.run_loop.specs.Step.{parts_of}
use Rattle.command_batch.specs.Parts.{failures, job_parts}
use Rattle.command_batch.proofs.parts.parts_of.Given as goal

abbrev pub invariant-loop-received : goal.invariant-loop-received
invariant-loop-received l = record {
  all : l.fn.outcomes ≡ l.yielded ++ l.received-iterator.rest.items;
  count : length l.parts.items ≡ length l.yielded;
  parts : parts_of l.parts.items ≡ job_parts l.first (take (length l.yielded) l.jobs);
  failed : l.failures ≡ failures l.first (take (length l.yielded) l.jobs);
  few : l.failures ≤ length l.yielded;
}
