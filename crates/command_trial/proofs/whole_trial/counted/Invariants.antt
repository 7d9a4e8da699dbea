use Rattle.std.proofs.Common.{◌≡◌}
use Rattle.command_trial.specs.Trials.{trial_of, counted, AreFew}
use Rattle.command_trial.proofs.whole_trial.counted.Given as goal

abbrev pub invariant-loop-block : goal.invariant-loop-block
invariant-loop-block l = record {
  value : l.sums ≡ counted (trial_of l.trial) l.block;
  few : AreFew l.block l.sums;
}
