use Rattle.std.proofs.Common.{length, ap, ◌∙◌, arith}
use Rattle.std.proofs.lemmas.List.{length-append}
use Rattle.soft_channel.proofs.Lengths.{length_noisy}
use Rattle.soft_channel.specs.Channel.{strength_of, transmission_over}
use Rattle.command_trial.specs.Trials.{trial_of}
use Rattle.command_trial.proofs.trial.Trial.push_received.Goals as goal

pub returns-clause-count : goal.returns-clause-count
returns-clause-count c =
    let t = trial_of c.args.self.now in
    let bits = c.as_slice.result.now in
    let softs = c.as_slice-2.ensures ∙ c.in_ok-softs.ensures in
    omega (
      arith,
      ap length c.in_ok-extend_from_slice.ensures.items,
      length-append c.args.values.now.items c.as_slice-2.result.now,
      ap length softs,
      length_noisy (strength_of t.channel) (transmission_over t.channel c.args.block c.args.number) bits,
      ap length c.as_slice.ensures,
      c.in_ok-bits.ensures.long,
    )
