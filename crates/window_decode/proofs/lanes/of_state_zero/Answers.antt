use Rattle.model_sender.specs.ConstituentCoder.{zero_state}
use Rattle.window_decode.proofs.LaneSteps.{picked-border}
use Rattle.window_decode.proofs.lanes.of_state_zero.Goals as goal

pub returns : goal.returns
returns c = picked-border c.args.a (λ s. zero_state) c.requires
