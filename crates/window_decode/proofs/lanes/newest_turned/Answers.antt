use Rattle.lte_bits.specs.declared.bit.Bit.TheVariants.{One}
use Rattle.model_sender.specs.Bits.{plus}
use Rattle.model_receiver.specs.Borders.{state}
use Rattle.window_decode.proofs.LaneSteps.{picked-border}
use Rattle.window_decode.proofs.lanes.newest_turned.Goals as goal

pub returns : goal.returns
returns c = picked-border c.args.a (λ s. state (plus One s.a1) s.a2 s.a3) c.requires
