use Rattle.lte_bits.specs.declared.bit.Bit.TheVariants.{Zero, One}
use Rattle.model_sender.specs.ConstituentCoder.{next}
use Rattle.window_decode.proofs.LaneSteps.{picked-by}
use Rattle.window_decode.proofs.lanes.after_by.Goals as goal
use Rattle.window_decode.proofs.lanes.after_by.Goals.{in-Zero, in-One}

pub returns : goal.returns
returns c = elim c.match-input.branch [
  | in-Zero w ↦ picked-by c.args.a next c.args.input Zero c.match-input.result c.requires w.in-Zero.is w.result-is
  | in-One w ↦ picked-by c.args.a next c.args.input One c.match-input.result c.requires w.in-One.is w.result-is
]
