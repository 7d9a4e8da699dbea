use Rattle.lte_bits.specs.declared.bit.Bit.TheVariants.{Zero, One}
use Rattle.rsc_trellis.specs.Steps.{state_before}
use Rattle.window_decode.proofs.LaneSteps.{picked-by}
use Rattle.window_decode.proofs.lanes.before_by.Goals as goal
use Rattle.window_decode.proofs.lanes.before_by.Goals.{in-Zero, in-One}

pub returns : goal.returns
returns c = elim c.match-oldest.branch [
  | in-Zero w ↦ picked-by c.args.a state_before c.args.oldest Zero c.match-oldest.result c.requires w.in-Zero.is w.result-is
  | in-One w ↦ picked-by c.args.a state_before c.args.oldest One c.match-oldest.result c.requires w.in-One.is w.result-is
]
