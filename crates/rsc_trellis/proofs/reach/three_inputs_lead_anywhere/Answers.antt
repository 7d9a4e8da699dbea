use Rattle.rsc_trellis.proofs.TrellisSteps.{three_inputs}
use Rattle.rsc_trellis.proofs.reach.three_inputs_lead_anywhere.Goals as goal

pub returns : goal.returns
returns c = three_inputs
