use Rattle.half_iteration.proofs.Wholes.{are-whole}
use Rattle.half_iteration.proofs.views.Views.windows.Goals as goal

pub returns-clause-whole : goal.returns-clause-whole
returns-clause-whole c = are-whole c.args.self.now.shape c.windows.ensures.lawful
