use Rattle.std.proofs.Common.{[], ◌∷◌, ◌++◌, ap, sym, subst, ◌∙◌}
use Rattle.tb_pipeline.specs.Relays.{AreInOrder}
use Rattle.tb_pipeline.proofs.RelaySteps.{puts_one}
use Rattle.tb_pipeline.proofs.filling.put.Goals as goal

pub try_push_as-requires-clause-rule : goal.try_push_as-requires-clause-rule
try_push_as-requires-clause-rule g c = puts_one _ _ _ _ (ap (λ v. v.role) c.loop.invariant.3 ∙ c.requires.queue.1)
    (subst (λ v. AreInOrder (v.all ++ c.args.item ∷ [])) (sym c.loop.invariant.3) c.requires.order)
