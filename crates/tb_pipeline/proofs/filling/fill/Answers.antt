use Rattle.std.proofs.Common.{suc, List, [], ◌∷◌, ◌++◌, ap}
use Rattle.tb_pipeline.specs.declared.known.Item.{Item}
use Rattle.tb_pipeline.specs.declared.known.Item.TheVariants.{Number, EndMark}
use Rattle.tb_pipeline.proofs.filling.fill.Goals as goal

pub put-filler-requires-clause-order : goal.put-filler-requires-clause-order
put-filler-requires-clause-order g c = let number = c.loop-number.number in (suc number, 0, ap (λ (l : List Item). l ++ Number number ∷ []) c.loop-number.invariant.2)

pub put-filler-requires-in-loop-clause-order : goal.put-filler-requires-in-loop-clause-order
put-filler-requires-in-loop-clause-order g c = (c.args.count, suc c.loop.counter, ap (λ (l : List Item). l ++ EndMark ∷ []) c.loop.invariant.2)
