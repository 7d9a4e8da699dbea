use Rattle.std.proofs.Common.{◌≡◌, ◌∙◌, List, ap, map, subst, sym}
use Rattle.std.proofs.lemmas.Result.{IfOk-weaker}
use Rattle.segmentation.specs.Shape.{AreBlocksOf}
use Rattle.model_receiver.specs.declared.result.CodeResult.{CodeResult}
use Rattle.block_receive.specs.Tries.{tried_from}
use Rattle.block_receive.proofs.ShapedBlocks.{from-shaped}
use Rattle.block_receive.proofs.BlockResults.{lawful-in}
use Rattle.block_receive.proofs.steps.try_alone.Goals as goal

pub returns-clause-blocks : goal.returns-clause-blocks
returns-clause-blocks c =
    let task = c.args.task.now in
    let cells = c.args.buffers.now.cells in
    let last : List CodeResult = c.args.last.items in
    let held = c.in_ok-held.held.items in
    IfOk-weaker c.try_blocks.result (λ results. results.items ≡ tried_from task.plan task.limits cells held)
    (λ results. AreBlocksOf task.plan (map (λ x. x.block) results.items))
    (λ results is. subst (λ (xs : List CodeResult). AreBlocksOf task.plan (map (λ x. x.block) xs))
    (sym (is ∙ ap (tried_from task.plan task.limits cells) c.in_ok-held.ensures))
    (from-shaped task.plan task.limits cells last (lawful-in task.plan task.limits c.try_blocks.ensures.lawful c.try_blocks.ensures.limits) c.requires.blocks))
    c.try_blocks.ensures.from
