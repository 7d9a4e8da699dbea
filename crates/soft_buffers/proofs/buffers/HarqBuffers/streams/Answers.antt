use Rattle.std.proofs.Common.{◌≡◌, ℕ, ◌<◌, List, [], ℤ, ap, ◌∙◌, arith}
use Rattle.std.proofs.lemmas.List.{get_or_read}
use Rattle.std.proofs.lemmas.Result.{IfOk-weaker}
use Rattle.model_sender.specs.Segmentation.{size, fill}
use Rattle.model_receiver.specs.SoftCells.{soft_streams}
use Rattle.rate_match.proofs.BlockNumbers.{block-numbers}
use Rattle.soft_buffers.specs.Buffers.{Buffers, cells_of_block, streams_of_cells}
use Rattle.soft_buffers.specs.Shown.{shown}
use Rattle.soft_buffers.specs.declared.buffers.HarqBuffers.TheInside.{Inside}
use Rattle.soft_buffers.proofs.StreamCells.{same_cells, streams-are}
use Rattle.soft_buffers.proofs.buffers.HarqBuffers.streams.Goals as goal

-- r is a block of the plan that is kept
in_plan : (b : Inside) (v : Buffers) (r : ℕ) → shown b ≡ v → r < v.plan.c → r < b.plan.c
in_plan b v r is below = omega (arith, below, ap (λ (w : Buffers). w.plan.c) is)

pub streams_of-requires-clause-few : goal.streams_of-requires-clause-few
streams_of-requires-clause-few c =
    let b = c.self.inside in
    let block = block-numbers b.plan c.args.r c.size.ensures.lawful (in_plan b c.args.self.now c.args.r c.self.view_is c.requires) in
    omega (arith, block.most, c.size.ensures.value)

pub streams_of-requires-clause-fillers : goal.streams_of-requires-clause-fillers
streams_of-requires-clause-fillers c =
    let b = c.self.inside in
    let block = block-numbers b.plan c.args.r c.size.ensures.lawful (in_plan b c.args.self.now c.args.r c.self.view_is c.requires) in
    omega (arith, block.fills, c.size.ensures.value, c.fill.ensures)

pub returns-clause-cells : goal.returns-clause-cells
returns-clause-cells c =
    let b = c.self.inside in
    let v : Buffers = c.args.self.now in
    let r : ℕ = c.args.r in
    let below : r < b.plan.c = in_plan b v r c.self.view_is c.requires in
    let read : c.as_slice.result.now ≡ cells_of_block b.blocks.items r = c.as_slice.ensures
    ∙ get_or_read b.blocks.items r c.index.result.now (omega (arith, below, c.self.invariant.count)) c.index.ensures [] in
    let same : streams_of_cells c.size.result c.fill.result c.as_slice.result.now ≡ streams_of_cells (size v.plan r) (fill v.plan r) (cells_of_block v.cells r) =
    same_cells (c.size.ensures.value ∙ ap (λ (w : Buffers). size w.plan r) c.self.view_is)
    (c.fill.ensures ∙ ap (λ (w : Buffers). fill w.plan r) c.self.view_is) (read ∙ ap (λ (w : Buffers). cells_of_block w.cells r) c.self.view_is) in
    IfOk-weaker c.streams_of.result (λ s. s ≡ streams_of_cells c.size.result c.fill.result c.as_slice.result.now) (λ s. s ≡ streams_of_cells (size v.plan r) (fill v.plan r) (cells_of_block v.cells r))
    (λ s is. is ∙ same) c.streams_of.ensures

pub returns-clause-received : goal.returns-clause-received
returns-clause-received c xs hold =
    let v : Buffers = c.args.self.now in
    let r : ℕ = c.args.r in
    let cells : List ℤ = cells_of_block v.cells r in
    IfOk-weaker c.streams_of.result (λ s. s ≡ streams_of_cells (size v.plan r) (fill v.plan r) cells) (λ s. s ≡ soft_streams v.plan xs r)
    (λ s is. is ∙ streams-are v.plan xs r cells (hold r c.requires)) (returns-clause-cells c)
