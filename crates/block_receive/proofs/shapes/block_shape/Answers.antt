use Rattle.std.proofs.Common.{ℕ, Contains, subst, sym, ◌∙◌}
use Rattle.std.specs.Prelude.{IfSome}
use Rattle.model_sender.specs.Interleaver.{sizes}
use Rattle.model_sender.specs.Segmentation.{Plan}
use Rattle.rate_match.proofs.BlockNumbers.{block-numbers}
use Rattle.model_receiver.specs.HalfIteration.{shape_of}
use Rattle.model_receiver.specs.Limits.{DecoderLimits}
use Rattle.model_receiver.specs.TransportBlocks.{block_shape}
use Rattle.std.proofs.Common.{◌≡◌, ap}
use Rattle.block_receive.proofs.LawfulShapes.{IsCount, lawful, shape-is}
use Rattle.block_receive.proofs.shapes.block_shape.Goals as goal

pub win-windows-requires-clause-size : goal.win-windows-requires-clause-size
win-windows-requires-clause-size c = let block = block-numbers c.args.task.now.plan c.args.r c.size-k.ensures.lawful c.requires in
    subst (λ (k : ℕ). Contains sizes k) (sym c.size-k.ensures.value) block.inside

pub unwrap-requires : goal.unwrap-requires
unwrap-requires c =
    let own : DecoderLimits = record { windows = c.limits.inside.windows; limit = c.limits.inside.limit } in
    let w = c.win-windows.ensures in
    let count : IsCount c.size-k.result own.windows c.win-windows.result = record { divides = w.divides; wide = w.wide; within = w.within; greatest = w.greatest } in
    c.new.ensures.some.1
    (lawful c.args.task.now.plan own c.args.r c.size-k.result c.fill.result c.win-windows.result c.check_kind-kind.result
    c.size-k.ensures.lawful c.limits.invariant c.requires c.size-k.ensures.value c.fill.ensures count)

pub returns-clause-value : goal.returns-clause-value
returns-clause-value c =
    let own : DecoderLimits = record { windows = c.limits.inside.windows; limit = c.limits.inside.limit } in
    let p : Plan = c.args.task.now.plan in
    let w = c.win-windows.ensures in
    let count : IsCount c.size-k.result own.windows c.win-windows.result = record { divides = w.divides; wide = w.wide; within = w.within; greatest = w.greatest } in
    let is : c.unwrap.result ≡ shape_of c.size-k.result c.fill.result c.check_kind-kind.result c.win-windows.result own.limit =
    subst (λ o. IfSome o (λ s. s ≡ shape_of c.size-k.result c.fill.result c.check_kind-kind.result c.win-windows.result own.limit)) c.unwrap.ensures c.new.ensures.shape in
    is
    ∙ ap (λ kind. shape_of c.size-k.result c.fill.result kind c.win-windows.result own.limit) c.check_kind-kind.ensures
    ∙ shape-is p own c.args.r c.size-k.result c.fill.result c.plan.inside.c c.win-windows.result c.size-k.ensures.lawful c.limits.invariant c.requires c.size-k.ensures.value c.fill.ensures
    (ap (λ (q : Plan). q.c) c.plan.view_is) count
    ∙ ap (λ (e : DecoderLimits). block_shape p e c.args.r) c.limits.view_is
