use Rattle.std.proofs.Common.{◌≡◌, ℕ, ◌<◌, ℤ, List, sym, ap, ◌∙◌, subst}
use Rattle.lte_bits.specs.declared.block.SoftStreams.{SoftStreams}
use Rattle.model_sender.specs.Segmentation.{Plan, size, fill}
use Rattle.segmentation.specs.Plans.{IsPlan}
use Rattle.rate_match.proofs.BlockNumbers.{block-numbers}
use Rattle.model_receiver.specs.HalfIteration.{Shape}
use Rattle.model_receiver.specs.TransportBlocks.{block_shape}
use Rattle.soft_buffers.specs.Buffers.{cells_of_block, streams_of_cells}
use Rattle.block_receive.specs.declared.task.Task.{Task}
use Rattle.block_receive.proofs.StreamLengths.{AreStreamsOf, streams-long}
use Rattle.block_receive.proofs.tries.decode_at.Goals as goal

-- the streams of block r are those of its shape
fitting : (task : Task) (r : ℕ) (p : Plan) (cells : List ℤ) (soft : SoftStreams) (shape : Shape) → IsPlan task.plan → r < task.plan.c → p ≡ task.plan
    → soft ≡ streams_of_cells (size p r) (fill p r) cells → shape ≡ block_shape task.plan task.limits r → AreStreamsOf shape.k shape.f soft
fitting task r p cells soft shape is below same soft_is shape_is =
    subst (λ (s : Shape). AreStreamsOf s.k s.f soft) (sym shape_is)
    (subst (λ (s : SoftStreams). AreStreamsOf (size task.plan r) (fill task.plan r) s)
    (sym (soft_is ∙ ap (λ (q : Plan). streams_of_cells (size q r) (fill q r) cells) same))
    (let block = block-numbers task.plan r is below in streams-long (size task.plan r) (fill task.plan r) cells block.fills))

pub decode-requires : goal.decode-requires
decode-requires g c =
    let buffers = c.args.buffers.now in
    let fits = fitting c.args.task.now c.args.r buffers.plan (cells_of_block buffers.cells c.args.r) c.in_ok-streams.streams c.block_shape.result c.block_shape.ensures.lawful
    c.requires.block c.requires.plan c.in_ok-streams.ensures.cells c.block_shape.ensures.value in
    c.requires.takes _ _ _ (record { fill = fits.fill; d0 = fits.d0; d1 = fits.d1; d2 = fits.d2 })
