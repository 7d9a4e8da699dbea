use Rattle.std.proofs.Common.{List, length, ap, ◌∙◌, arith}
use Rattle.std.proofs.lemmas.List.{length-map}
use Rattle.model_sender.specs.Segmentation.{Plan}
use Rattle.model_receiver.specs.declared.result.CodeResult.{CodeResult}
use Rattle.block_receive.proofs.ShapedBlocks.{blocks-count}
use Rattle.gomzelat_c.specs.State.{bit_count, entry_of}
use Rattle.gomzelat_c.proofs.KeptBlocks.{digits-long}
use Rattle.gomzelat_c.proofs.Rooms.{payload_few, plan_bytes}
use Rattle.gomzelat_c.proofs.decoding.decode.Goals as goal

pub write_entries-requires : goal.write_entries-requires
write_entries-requires c =
    let plan : Plan = c.in_ok-task.task.plan in
    let results : List CodeResult = c.in_ok-results.results.items in
    omega (
      arith,
      ap length (c.as_slice.ensures ∙ c.in_ok-left.ensures.entries),
      length-map results entry_of,
      blocks-count plan results c.in_ok-results.ensures.shaped,
      ap (λ (p : Plan). p.c) c.in_ok-task.ensures.plan,
      c.in_ok-task.ensures.blocks,
    )

pub write_bytes-requires : goal.write_bytes-requires
write_bytes-requires c =
    let plan : Plan = c.in_ok-task.task.plan in
    let results : List CodeResult = c.in_ok-results.results.items in
    omega (
      arith,
      ap length (c.as_slice-2.ensures ∙ c.in_ok-left.ensures.digits),
      digits-long plan results c.in_ok-results.ensures.shaped,
      ap bit_count c.in_ok-task.ensures.plan,
      c.in_ok-task.ensures.bits,
    )

pub write_bytes-requires-2 : goal.write_bytes-requires-2
write_bytes-requires-2 c =
    let plan : Plan = c.in_ok-task.task.plan in
    let results : List CodeResult = c.in_ok-results.results.items in
    omega (
      arith,
      ap length (c.as_slice-3.ensures ∙ c.in_ok-left.ensures.payload),
      payload_few plan results,
      ap (λ (p : Plan). p.bytes) c.in_ok-task.ensures.plan,
      plan_bytes c.args.bytes,
      c.in_ok-task.ensures.payload,
    )
