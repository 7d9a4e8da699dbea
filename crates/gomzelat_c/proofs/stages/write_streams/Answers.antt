use Rattle.std.proofs.Common.{◌≡◌, ◌++◌, length, map, ap, ◌∙◌, arith}
use Rattle.lte_bits.specs.declared.block.Streams.{Streams}
use Rattle.model_sender.specs.Segmentation.{fill, size}
use Rattle.gomzelat_c.specs.Buffers.{with_front}
use Rattle.gomzelat_c.specs.Stages.{cell_number}
use Rattle.gomzelat_c.proofs.OneBlock.{few_bits, streams_long}
use Rattle.gomzelat_c.proofs.stages.write_streams.Goals as goal

pub overflow_add-size : goal.overflow_add-size
overflow_add-size c = omega (arith, few_bits c.in_ok-plan.plan c.args.r c.size.ensures.lawful c.in_ok-plan.ensures.block, c.size.ensures.value)

pub overflow_mul-size : goal.overflow_mul-size
overflow_mul-size c = omega (arith, few_bits c.in_ok-plan.plan c.args.r c.size.ensures.lawful c.in_ok-plan.ensures.block, c.size.ensures.value)

pub write_bytes-requires : goal.write_bytes-requires
write_bytes-requires c =
    let p = c.in_ok-plan.plan in
    let r = c.args.r in
    let s : Streams = c.in_ok-streams.streams in
    let row : c.as_slice-2.result.now ≡ s.d0 ++ s.d1 ++ s.d2 = c.as_slice-2.ensures ∙ c.in_ok-cells_in_a_row.ensures in
    omega (
      arith,
      ap length (c.as_slice-3.ensures ∙ c.in_ok-numbers.ensures ∙ ap (map cell_number) row),
      streams_long (size p r) (fill p r) s c.in_ok-streams.ensures.shape,
      c.size.ensures.value,
      c.in_ok-has_room.ensures.room,
    )

pub returns-clause-streams : goal.returns-clause-streams
returns-clause-streams c =
    c.write_bytes.ensures
    ∙ ap (λ xs. with_front xs c.args.out.now)
    (c.as_slice-3.ensures ∙ c.in_ok-numbers.ensures
    ∙ ap (map cell_number) (c.as_slice-2.ensures ∙ c.in_ok-cells_in_a_row.ensures ∙ ap (λ (s : Streams). s.d0 ++ s.d1 ++ s.d2) c.in_ok-streams.ensures.streams))
