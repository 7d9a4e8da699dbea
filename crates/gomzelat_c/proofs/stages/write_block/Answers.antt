use Rattle.std.proofs.Common.{length, map, ap, ◌∙◌, arith}
use Rattle.std.proofs.lemmas.List.{length-map}
use Rattle.lte_bits.specs.Bits.{digit}
use Rattle.lte_bits.specs.declared.block.Block.{Block}
use Rattle.gomzelat_c.specs.Buffers.{with_front}
use Rattle.gomzelat_c.proofs.OneBlock.{cut_from, one_block, within_cut}
use Rattle.gomzelat_c.proofs.stages.write_block.Goals as goal

pub code_block-requires : goal.code_block-requires
code_block-requires c = within_cut c.args.payload.now c.new.result c.in_ok-plan.plan c.args.r c.new.ensures c.in_ok-plan.ensures.plan c.in_ok-plan.ensures.block

pub write_bytes-requires : goal.write_bytes-requires
write_bytes-requires c =
    let one =
    one_block c.args.payload.now c.in_ok-plan.plan c.args.r c.in_ok-block.block c.in_ok-plan.ensures.plan c.size.ensures.lawful c.in_ok-plan.ensures.block
    (cut_from c.args.payload.now c.new.result c.args.r c.in_ok-block.block c.new.ensures c.in_ok-block.ensures)
    in
    omega (
      arith,
      ap length (c.as_slice-2.ensures ∙ c.in_ok-digits.ensures),
      length-map c.as_slice.result.now digit,
      ap length c.as_slice.ensures,
      one.long,
      c.size.ensures.value,
      c.in_ok-has_room.ensures.room,
    )

pub returns-clause-bits : goal.returns-clause-bits
returns-clause-bits c =
    let one =
    one_block c.args.payload.now c.in_ok-plan.plan c.args.r c.in_ok-block.block c.in_ok-plan.ensures.plan c.size.ensures.lawful c.in_ok-plan.ensures.block
    (cut_from c.args.payload.now c.new.result c.args.r c.in_ok-block.block c.new.ensures c.in_ok-block.ensures)
    in
    c.write_bytes.ensures
    ∙ ap (λ xs. with_front xs c.args.out.now) (c.as_slice-2.ensures ∙ c.in_ok-digits.ensures ∙ ap (map digit) (c.as_slice.ensures ∙ ap (λ (b : Block). b.bits) one.is))
