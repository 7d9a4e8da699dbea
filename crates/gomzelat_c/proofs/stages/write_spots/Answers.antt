use Rattle.std.proofs.Common.{ℕ, Contains, length, subst, sym, ap, ◌∙◌, arith}
use Rattle.model_sender.specs.CircularBuffer.{buffer_size}
use Rattle.model_sender.specs.Interleaver.{sizes}
use Rattle.rate_match.proofs.BlockNumbers.{block-numbers}
use Rattle.gomzelat_c.proofs.OneBlock.{few_bits, spots_count}
use Rattle.gomzelat_c.proofs.stages.write_spots.Goals as goal

pub overflow_add-k : goal.overflow_add-k
overflow_add-k c = omega (arith, few_bits c.in_ok-plan.plan c.args.r c.size-k.ensures.lawful c.in_ok-plan.ensures.block, c.size-k.ensures.value)

pub overflow_mul-div_ceil : goal.overflow_mul-div_ceil
overflow_mul-div_ceil c =
    omega (arith, few_bits c.in_ok-plan.plan c.args.r c.size-k.ensures.lawful c.in_ok-plan.ensures.block, c.size-k.ensures.value, c.div_ceil.ensures)

pub spots_of-requires-clause-size : goal.spots_of-requires-clause-size
spots_of-requires-clause-size c =
    subst (λ (k : ℕ). Contains sizes k) (sym c.size-k.ensures.value) (block-numbers c.in_ok-plan.plan c.args.r c.size-k.ensures.lawful c.in_ok-plan.ensures.block).inside

pub spots_of-requires-clause-fills : goal.spots_of-requires-clause-fills
spots_of-requires-clause-fills c =
    omega (arith, (block-numbers c.in_ok-plan.plan c.args.r c.size-k.ensures.lawful c.in_ok-plan.ensures.block).fills, c.size-k.ensures.value, c.fill.ensures)

pub write_numbers-requires : goal.write_numbers-requires
write_numbers-requires c =
    omega (
      arith,
      ap length (c.as_slice.ensures ∙ c.in_ok-spots.ensures),
      spots_count c.size-k.result c.fill.result (buffer_size c.size-k.result),
      c.div_ceil.ensures,
      c.in_ok-has_room.ensures.room,
    )
