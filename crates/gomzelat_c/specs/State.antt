-- What a caller keeps of a transport block from call to call: its soft cells, and what its code blocks came to.
use Rattle.std.specs.Prelude.{ℕ, ℤ, ◌==◌, not, if◌then◌else◌, List, map, flat_map, slice_index_or}
use Rattle.std.specs.List.{range_with_len}
use Rattle.lte_bits.specs.Bits.{bit_of, digit}
use Rattle.lte_bits.specs.Softs.{clamped}
use Rattle.model_sender.specs.Segmentation.{Plan, fill, size}
use Rattle.model_receiver.specs.declared.result.CodeResult.{CodeResult}
use Rattle.soft_buffers.specs.Parts.{before, part}
use Rattle.soft_buffers.specs.Flat.{by_block, cell_count}
use Rattle.gomzelat_c.specs.declared.state.CodeBlock.{CodeBlock}
use Rattle.gomzelat_c.specs.declared.state.Sizes.{Sizes}

-- the bits of all code blocks
abbrev pub bit_count : Plan → ℕ
bit_count plan = before (size plan) plan.c

abbrev pub sizes_of : Plan → Sizes
sizes_of plan = record { cells = cell_count plan; blocks = plan.c; bits = bit_count plan }

-- the soft cells of each code block; -128 is taken as -127
abbrev pub cells_of : Plan → List ℤ → List (List ℤ)
cells_of plan cells = by_block plan (map (clamped 127) cells)

-- what is read past the last entry
abbrev pub no_entry : CodeBlock
no_entry = record { passed = 0; iterations = 0 }

-- what entry r and the bits of block r tell: any number but 0 tells that it passed, and any but 0 is a bit 1
abbrev pub kept_result : Plan → List CodeBlock → List ℕ → ℕ → CodeResult
kept_result plan blocks bits r =
    let entry = slice_index_or blocks r no_entry in
    record {
      block = record { fill = fill plan r; bits = map bit_of (part (size plan) bits r) };
      iterations = entry.iterations;
      passed = not (entry.passed == 0);
    }

unfoldable pub kept : Plan → List CodeBlock → List ℕ → List CodeResult
kept plan blocks bits = map (kept_result plan blocks bits) (range_with_len 0 plan.c)

-- the entry of a result, and the bits of all results
abbrev pub entry_of : CodeResult → CodeBlock
entry_of x = record { passed = if x.passed then 1 else 0; iterations = x.iterations }

abbrev pub digits_of : List CodeResult → List ℕ
digits_of results = flat_map (λ x. map digit x.block.bits) results
