-- A transport block that is received call by call.
use Rattle.std.specs.Prelude.{ℕ, suc, ℤ, pos, if◌then◌else◌, List, [], ◌∷◌, map, take, drop, replicate}
use Rattle.std.specs.List.{sum_by}
use Rattle.model_sender.specs.Segmentation.{plan_of}
use Rattle.model_receiver.specs.declared.result.CodeResult.{CodeResult}
use Rattle.model_receiver.specs.declared.result.TbOutcome.{TbOutcome}
use Rattle.model_receiver.specs.declared.result.TbOutcome.TheVariants.{Delivered, Failed}
use Rattle.model_receiver.specs.TransportBlocks.{delivers, iterations_of, payload_of}
use Rattle.soft_buffers.specs.Flat.{cell_count}
use Rattle.gomzelat_c.specs.Buffers.{with_front}
use Rattle.gomzelat_c.specs.State.{bit_count, digits_of, entry_of, no_entry}
use Rattle.gomzelat_c.specs.Steps.{cells_after, results_after}
use Rattle.gomzelat_c.specs.declared.receiver.Receiver.{Receiver}
use Rattle.gomzelat_c.specs.declared.state.CodeBlock.{CodeBlock}
use Rattle.gomzelat_c.specs.declared.transmission.Transmission.{Transmission}

-- what a caller keeps from call to call
pub record State : Type 0 where
  pub cells : List ℤ
  pub blocks : List CodeBlock
  pub bits : List ℕ

-- before the first transmission: all 0
abbrev pub fresh : (bytes : ℕ) → State
fresh bytes =
    let plan = plan_of bytes in
    record {
      cells = replicate (cell_count plan) (pos 0);
      blocks = replicate plan.c no_entry;
      bits = replicate (bit_count plan) 0;
    }

-- after `gomzelat_combine` with the soft values of a transmission
abbrev pub with_transmission : (bytes : ℕ) → Receiver → Transmission → (values : List ℤ) → State → State
with_transmission bytes r t values s = record {
  cells = with_front (cells_after bytes t r.n_ir values s.cells) s.cells;
  blocks = s.blocks;
  bits = s.bits;
}

-- the results that `gomzelat_decode` comes to, and what it leaves
abbrev pub results_of : (bytes : ℕ) → Receiver → State → List CodeResult
results_of bytes r s = results_after bytes r s.cells s.blocks s.bits

abbrev pub decoded : (bytes : ℕ) → Receiver → State → State
decoded bytes r s =
    let results = results_of bytes r s in
    record {
      cells = s.cells;
      blocks = with_front (map entry_of results) s.blocks;
      bits = with_front (digits_of results) s.bits;
    }

-- the outcome where after each transmission the one is called and then the other, until all checks hold; so many
-- transmissions were seen before
abbrev pub by_calls : (bytes : ℕ) → Receiver → State → (seen : ℕ) → List Transmission → (values : List ℤ) → TbOutcome
by_calls bytes r s seen [] values = Failed seen (sum_by (λ b. b.iterations) s.blocks)
by_calls bytes r s seen (t ∷ ts) values =
    let combined = with_transmission bytes r t (take t.g values) s in
    let results = results_of bytes r combined in
    if delivers (plan_of bytes) results
    then Delivered (payload_of (plan_of bytes) results) (suc seen) (iterations_of results)
    else by_calls bytes r (decoded bytes r combined) (suc seen) ts (drop t.g values)
