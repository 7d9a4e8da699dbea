-- One transmission more, beside the definition.
use Rattle.std.specs.Prelude.{◌≡◌, ℕ, ◌+◌, Option, None, Some, true, false, List, [], ◌∷◌, ◌++◌, length}
use Rattle.model_sender.specs.Segmentation.{Plan}
use Rattle.model_receiver.specs.SoftCells.{Reception}
use Rattle.model_receiver.specs.declared.result.CodeResult.{CodeResult}
use Rattle.model_receiver.specs.declared.result.TbOutcome.TheVariants as outcome
use Rattle.model_receiver.specs.TransportBlocks.{delivers, held_after, iterations_of, outcome_from, payload_of}
use Rattle.soft_buffers.specs.Buffers.{Hold}
use Rattle.block_receive.specs.declared.progress.Progress.{Progress}
use Rattle.block_receive.specs.declared.progress.Tried.{Tried}
use Rattle.block_receive.specs.declared.progress.Tried.TheVariants.{Delivered, Failed}
use Rattle.block_receive.specs.declared.task.Task.{Task}

-- what the results of a try come to
abbrev pub ComesTo : Plan → List CodeResult → Tried → Type 0
ComesTo plan results (Delivered bytes) = (delivers plan results ≡ true) × (bytes ≡ payload_of plan results)
ComesTo plan results (Failed held) = (delivers plan results ≡ false) × (held.items ≡ held_after results)

-- these receptions came, and the last try had these results
pub record IsReached (p : Progress) (seen : List Reception) (last : List CodeResult) : Type 0 where
  pub cells : Hold p.buffers seen
  pub held : p.held.items ≡ held_after last
  pub iterations : p.iterations ≡ iterations_of last

-- With reception x the outcome is a delivery, whatever comes later, or goes on from what is reached then.
abbrev pub GoesOn : Task → (seen : List Reception) → (last : List CodeResult) → Reception → Progress → Option (List ℕ) → Type 0
GoesOn task seen last x p (Some bytes) = (later : List Reception) →
    outcome_from task.plan task.limits seen last (x ∷ later) ≡ outcome.Delivered bytes (length seen + 1) p.iterations
GoesOn task seen last x p None = (results : List CodeResult) × IsReached p (seen ++ x ∷ []) results
    × ((later : List Reception) → outcome_from task.plan task.limits seen last (x ∷ later)
    ≡ outcome_from task.plan task.limits (seen ++ x ∷ []) results later)
