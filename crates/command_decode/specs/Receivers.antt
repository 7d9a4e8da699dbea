-- What is asked of whoever receives transport blocks.
use Rattle.std.specs.Prelude.{◌≡◌, ◌≤◌, ℕ, ℤ, Result, List, IfOk, length}
use Rattle.std.specs.Borrow.{Bor}
use Rattle.model_sender.specs.CircularBuffer.{FitsIn}
use Rattle.model_receiver.specs.TransportBlocks.{outcome}
use Rattle.model_receiver.specs.declared.result.TbOutcome.{TbOutcome}
use Rattle.rate_match.specs.Sendings.{common}
use Rattle.rate_match.specs.declared.sends.Sending.{Sending}
use Rattle.block_receive.specs.Receptions.{receptions, value_count}
use Rattle.block_receive.specs.declared.task.Task.{Task}

-- soft values of these transmissions, whose buffer fits the plan, and up to 16 workers
pub record AreReceived (task : Task) (workers : ℕ) (sends : List Sending) (softs : List ℤ) : Type 0 where
  pub fits : FitsIn (common sends).limit task.plan.c task.plan.k_plus
  pub values : length softs ≡ value_count sends
  pub some_workers : 1 ≤ workers
  pub few_workers : workers ≤ 16

-- it may be called with them
abbrev pub TakesTransmissions : {A : Type 0} → (A → Bor Task → ℕ → Bor (List Sending) → Bor (List ℤ) → Type 0) → Type 0
TakesTransmissions {A} pre =
    (alloc : A) (task : Bor Task) (workers : ℕ) (sends : Bor (List Sending)) (softs : Bor (List ℤ))
    → AreReceived task.now workers sends.now softs.now → pre alloc task workers sends softs

-- and gives what the reception comes to, where it gives anything
abbrev pub GivesOutcomes : {A E : Type 0}
    → (A → Bor Task → ℕ → Bor (List Sending) → Bor (List ℤ) → Result TbOutcome E → Type 0) → Type 0
GivesOutcomes {A} {E} post =
    (alloc : A) (task : Bor Task) (workers : ℕ) (sends : Bor (List Sending)) (softs : Bor (List ℤ)) (r : Result TbOutcome E)
    → post alloc task workers sends softs r
    → IfOk r (λ o. o ≡ outcome task.now.plan task.now.limits (receptions sends.now softs.now))
