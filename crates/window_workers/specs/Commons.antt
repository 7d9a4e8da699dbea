-- The common value: the common state of a half, and ended at a half.
use Rattle.std.specs.Prelude.{◌≡◌, ℕ, ◌-◌, ◌*◌, ◌<◌, ◌≤◌, length}
use Rattle.model_sender.specs.CheckBits.{IsMultiple}
use Rattle.model_sender.specs.Interleaver.{row_of}
use Rattle.qpp_table.specs.Qpp.{row_in}
use Rattle.model_receiver.specs.declared.result.CodeResult.{CodeResult}
use Rattle.model_receiver.specs.HalfIteration.{tail_border}
use Rattle.model_receiver.specs.Decoding.{decided_in, generator, code_result}
use Rattle.phase_board.specs.Slots.{HasRoom}
use Rattle.window_workers.specs.declared.job.DecodingJob.{DecodingJob}
use Rattle.window_workers.specs.declared.common.Progress.{Progress}
use Rattle.window_workers.specs.declared.common.Rooms.{Rooms}
use Rattle.window_workers.specs.declared.common.Stage.{Stage}
use Rattle.window_workers.specs.declared.common.Stage.TheVariants.{Running, Decided}
use Rattle.window_workers.specs.declared.common.WindowCommon.{WindowCommon}
use Rattle.window_workers.specs.Jobs.{before_half}

-- no iteration whose second half is before half h has bits that check
abbrev pub NoneChecked : DecodingJob → ℕ → Type 0
NoneChecked job h = (m : ℕ) → 1 ≤ m → 2 * m - 1 < h
    → IsMultiple (generator job.shape.kind) (decided_in job.streams job.shape m) → ⊥

-- a decoding with the borders left in the half before l, that no iteration before half h has ended
pub record IsProgress (job : DecodingJob) (l h : ℕ) (p : Progress) : Type 0 where
  pub shape : p.shape ≡ job.shape
  pub interleaver : row_in p.interleaver ≡ row_of job.shape.k
  pub even_tail : p.even_tail ≡ tail_border job.streams job.shape.k 0
  pub odd_tail : p.odd_tail ≡ tail_border job.streams job.shape.k 1
  pub bits : length p.bits.items ≡ job.shape.k
  pub left : p.left.items ≡ (before_half job l).left
  pub within : h < 2 * job.shape.limit
  pub none_checked : NoneChecked job h

abbrev pub HasRooms : ℕ → Rooms → Type 0
HasRooms windows rooms = HasRoom windows rooms.shares × HasRoom windows rooms.tools

abbrev pub IsRunning : DecodingJob → ℕ → Stage → Type 0
IsRunning job h (Running p rooms) = IsProgress job h h p × HasRooms job.shape.windows rooms
IsRunning job h (Decided r) = ⊥

-- the common state of half h
abbrev pub IsCommonOf : DecodingJob → ℕ → WindowCommon → Type 0
IsCommonOf job h c = IsRunning job h c.stage

-- the result of the job, with half h the second of its last iteration
abbrev pub IsResultAt : DecodingJob → ℕ → CodeResult → Type 0
IsResultAt job h r = (h ≡ 2 * r.iterations - 1) × (1 ≤ r.iterations) × (r ≡ code_result job.streams job.shape)

abbrev pub IsDecided : DecodingJob → ℕ → Stage → Type 0
IsDecided job h (Running p rooms) = ⊥
IsDecided job h (Decided r) = IsResultAt job h r

-- ended at half h
abbrev pub IsEndedAt : DecodingJob → ℕ → WindowCommon → Type 0
IsEndedAt job h c = IsDecided job h c.stage
