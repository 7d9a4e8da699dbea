-- Results that are those of a plan's blocks.
use Rattle.std.specs.Prelude.{◌≡◌, ℕ, ◌<◌, ◌≤◌, None, IfSome, length, slice_index_or}
use Rattle.model_sender.specs.Segmentation.{Plan, size, fill}
use Rattle.model_receiver.specs.declared.result.CodeResult.{CodeResult}
use Rattle.model_receiver.specs.TransportBlocks.{Held}

-- a result with the fillers and the size of block r
pub record IsShaped (plan : Plan) (r : ℕ) (x : CodeResult) : Type 0 where
  pub fill : x.block.fill ≡ fill plan r
  pub long : length x.block.bits ≡ size plan r

-- after so many iterations as a decoder makes
abbrev pub IsOf : Plan → ℕ → CodeResult → Type 0
IsOf plan r x = IsShaped plan r x × (x.iterations ≤ 16)

-- each result that is held is of its block
abbrev pub AreHeldOf : Plan → Held → Type 0
AreHeldOf plan held = (r : ℕ) → r < plan.c → IfSome (slice_index_or held r None) (IsOf plan r)
