-- The plans of transport blocks (36.212 5.1.2).
use Rattle.std.specs.Prelude.{◌≡◌, ◌≤◌}
use Rattle.model_sender.specs.Segmentation.{Plan, plan_of}

-- it is that of a transport block of 1 to 18,722 bytes
pub record IsPlan (plan : Plan) : Type 0 where
  pub some : 1 ≤ plan.bytes
  pub few : plan.bytes ≤ 18722
  pub planned : plan ≡ plan_of plan.bytes
