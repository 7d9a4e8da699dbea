-- How far the decoding of a code block may go.
use Rattle.std.specs.Prelude.{ℕ, ◌≤◌}

-- the most windows of a code block, and the most iterations
pub record DecoderLimits : Type 0 where
  pub windows : ℕ
  pub limit : ℕ

-- what all limits keep
pub record AreLimits (l : DecoderLimits) : Type 0 where
  pub some_windows : 1 ≤ l.windows
  pub few_windows : l.windows ≤ 64
  pub some_iterations : 1 ≤ l.limit
  pub few_iterations : l.limit ≤ 16
