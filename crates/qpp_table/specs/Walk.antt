-- The walk along the values (f1 i + f2 i^2) mod K (36.212 5.1.3.2.3).
use Rattle.std.specs.Prelude.{◌≡◌, ℕ, ◌+◌, ◌*◌, ◌%◌}
use Rattle.model_sender.specs.Interleaver.{pi}
use Rattle.qpp_table.specs.declared.walk.Walk.{Walk}

-- K
abbrev pub size_along : Walk → ℕ
size_along walk = walk.size

-- a walk stands at the value of place i
pub record IsAt (f1 f2 i : ℕ) (walk : Walk) : Type 0 where
  pub place : walk.place ≡ pi walk.size f1 f2 i
  pub step : walk.step ≡ (f1 + f2 * (2 * i + 1)) % walk.size
  pub growth : walk.growth ≡ 2 * f2 % walk.size
