-- What a source over memory is, and is after a read.
use Rattle.std.specs.Prelude.{ℕ, List, drop}
use Rattle.edge_io.specs.Edge.{next_count}

-- a source over bytes in memory
pub record Feed : Type 0 where
  -- the bytes that are left
  pub left : List ℕ
  -- the most that one call gives
  pub piece : ℕ
  -- the numbers of the calls that fail
  pub failing : List ℕ
  -- the number of the next call, from 0
  pub calls : ℕ
  -- how many calls failed
  pub faults : ℕ

-- a call gave n bytes
abbrev pub after_read : Feed → ℕ → Feed
after_read f n = record f { left = drop n f.left; calls = next_count f.calls }

-- a call failed
abbrev pub after_fault : Feed → Feed
after_fault f = record f { calls = next_count f.calls; faults = next_count f.faults }
