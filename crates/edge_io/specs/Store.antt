-- What a sink over memory is, and is after a write and a reservation.
use Rattle.std.specs.Prelude.{◌≡◌, ℕ, ◌-◌, ◌<◌, ◌⊎◌, max, List, ◌++◌, length, Contains}
use Rattle.edge_io.specs.Edge.{next_count}

-- a sink that holds bytes in memory
pub record Store : Type 0 where
  -- the bytes that it holds
  pub bytes : List ℕ
  -- the most that one call takes
  pub piece : ℕ
  -- the numbers of the calls that fail
  pub failing : List ℕ
  -- for how many bytes there is room
  pub room : ℕ
  -- the number of the next call, from 0
  pub calls : ℕ
  -- how many calls failed
  pub faults : ℕ

-- the next call fails: by its number, or since it is given something and no room is left
abbrev pub Refuses : Store → List ℕ → Type 0
Refuses s piece = Contains s.failing s.calls ⊎ ((0 < length piece) × (s.room ≡ 0))

-- a call took these bytes
abbrev pub after_write : Store → List ℕ → Store
after_write s taken = record s {
  bytes = s.bytes ++ taken;
  room = s.room - length taken;
  calls = next_count s.calls;
}

-- a call failed
abbrev pub after_fault : Store → Store
after_fault s = record s { calls = next_count s.calls; faults = next_count s.faults }

-- there is room for `more` bytes, or for as many as before
abbrev pub after_reserve : Store → ℕ → Store
after_reserve s more = record s { room = max s.room more }
