-- A walk round the circular buffer (36.212 5.1.4.1.2).
use Rattle.std.specs.Prelude.{ℕ, List}
use Rattle.model_sender.specs.Selection.{bits_from, holds_bit, repeated}
use Rattle.rate_match.specs.declared.walk.Walk.{Walk}

-- the places of so many bits from the walk's place on, round and round
abbrev pub places_from : Walk → ℕ → List ℕ
places_from walk e = repeated (bits_from (holds_bit walk.ring.k walk.ring.fill) walk.cursor.n walk.ring.size) e
