-- Runs of bits in the circular buffer (36.212 5.1.4.1.1, 5.1.4.1.2).
use Rattle.std.specs.Prelude.{◌≡◌, ℕ, ◌+◌, ◌-◌, ◌*◌, ◌/◌, ◌%◌, ◌<◌, ◌≤◌, ◌==◌, if◌then◌else◌, Some, List, map}
use Rattle.std.specs.List.{range_with_len}
use Rattle.model_sender.specs.declared.spot.Spot.{Spot}
use Rattle.model_sender.specs.CircularBuffer.{spot}
use Rattle.rate_match.specs.declared.runs.Run.{Run}

-- the bit that stands i places after a bit in its column: a column of d0 alone, or those of d1 and d2 by turns
abbrev pub bit_down : Spot → ℕ → Spot
bit_down b i =
    let turn = b.stream - 1 + i in
    let index = b.index + 32 * (turn / 2) in
    if b.stream == 0 then record { stream = 0; index = b.index + 32 * i }
    else if turn % 2 == 0 then record { stream = 1; index = index - (b.stream - 1) }
    else record { stream = 2; index = index + 1 - (b.stream - 1) }

-- a run of the first n places: at each of its places stands its bit
pub record IsRun (k fill n : ℕ) (run : Run) : Type 0 where
  pub some : 0 < run.count
  pub within : run.place + run.count ≤ n
  pub bits : (i : ℕ) → i < run.count → spot k fill (run.place + i) ≡ Some (bit_down run.first i)

-- its places
abbrev pub run_places : Run → List ℕ
run_places run = map (λ i. run.place + i) (range_with_len 0 run.count)
