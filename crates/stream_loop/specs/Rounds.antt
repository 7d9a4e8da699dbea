-- What a round of a command over a stream gives.
use Rattle.std.specs.Prelude.{◌≡◌, ℕ, ◌≤◌, List, [], ◌∷◌, Bool, true, nat_lt}
use Rattle.coded_stream.specs.Header.{Header, kind_code}
use Rattle.coded_stream.specs.Blocks.{Block}
use Rattle.coded_stream.specs.Opening.{is_wanted}
use Rattle.coded_stream.specs.Steps.{Reading, remaining}
use Rattle.coded_stream.specs.Stream.{most_blocks}
use Rattle.coded_stream.specs.declared.stop.StreamStop.{StreamStop}
use Rattle.coded_stream.specs.declared.stop.StreamStop.TheVariants as reader
use Rattle.run_loop.specs.Answer.{Part, Answer}
use Rattle.run_loop.specs.Step.{parts_of}
use Rattle.run_loop.specs.declared.work.Round.{Round}
use Rattle.run_loop.specs.declared.work.Stop.{Stop}
use Rattle.run_loop.specs.declared.work.Stop.TheVariants.{Go, End}
use Rattle.run_loop.specs.declared.status.Status.{Status}
use Rattle.run_loop.specs.declared.status.Status.TheVariants.{BadStream, ReadFault, NoMemory}
use Rattle.stream_loop.specs.Handling.{Handled, Handling, closing_text, part, body_answer}
use Rattle.stream_loop.specs.declared.handler.Handled as rust

-- ---- what the loop knows

abbrev pub handled_of : rust.Handled → Handled
handled_of x = record { text = x.text.items; line = x.line.items; failed = x.failed }

abbrev pub block_of : (payload : ℕ) → (bytes : List ℕ) → Block
block_of payload bytes = record { payload = payload; bytes = bytes }

-- a reader of a wanted stream that goes on, of whose blocks so many failed
pub record IsReady (w : Handling) (r : Reading) (failed : ℕ) : Type 0 where
  pub live : r.live ≡ true
  pub wanted : is_wanted w.want (kind_code r.header.kind) ≡ true
  pub few : failed ≤ r.blocks
  pub within : r.blocks ≤ most_blocks

-- what is still to come, for the input that is left
abbrev pub answer_ahead : Handling → Reading → (failed : ℕ) → (input : List ℕ) → Answer
answer_ahead w r failed input = body_answer w r.header r.blocks failed (remaining r input)

-- ---- what it makes

-- how a run ends where the reader stops
abbrev pub status_of : StreamStop → Status
status_of (reader.Bad number place) = BadStream number place
status_of reader.Fault = ReadFault
status_of reader.NoMemory = NoMemory

-- the end after so many blocks, of which so many failed
abbrev pub IsEnding : Handling → Header → (number failed : ℕ) → Stop → Type 0
IsEnding w h number failed (End closing last some) = (closing.items ≡ closing_text (w.header h))
    × (last.items ≡ w.last number failed) × (some ≡ nat_lt 0 failed)
IsEnding w h number failed _ = ⊥

-- a block alone, with more to come
abbrev pub IsAlone : Part → Round → Type 0
IsAlone p round = (parts_of round.parts.items ≡ p ∷ []) × (round.stop ≡ Go)

-- the round of what a block comes to, and whether it failed
abbrev pub IsGoing : Handled → Block → Round → Bool → Type 0
IsGoing x b round failed = IsAlone (part x b) round × (failed ≡ x.failed)
