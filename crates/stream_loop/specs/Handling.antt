-- What a command answers to a stream: something for each of its blocks, in order.
use Rattle.std.specs.Prelude.{ℕ, ◌+◌, Bool, List, [], ◌∷◌, length, nat_lt, if◌then◌else◌, None, Some}
use Rattle.std.specs.declared.option.Option.{Option}
use Rattle.coded_stream.specs.Header.{Header, header_text}
use Rattle.coded_stream.specs.Blocks.{Block}
use Rattle.coded_stream.specs.Opening.{Opening, opens, refuses, opening}
use Rattle.coded_stream.specs.Body.{Body, body, whole, bad}
use Rattle.coded_stream.specs.Body as stream
use Rattle.coded_stream.specs.Stream.{most_blocks}
use Rattle.coded_stream.specs.Text.{end_word}
use Rattle.coded_stream.specs.declared.kind.Want.{Want}
use Rattle.run_loop.specs.Answer.{Part, Answer, preceded_by, heading, refusal, closed}
use Rattle.run_loop.specs.Step.{ending_of}

-- what a block adds to `out` and to the report, and whether it failed
pub record Handled : Type 0 where
  pub text : List ℕ
  pub line : List ℕ
  pub failed : Bool

-- A command over a stream: which streams it takes, the header of the stream that it writes, if it writes one,
-- what each block comes to, by its number from 0, and the report's last line, after so many blocks of which so
-- many failed.
pub record Handling : Type 0 where
  pub want : Want
  pub header : Header → Option Header
  pub block : Header → (number : ℕ) → Block → Handled
  pub last : (blocks failed : ℕ) → List ℕ

-- ---- the blocks

-- a block is its length word and its transmissions, and is known once these have come
abbrev pub part : Handled → Block → Part
part x b = record { text = x.text; line = x.line; size = 4 + length b.bytes; wants = 4 + length b.bytes }

abbrev pub one_if : Bool → ℕ
one_if failed = if failed then 1 else 0

-- what closes `out`: the end word, where a stream is written
abbrev pub closing_text : Option Header → List ℕ
closing_text None = []
closing_text (Some h) = end_word

-- Of the blocks after so many others, of which so many failed. An end word of 4 bytes ends the stream, which
-- is known once the end of the input was seen after it.
abbrev pub blocks_answer : Handling → Header → (number failed : ℕ) → List Block → stream.Ending → Answer
blocks_answer w h number failed [] whole =
    closed (closing_text (w.header h)) (w.last number failed) (ending_of (nat_lt 0 failed)) 4 5
blocks_answer w h number failed [] (bad r) = refusal r.number r.place r.size r.due
blocks_answer w h number failed (b ∷ blocks) ending =
    let x = w.block h number b in
    preceded_by (part x b ∷ []) (blocks_answer w h (number + 1) (failed + one_if x.failed) blocks ending)

abbrev pub body_answer : Handling → Header → (number failed : ℕ) → Body → Answer
body_answer w h number failed rest = blocks_answer w h number failed rest.blocks rest.ending

-- ---- the whole

-- what `out` begins with: the header, where a stream is written
abbrev pub opening_text : Option Header → List ℕ
opening_text None = []
opening_text (Some h) = header_text h

-- a header, and the blocks after it, or a header that is refused
abbrev pub opening_answer : Handling → Opening → Answer
opening_answer w (opens h left) =
    let size = length (header_text h) in
    preceded_by (heading (opening_text (w.header h)) size ∷ []) (body_answer w h 0 0 (body h most_blocks size left))
opening_answer w (refuses r) = refusal r.number r.place r.size r.due

unfoldable pub stream_answer : Handling → (input : List ℕ) → Answer
stream_answer w input = opening_answer w (opening w.want input)
