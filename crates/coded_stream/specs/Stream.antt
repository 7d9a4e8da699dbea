-- What a stream says: its header and its blocks, or where it is refused.
use Rattle.std.specs.Prelude.{ℕ, ◌<◌, ◌≤◌, List, [], ◌∷◌, length}
use Rattle.coded_stream.specs.Header.{Header, header_text, IsHeader}
use Rattle.coded_stream.specs.Blocks.{Block, IsBlock}
use Rattle.coded_stream.specs.Opening.{Opening, opens, refuses, opening}
use Rattle.coded_stream.specs.Body.{Ending, whole, bad, body}
use Rattle.coded_stream.specs.declared.kind.Want.{Want}

-- the most blocks of a stream
abbrev pub most_blocks : ℕ
most_blocks = 4096

pub data Stream : Type 0 where
  accepted : Header → List Block → Stream
  refused : (number place : ℕ) → Stream

abbrev pub ended_as : Header → List Block → Ending → Stream
ended_as h blocks whole = accepted h blocks
ended_as h blocks (bad refusal) = refused refusal.number refusal.place

abbrev pub opened_as : Opening → Stream
opened_as (opens h left) =
    let rest = body h most_blocks (length (header_text h)) left in ended_as h rest.blocks rest.ending
opened_as (refuses refusal) = refused refusal.number refusal.place

-- of an input, where these streams are wanted
abbrev pub stream_of : Want → List ℕ → Stream
stream_of want input = opened_as (opening want input)

-- ---- which streams are accepted

abbrev pub AreBlocks : Header → List Block → Type 0
AreBlocks h [] = Unit {0}
AreBlocks h (b ∷ blocks) = IsBlock h b × AreBlocks h blocks

pub record IsStream (h : Header) (blocks : List Block) : Type 0 where
  pub header : IsHeader h
  pub few : length blocks ≤ most_blocks
  pub each : AreBlocks h blocks

-- an input is a list of bytes
abbrev pub AreBytes : List ℕ → Type 0
AreBytes [] = Unit {0}
AreBytes (b ∷ bs) = (b < 256) × AreBytes bs
