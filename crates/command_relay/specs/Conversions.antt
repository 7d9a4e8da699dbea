-- Commands that write a stream of the blocks that they read: each transmission is converted by itself.
use Rattle.std.specs.Prelude.{ℕ, ◌+◌, false, Some, List, [], ◌∷◌, ◌++◌, take, drop}
use Rattle.model_sender.specs.CircularBuffer.{Match}
use Rattle.rate_match.specs.declared.sends.Sending.{Sending}
use Rattle.coded_stream.specs.Header.{Header, word_text}
use Rattle.coded_stream.specs.Blocks.{Block, transmission_size}
use Rattle.coded_stream.specs.declared.kind.Want.{Want}
use Rattle.run_loop.specs.Lines.{blocks_line}
use Rattle.stream_loop.specs.Handling.{Handled, Handling}

-- which streams a command takes, its header for theirs, and what it makes of each transmission, by the numbers
-- of the block and of the transmission in it, from 0
pub record Conversion : Type 0 where
  pub want : Want
  pub header : Header → Header
  pub made : Header → (block number : ℕ) → Match → (bytes : List ℕ) → List ℕ

-- what is made of these transmissions, of which the first has this number
abbrev pub made_from : Conversion → Header → (block number : ℕ) → List Sending → (bytes : List ℕ) → List ℕ
made_from w h block number [] bytes = []
made_from w h block number (s ∷ sends) bytes =
    let size = transmission_size h.kind s.m.g in
    w.made h block number s.m (take size bytes) ++ made_from w h block (number + 1) sends (drop size bytes)

-- the length word, and what is made of all transmissions
abbrev pub converted : Conversion → Header → (number : ℕ) → Block → Handled
converted w h number b = record {
  text = word_text b.payload ++ made_from w h number 0 h.sends b.bytes;
  line = [];
  failed = false;
}

abbrev pub handling_of : Conversion → Handling
handling_of w = record {
  want = w.want;
  header = λ h. Some (w.header h);
  block = converted w;
  last = λ blocks _. blocks_line blocks;
}
