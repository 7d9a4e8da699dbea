-- The text of a stream: the header, the blocks, and the end word.
use Rattle.std.specs.Prelude.{ℕ, List, ◌++◌, flat_map}
use Rattle.coded_stream.specs.Header.{Header, word_text, header_text}
use Rattle.coded_stream.specs.Blocks.{Block, block_text}

abbrev pub end_word : List ℕ
end_word = word_text 0

-- what follows the header
abbrev pub body_text : List Block → List ℕ
body_text blocks = flat_map block_text blocks ++ end_word

abbrev pub stream_text : Header → List Block → List ℕ
stream_text h blocks = header_text h ++ body_text blocks
