-- What `codeword` answers to an input.
use Rattle.std.specs.Prelude.{ℕ, ◌+◌, List, [], ◌∷◌, ◌++◌, length, nat_lt, ◌==◌, if◌then◌else◌, codes, decimal}
use Rattle.lte_bits.specs.Packing.{packed}
use Rattle.model_sender.specs.CircularBuffer.{Match}
use Rattle.model_sender.specs.Codeword.{codeword}
use Rattle.run_loop.specs.Lines.{line_end}
use Rattle.run_loop.specs.Answer.{Part, Answer, finished, preceded_by, heading, refusal, closed}

-- `end bits G`
abbrev pub bits_line : Match → List ℕ
bits_line m = codes "end bits " ++ decimal m.g ++ line_end

-- the codeword of a redundancy version, as bytes
abbrev pub codeword_text : Match → ℕ → List ℕ → List ℕ
codeword_text m rv payload = packed (codeword payload m rv)

-- the one block: known whole once the end of the input was seen
abbrev pub codeword_part : Match → ℕ → List ℕ → Part
codeword_part m rv payload =
    record { text = codeword_text m rv payload; line = []; size = length payload; wants = length payload + 1 }

-- an empty input is refused, and so is the byte after 18,722; the one block is known to be the last
abbrev pub block_answer : Match → ℕ → List ℕ → Answer
block_answer m rv input = if length input == 0
    then refusal 4 0 0 1
    else if nat_lt 18722 (length input) then refusal 4 18722 18723 18723
    else preceded_by (codeword_part m rv input ∷ []) (closed [] (bits_line m) finished 0 0)

-- `out` begins with nothing
abbrev pub codeword_answer : Match → ℕ → List ℕ → Answer
codeword_answer m rv input = preceded_by (heading [] 0 ∷ []) (block_answer m rv input)
