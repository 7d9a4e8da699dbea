-- What `encode` answers to an input: a hard stream of its blocks.
use Rattle.std.specs.Prelude.{ℕ, zero, suc, ◌+◌, ◌*◌, List, [], ◌∷◌, ◌++◌, length, take, drop, flat_map, nat_lt, ◌==◌, if◌then◌else◌}
use Rattle.lte_bits.specs.Packing.{packed}
use Rattle.model_sender.specs.Codeword.{codeword}
use Rattle.rate_match.specs.declared.sends.Sending.{Sending}
use Rattle.coded_stream.specs.Header.{Header, header_text, word_text}
use Rattle.coded_stream.specs.declared.kind.Kind.TheVariants.{Hard}
use Rattle.coded_stream.specs.declared.version.Version.{Version}
use Rattle.run_loop.specs.Lines.{blocks_line}
use Rattle.run_loop.specs.Answer.{Part, Answer, finished, preceded_by, heading, refusal, closed}

abbrev pub hard_header : Version → (tb : ℕ) → List Sending → Header
hard_header version tb sends = record { version = version; kind = Hard; tb = tb; sends = sends }

-- ---- a block

-- the codeword of one transmission, as bytes
abbrev pub sent_text : (payload : List ℕ) → Sending → List ℕ
sent_text payload s = packed (codeword payload s.m s.rv)

-- its length word, and the codeword of each transmission
abbrev pub block_text : List Sending → (payload : List ℕ) → List ℕ
block_text sends payload = word_text (length payload) ++ flat_map (sent_text payload) sends

abbrev pub block_part : Header → (payload : List ℕ) → (wants : ℕ) → Part
block_part h payload wants =
    record { text = block_text h.sends payload; line = []; size = length payload; wants = wants }

-- ---- all

-- the end word and the last line
abbrev pub end_answer : (count due : ℕ) → Answer
end_answer count due = closed (word_text 0) (blocks_line count) finished 0 due

-- After so many blocks, where so many more may come: the input is cut into blocks of tb bytes. The last may
-- be shorter, which is known once the end of the input was seen. A byte after the last block that may come
-- is refused.
unfoldable pub blocks_answer : Header → (more count : ℕ) → (input : List ℕ) → Answer
blocks_answer h zero count input = if length input == 0
    then end_answer count 1
    else refusal 8 (4096 * h.tb) 1 1
blocks_answer h (suc more) count input = if length input == 0
    then end_answer count 1
    else if nat_lt (length input) h.tb
    then preceded_by (block_part h input (length input + 1) ∷ []) (end_answer (count + 1) 0)
    else preceded_by (block_part h (take h.tb input) h.tb ∷ [])
    (blocks_answer h more (count + 1) (drop h.tb input))

-- the header is written before anything is read, and 4,096 blocks may come
abbrev pub encode_answer : Header → (input : List ℕ) → Answer
encode_answer h input = preceded_by (heading (header_text h) 0 ∷ []) (blocks_answer h 4096 0 input)
