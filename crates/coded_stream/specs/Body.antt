-- How a stream goes on after its header: length words and transmissions, each a unit that is read whole.
use Rattle.std.specs.Prelude.{ℕ, zero, suc, ◌+◌, ◌-◌, nat_lt, ◌==◌, if◌then◌else◌, List, [], ◌∷◌, ◌++◌, length, take, drop}
use Rattle.coded_stream.specs.Header.{Header, word}
use Rattle.coded_stream.specs.Blocks.{Block, lengths, transmission_size, has_bad_bit}
use Rattle.coded_stream.specs.Units.{Refusal, refused_at, truncated}
use Rattle.coded_stream.specs.declared.kind.Kind.{Kind}

-- a block and what is left after it, the end, or a refusal
pub data Step : Type 0 where
  block : Block → List ℕ → Step
  ended : Step
  refused : Refusal → Step

-- the transmissions that are due of a block that begins at a place of the stream, after what was read of it
abbrev pub transmissions_step : Kind → ℕ → Block → List ℕ → List ℕ → Step
transmissions_step kind start b [] left = block b left
transmissions_step kind start b (g ∷ gs) left =
    let read = 4 + length b.bytes in
    let size = transmission_size kind g in
    if nat_lt (length left) size
    then refused (truncated start (read + length left))
    else if has_bad_bit kind g (take size left)
    then refused (refused_at 5 (start + (read + size - 1)) (read + size))
    else transmissions_step kind start (record b { bytes = b.bytes ++ take size left }) gs (drop size left)

-- a block of so many payload bytes that begins at a place of the stream, after its length word
abbrev pub block_step : Header → ℕ → ℕ → List ℕ → Step
block_step h start payload left =
    transmissions_step h.kind start (record { payload = payload; bytes = [] }) (lengths h) left

-- after an end word at a place of the stream
abbrev pub end_step : ℕ → List ℕ → Step
end_step start [] = ended
end_step start (byte ∷ left) = refused (refused_at 7 (start + 4) 5)

-- after a length word at a place of the stream, where so many more blocks may come
abbrev pub word_step : Header → ℕ → ℕ → ℕ → List ℕ → Step
word_step h more start payload left =
    if payload == 0
    then end_step start left
    else if more == 0
    then refused (refused_at 8 start 4)
    else if nat_lt h.tb payload
    then refused (refused_at 4 start 4)
    else block_step h start payload left

-- the next block, which begins at a place of the stream, or what comes in its place
unfoldable pub step : Header → ℕ → ℕ → List ℕ → Step
step h more start left = if nat_lt (length left) 4
    then refused (truncated start (length left))
    else word_step h more start (word left 0) (drop 4 left)

-- ---- all steps

pub data Ending : Type 0 where
  whole : Ending
  bad : Refusal → Ending

-- the blocks up to the end word, or up to what is refused
pub record Body : Type 0 where
  pub blocks : List Block
  pub ending : Ending

abbrev pub no_more : Ending → Body
no_more ending = record { blocks = []; ending = ending }

abbrev pub onto : Block → Body → Body
onto b body = record body { blocks = b ∷ body.blocks }

-- where the next block begins
abbrev pub next_start : ℕ → Block → ℕ
next_start start b = start + (4 + length b.bytes)

abbrev pub after_step : ℕ → (ℕ → List ℕ → Body) → Step → Body
after_step start after (block b left) = onto b (after (next_start start b) left)
after_step start after ended = no_more whole
after_step start after (refused refusal) = no_more (bad refusal)

-- from a place of the stream on, where so many blocks may come; a step gives none where none may
unfoldable pub body : Header → ℕ → ℕ → List ℕ → Body
body h zero start left = after_step start (λ _ _. no_more whole) (step h zero start left)
body h (suc more) start left = after_step start (body h more) (step h (suc more) start left)
