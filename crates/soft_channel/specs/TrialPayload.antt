-- The payloads of a trial: this project's own.
use Rattle.std.specs.Prelude.{ℕ, ◌%◌, List, map}
use Rattle.std.specs.List.{range_with_len}
use Rattle.soft_channel.specs.Words.{Draw, word}
use Rattle.soft_channel.specs.declared.words.Purpose.TheVariants.{Payload}

-- what the words of a block's payload are drawn for
abbrev pub payload_draw : (seed block : ℕ) → Draw
payload_draw seed block = record { purpose = Payload; seed = seed; block = block; transmission = 0 }

-- byte i is the lowest byte of word i
abbrev pub payload_byte : (seed block i : ℕ) → ℕ
payload_byte seed block i = word (payload_draw seed block) i % 256

unfoldable pub trial_payload : (seed block length : ℕ) → List ℕ
trial_payload seed block length = map (payload_byte seed block) (range_with_len 0 length)
