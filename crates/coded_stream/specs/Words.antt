-- What a length word says.
use Rattle.std.specs.Prelude.{◌≡◌, ℕ, ◌<◌, ◌≤◌, List, Ok, Err, Some, None}
use Rattle.std.specs.declared.option.Option.{Option}
use Rattle.std.specs.declared.result.Result.{Result}
use Rattle.coded_stream.specs.Header.{Header}
use Rattle.coded_stream.specs.Units.{refused_at}
use Rattle.coded_stream.specs.Body.{Step, refused, block_step, end_step, word_step}
use Rattle.coded_stream.specs.declared.stop.StreamStop.{StreamStop}
use Rattle.coded_stream.specs.declared.stop.StreamStop.TheVariants.{Bad}

-- a block of 1 to tb bytes, where one may come
abbrev pub IsPayload : (tb more : ℕ) → Option ℕ → Type 0
IsPayload tb more (Some n) = (0 < more) × (1 ≤ n) × (n ≤ tb)
IsPayload tb more None = Unit {0}

-- how a stream goes on after a word: with the transmissions of a payload of so many bytes, or with its end
abbrev pub after_word : Header → (start : ℕ) → Option ℕ → List ℕ → Step
after_word h start (Some n) left = block_step h start n left
after_word h start None left = end_step start left

-- a word is that of a payload, or the end word, or it's refused
abbrev pub WordSays : Header → (more start word : ℕ) → Result (Option ℕ) StreamStop → Type 0
WordSays h more start word (Ok payload) = (left : List ℕ)
    → word_step h more start word left ≡ after_word h start payload left
WordSays h more start word (Err (Bad number place)) = (left : List ℕ)
    → word_step h more start word left ≡ refused (refused_at number place 4)
WordSays h more start word (Err _) = ⊥
