-- What `batch` answers: what `decode` does for the same input, with two blocks for each pipe read ahead.
use Rattle.std.specs.Prelude.{ℕ, ◌*◌, List}
use Rattle.model_receiver.specs.Limits.{DecoderLimits}
use Rattle.coded_stream.specs.Steps.{Reading}
use Rattle.run_loop.specs.Answer.{Answer}
use Rattle.stream_loop.specs.Handling.{stream_answer}
use Rattle.stream_loop.specs.Rounds.{answer_ahead}
use Rattle.command_decode.specs.Decoding.{decoding}

-- the same answer, of which up to so many blocks are read before any of them is written
abbrev pub reading_ahead : ℕ → Answer → Answer
reading_ahead n a = record a { ahead = n }

abbrev pub batch_answer : DecoderLimits → (pipes : ℕ) → (input : List ℕ) → Answer
batch_answer limits pipes input = reading_ahead (2 * pipes) (stream_answer (decoding limits) input)

-- what is still to come, for the input that is left
abbrev pub batch_ahead : DecoderLimits → (pipes : ℕ) → Reading → (failed : ℕ) → (input : List ℕ) → Answer
batch_ahead limits pipes r failed input = reading_ahead (2 * pipes) (answer_ahead (decoding limits) r failed input)
