-- What a run of the program owes.
use Rattle.std.specs.Prelude.{◌≡◌, ℕ, List, Some, None, IfOk, IfErr, IfSome}
use Rattle.std.specs.declared.option.Option.{Option}
use Rattle.model_receiver.specs.Limits.{DecoderLimits}
use Rattle.rate_match.specs.declared.sends.Sending.{Sending}
use Rattle.soft_channel.specs.Channel.{NoiseChannel}
use Rattle.run_loop.specs.Edges.{Edges, Causes, HasMoved, IsQuiet}
use Rattle.run_loop.specs.FaultLine.{AddsLine, Finished, fault_line}
use Rattle.run_loop.specs.Reply.{Reply, reading, IsEndingOf, ending_of_reply}
use Rattle.run_loop.specs.declared.status.Status.{Status}
use Rattle.run_loop.specs.declared.status.Status.TheVariants.{BadWords}
use Rattle.stream_loop.specs.Handling.{stream_answer}
use Rattle.command_decode.specs.Decoding.{decoding}
use Rattle.command_batch.specs.Batch.{batch_answer}
use Rattle.command_relay.specs.Channel.{channel}
use Rattle.command_relay.specs.Points.{points}
use Rattle.command_relay.specs.Scramble.{scrambling}
use Rattle.command_relay.specs.Upgrade.{upgrade}
use Rattle.command_trial.specs.Trials.{trial_reply}
use Rattle.command_encode.specs.Codeword.{codeword_answer}
use Rattle.command_encode.specs.Encode.{encode_answer, hard_header}
use Rattle.command_words.specs.Words.{command_of}
use Rattle.command_words.specs.declared.words.Command.{Command}
use Rattle.command_words.specs.declared.words.Command.TheVariants.{Codeword, Encode, Decode, Batch, Channel, Upgrade, Trial, Scramble, Points}

-- what a trial of these numbers answers
abbrev pub trial_answer : (blocks tb : ℕ) → List Sending → NoiseChannel → DecoderLimits → Reply
trial_answer blocks tb sends channel limits =
    trial_reply (record { blocks = blocks; tb = tb; sends = sends; channel = channel; limits = limits })

-- what a command answers to an input
abbrev pub answer_of : Command → (input : List ℕ) → Reply
answer_of (Codeword m rv) input = reading (codeword_answer m rv input)
answer_of (Encode version tb sends) input = reading (encode_answer (hard_header version tb sends) input)
answer_of (Decode limits workers) input = reading (stream_answer (decoding limits) input)
answer_of (Batch pipes limits) input = reading (batch_answer limits pipes input)
answer_of (Channel c) input = reading (stream_answer (channel c) input)
answer_of Upgrade input = reading (stream_answer upgrade input)
answer_of (Trial blocks tb sends c limits) input = trial_answer blocks tb sends c limits
answer_of (Scramble rnti q slot cell) input =
    reading (stream_answer (scrambling (record { rnti = rnti; q = q; slot = slot; cell = cell })) input)
answer_of (Points c) input = reading (stream_answer (points c) input)

-- what a command answers that reads nothing
abbrev pub unread_of : Command → Option Reply
unread_of (Trial blocks tb sends c limits) = Some (trial_answer blocks tb sends c limits)
unread_of _ = None

-- a command that reads nothing leaves the source and `out` as they are, whether these tell what they hold or not
abbrev pub LeavesAlone : {S D : Type 0} → Command → (source source' : S) → (out out' : D) → Type 0
LeavesAlone (Trial blocks tb sends c limits) source source' out out' = (source' ≡ source) × (out' ≡ out)
LeavesAlone _ source source' out out' = Unit {0}

-- What a run of these words owes, of the edges before and after it.
pub record Runs {S D : Type 0} (words : List (List ℕ)) (source source' : S) (out out' : D) (old new : Edges)
    (status : Status) : Type 0 where
  -- refused words: nothing is read, `out` is as before, and the report gains the fault line
  pub refused : IfErr (command_of words) (λ refusal. (status ≡ BadWords refusal.number refusal.place)
      × (source' ≡ source) × (out' ≡ out)
      × AddsLine old.report new.report (fault_line status) old.reports new.reports)
  -- else the run ends as the command's answer says, by a fault, or since memory ran out, and after that comes the
  -- fault line
  pub ends : IfOk (command_of words) (λ command. (input : List ℕ) → old.left ≡ Some input →
      Finished (answer_of command input) old new status)
  -- where no count rose, it ends as the answer says, or since memory ran out
  pub complete : IfOk (command_of words) (λ command. (input : List ℕ) → old.left ≡ Some input →
      IsQuiet old new → IsEndingOf (ending_of_reply (answer_of command input)) status)
  -- each fault was counted, and accepted words are never refused, whether the source tells or not
  pub causes : IfOk (command_of words) (λ _. Causes old new status)
  -- whatever the words, and whether the source tells or not: bytes were taken from the front of what it had
  -- left, bytes were added to what the sinks held, and no count fell
  pub moved : HasMoved old new
  -- a command that reads nothing leaves the source and `out` as they are
  pub alone : IfOk (command_of words) (λ command. LeavesAlone command source source' out out')
  -- and ends as its answer says, even where the source doesn't tell what it gives
  pub unread : IfOk (command_of words) (λ command. IfSome (unread_of command) (λ reply.
      Finished reply old new status × (IsQuiet old new → IsEndingOf (ending_of_reply reply) status)))
