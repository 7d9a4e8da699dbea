-- How `batch` opens: as `decode` does.
use Rattle.std.specs.declared.option.Option.{Option}
use Rattle.std.proofs.Common.{ℕ, ◌*◌, List, [], Ok, Err, refl, ap}
use Rattle.edge_io.specs.Edge.{Adds}
use Rattle.model_receiver.specs.Limits.{DecoderLimits}
use Rattle.coded_stream.specs.Opening.{opening}
use Rattle.coded_stream.specs.Steps.{Begins, IsBegun, Reading}
use Rattle.coded_stream.specs.declared.kind.Want.TheVariants as want
use Rattle.coded_stream.specs.declared.stop.StreamStop.{StreamStop}
use Rattle.coded_stream.specs.declared.stop.StreamStop.TheVariants as reader
use Rattle.run_loop.specs.Answer.{Part, Answer}
use Rattle.run_loop.specs.Due.{Stopped}
use Rattle.run_loop.specs.Edges.{Edges}
use Rattle.run_loop.specs.Ended.{Ended, Stands, StoppedAfter}
use Rattle.run_loop.specs.Step.{Reached}
use Rattle.run_loop.specs.declared.status.Status.{Status}
use Rattle.run_loop.specs.declared.status.Status.TheVariants as status
use Rattle.stream_loop.specs.Handling.{stream_answer}
use Rattle.stream_loop.specs.Rounds.{answer_ahead, status_of}
use Rattle.stream_loop.proofs.Openings.{opened_stream, unopened}
use Rattle.command_decode.specs.Decoding.{decoding}
use Rattle.command_batch.specs.Batch.{batch_ahead, batch_answer, reading_ahead}

stands_ahead : (k : ℕ) (a b : Answer) (front : List Part) (mid : Option (List ℕ)) (old new : Edges) → Stands a front b mid old new →
    Stands (reading_ahead k a) front (reading_ahead k b) mid old new
stands_ahead k a b front mid old new stands = record { split = ap (reading_ahead k) stands.split; took = stands.took; out = stands.out; report = stands.report }

reached_ahead : (k : ℕ) (a : Answer) (after : List ℕ → Answer) (old new : Edges) → Reached a after old new → Reached (reading_ahead k a) (λ input. reading_ahead k (after input)) old new
reached_ahead k a after old new r = record {
  front = r.front;
  rest = r.rest;
  some = r.some;
  left = r.left;
  stands = stands_ahead k a (after r.rest) r.front new.left old new r.stands;
}

pub opened_batch : (e : DecoderLimits) (pipes : ℕ) (r : Reading) (input : List ℕ) (old new : Edges) → Begins (opening want.Soft input) old.left new.left (Ok r) → IsBegun want.Soft r →
    Adds old.out new.out [] → Adds old.report new.report [] → Reached (batch_answer e pipes input) (batch_ahead e pipes r 0) old new
opened_batch e pipes r input old new begins begun out report =
    reached_ahead (2 * pipes) (stream_answer (decoding e) input) (answer_ahead (decoding e) r 0) old new (opened_stream (decoding e) want.Soft r input old new refl begins begun out report)

-- a run that stopped at its input, or since the source failed
stopped_ahead : (k : ℕ) (a : Answer) (old new : Edges) (end : Status) → ((b : Answer) (mid : Option (List ℕ)) → Stopped b mid new.left end → Stopped (reading_ahead k b) mid new.left end) →
    StoppedAfter a old new end → StoppedAfter (reading_ahead k a) old new end
stopped_ahead k a old new end same (front, b, mid, stands, stopped, memory) = (front, reading_ahead k b, mid, stands_ahead k a b front mid old new stands, same b mid stopped, memory)

pub unopened_batch : (e : DecoderLimits) (pipes : ℕ) (input : List ℕ) (old new : Edges) (stop : StreamStop) → Begins (opening want.Soft input) old.left new.left (Err stop) →
    Adds old.out new.out [] → Adds old.report new.report [] → Ended (batch_answer e pipes input) old new (status_of stop)
unopened_batch e pipes input old new (reader.Bad number place) begins out report =
    stopped_ahead (2 * pipes) (stream_answer (decoding e) input) old new (status.BadStream number place) (λ b mid h. h)
    (unopened (decoding e) want.Soft input old new (reader.Bad number place) refl begins out report)
unopened_batch e pipes input old new reader.Fault begins out report =
    stopped_ahead (2 * pipes) (stream_answer (decoding e) input) old new status.ReadFault (λ b mid h. h)
    (unopened (decoding e) want.Soft input old new reader.Fault refl begins out report)
unopened_batch e pipes input old new reader.NoMemory begins out report = absurd begins
