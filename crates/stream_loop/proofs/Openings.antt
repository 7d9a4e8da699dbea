-- How a stream begins.
use Rattle.std.proofs.Common.{◌≡◌, ℕ, ◌-◌, ◌<◌, List, [], ◌∷◌, length, take, Ok, Err, refl, ap, sym, subst, ◌∙◌, arith}
use Rattle.std.specs.declared.option.Option.{Option}
use Rattle.edge_io.specs.Edge.{Adds, Rose, Takes}
use Rattle.edge_io.proofs.Known.{takes_none}
use Rattle.coded_stream.specs.Header.{Header, header_text}
use Rattle.coded_stream.specs.Opening.{Opening, opens, refuses, opening}
use Rattle.coded_stream.specs.Body.{body}
use Rattle.coded_stream.specs.Stream.{most_blocks}
use Rattle.coded_stream.specs.Steps.{Reading, Begins, IsBegun}
use Rattle.coded_stream.specs.Takes.{opening_due}
use Rattle.coded_stream.specs.declared.kind.Want.{Want}
use Rattle.coded_stream.specs.declared.stop.StreamStop.{StreamStop}
use Rattle.coded_stream.specs.declared.stop.StreamStop.TheVariants as reader
use Rattle.run_loop.specs.Answer.{Part, preceded_by, heading, refusal}
use Rattle.run_loop.specs.Due.{Stopped}
use Rattle.run_loop.specs.Edges.{Edges, Causes}
use Rattle.run_loop.specs.Ended.{Ended}
use Rattle.run_loop.specs.Step.{Reached}
use Rattle.run_loop.proofs.Opening.{opened, unwritten}
use Rattle.run_loop.specs.declared.status.SinkName.TheVariants.{Out}
use Rattle.run_loop.specs.declared.status.Status.TheVariants as status
use Rattle.stream_loop.specs.Handling.{Handling, body_answer, opening_answer, opening_text, stream_answer}
use Rattle.stream_loop.specs.Rounds.{answer_ahead, status_of}
use Rattle.stream_loop.proofs.Answered.{one_ahead}
use Rattle.stream_loop.proofs.StreamSteps.{taken}

abbrev pub head_of : Handling → Header → Part
head_of w h = heading (opening_text (w.header h)) (length (header_text h))

pub causes_of : (before now : Edges) (stop : StreamStop) → (stop ≡ reader.Fault → Rose before.reads now.reads) → Causes before now (status_of stop)
causes_of before now (reader.Bad number place) rose = tt
causes_of before now reader.Fault rose = rose refl
causes_of before now reader.NoMemory rose = tt

-- what the stream says of an input whose header was read
says_of : (w : Handling) (want : Want) (r : Reading) (input rest : List ℕ) → want ≡ w.want → opening want input ≡ opens r.header rest → IsBegun want r →
    stream_answer w input ≡ preceded_by (head_of w r.header ∷ []) (answer_ahead w r 0 rest)
unfolding stream_answer
says_of w want r input rest wanted says begun =
    let h = r.header in
    let P : List Part = head_of w h ∷ [] in
    ap (opening_answer w) (ap (λ (v : Want). opening v input) (sym wanted) ∙ says)
    ∙ ap (λ (p : ℕ). preceded_by P (body_answer w h 0 0 (body h most_blocks p rest))) (sym begun.place)
    ∙ ap (λ (n : ℕ). preceded_by P (body_answer w h n 0 (body h (most_blocks - n) r.place rest))) (sym begun.blocks)

-- the header was accepted, and `out` begins as it should
pub opened_stream : (w : Handling) (want : Want) (r : Reading) (input : List ℕ) (old new : Edges) → want ≡ w.want → Begins (opening want input) old.left new.left (Ok r) → IsBegun want r →
    Adds old.out new.out (opening_text (w.header r.header)) → Adds old.report new.report [] → Reached (stream_answer w input) (answer_ahead w r 0) old new
opened_stream w want r input old new wanted (bytes, rest, old_is, new_is, size, says) begun wrote none =
    let text = opening_text (w.header r.header) in
    opened (stream_answer w input) (answer_ahead w r 0) text bytes rest old new old_is new_is
    (says_of w want r input rest wanted says begun ∙ ap (λ (n : ℕ). preceded_by (heading text n ∷ []) (answer_ahead w r 0 rest)) (sym (size ∙ begun.place)))
    wrote none

-- and where it couldn't be written
pub unwritten_stream : (w : Handling) (want : Want) (r : Reading) (input : List ℕ) (old new : Edges) (n : ℕ) → want ≡ w.want → Begins (opening want input) old.left new.left (Ok r) → IsBegun want r →
    0 < length (opening_text (w.header r.header)) → Adds old.out new.out (take n (opening_text (w.header r.header))) → Adds old.report new.report [] →
    Ended (stream_answer w input) old new (status.WriteFault Out)
unwritten_stream w want r input old new n wanted (bytes, rest, old_is, new_is, size, says) begun some wrote none =
    unwritten (stream_answer w input) (answer_ahead w r 0 rest) (opening_text (w.header r.header)) (length (header_text r.header)) n old new
    (says_of w want r input rest wanted says begun) some wrote none
    (let ahead = one_ahead w r 0 rest in omega (arith, ahead))
    (bytes, taken old.left new.left bytes rest old_is new_is, (let place = begun.place in omega (arith, size, place)))

-- the header was refused, or the source failed before it was known
pub unopened : (w : Handling) (want : Want) (input : List ℕ) (old new : Edges) (stop : StreamStop) → want ≡ w.want → Begins (opening want input) old.left new.left (Err stop) →
    Adds old.out new.out [] → Adds old.report new.report [] → Ended (stream_answer w input) old new (status_of stop)
unfolding stream_answer
unopened w want input old new (reader.Bad number place) wanted (bytes, rest, due, old_is, new_is, says) out report =
    let none = refusal number place (length bytes) due in
    let says_too = ap (opening_answer w) (ap (λ (v : Want). opening v input) (sym wanted) ∙ says) in
    let T : Option (List ℕ) → Type 0 = λ o. Takes old.left o bytes in (
      [],
      none,
      old.left,
      record { split = says_too; took = ([], takes_none old.left, refl); out = out; report = report },
      (refl, refl, (bytes, subst T (sym new_is) old_is, refl)),
      λ e. cc,
    )
unopened w want input old new reader.Fault wanted (bytes, took, few) out report =
    let D : Want → Type 0 = λ v. length bytes < opening_due (opening v input) in
    let due : (o : Opening) → length bytes < opening_due o → Stopped (opening_answer w o) old.left new.left status.ReadFault = elim [
      | opens h left ↦ λ less. (bytes, took, less)
      | refuses r ↦ λ less. (bytes, took, less)
    ] in (
      [],
      opening_answer w (opening w.want input),
      old.left,
      record { split = refl; took = ([], takes_none old.left, refl); out = out; report = report },
      due (opening w.want input) (subst D wanted few),
      λ e. cc,
    )
unopened w want input old new reader.NoMemory wanted begins out report = absurd begins
