-- Each way in which a run ends, once a round's parts were written.
use Rattle.std.proofs.Common.{◌≡◌, ℕ, ◌+◌, ◌<◌, ◌≤◌, List, [], ◌∷◌, ◌++◌, length, take, Bool, true, false, Some, Ok, Err, ap, sym, subst, ◌∙◌, append_assoc, arith}
use Rattle.std.proofs.lemmas.List.{append-nil, length-append}
use Rattle.std.specs.declared.option.Option.{Option}
use Rattle.std.specs.Global.{Vec}
use Rattle.edge_io.specs.Edge.{Adds}
use Rattle.edge_io.proofs.Known.{takes_then, adds_then}
use Rattle.run_loop.specs.Answer.{Part, Answer, preceded_by, texts, lines, size_of}
use Rattle.run_loop.specs.Due.{Stopped, TakesSome, most_read}
use Rattle.run_loop.specs.Edges.{Edges, HasMoved}
use Rattle.run_loop.specs.Ended.{Ended, IsWhole, Stands}
use Rattle.run_loop.specs.Puts.{Puts, PutsEach}
use Rattle.run_loop.specs.Reply.{reading, Ends}
use Rattle.run_loop.specs.Step.{Gives, Reached, Stops, done, ending_of, parts_of}
use Rattle.run_loop.specs.declared.work.Part as rust
use Rattle.run_loop.specs.declared.work.Round.{Round}
use Rattle.run_loop.specs.declared.work.Stop.{Stop}
use Rattle.run_loop.specs.declared.work.Stop.TheVariants.{Go, End, Fails}
use Rattle.run_loop.specs.declared.status.SinkName.{SinkName}
use Rattle.run_loop.specs.declared.status.SinkName.TheVariants.{Out, Report}
use Rattle.run_loop.specs.declared.status.Status.{Status}
use Rattle.run_loop.specs.declared.status.Status.TheVariants as status
use Rattle.run_loop.proofs.Parts.{texts_then, lines_then, size_then}
use Rattle.run_loop.proofs.ReadAhead.{read_before, took_within}

-- all parts of a round were written
pub wrote : (whole : Answer) (answer after : List ℕ → Answer) (old mid new : Edges) (round : Round) (shown : List rust.Part) →
    (r : Reached whole answer old mid) → (s : Gives (answer r.rest) after mid.left new.left round) → shown ≡ round.parts.items →
    PutsEach {T = Unit {0}} mid.out new.out mid.report new.report (parts_of shown) (Ok tt) →
    Stands whole (r.front ++ parts_of round.parts.items) s.0 s.1 old new
wrote whole answer after old mid new round shown r s is putting =
    let parts = parts_of round.parts.items in
    let put = subst (λ (ps : List rust.Part). PutsEach {T = Unit {0}} mid.out new.out mid.report new.report (parts_of ps) (Ok tt)) is putting in
    let had = r.stands.took in
    let more = s.3 in
    record {
      split = r.stands.split ∙ ap (preceded_by r.front) s.2 ∙ ap (λ (ps : List Part). record s.0 { parts = ps }) (sym (append_assoc r.front parts s.0.parts));
      took = (
        had.0 ++ more.0,
        takes_then old.left mid.left s.1 had.0 more.0 had.1 more.1,
        length-append had.0 more.0 ∙ ap (λ (n : ℕ). n + length more.0) had.2 ∙ ap (λ (n : ℕ). size_of r.front + n) more.2 ∙ sym (size_then r.front parts),
      );
      out = rw (texts_then r.front parts) (adds_then old.out mid.out new.out (texts r.front) (texts parts) r.stands.out put.0);
      report = rw (lines_then r.front parts) (adds_then old.report mid.report new.report (lines r.front) (lines parts) r.stands.report put.1);
    }

-- What was read when a round's parts were begun to be written. Of these, `f` come before those that follow.
read_round : (whole : Answer) (answer after : List ℕ → Answer) (old mid : Edges) (left : Option (List ℕ)) (round : Round) (f next : List Part) →
    (r : Reached whole answer old mid) → (s : Gives (answer r.rest) after mid.left left round) → parts_of round.parts.items ≡ f ++ next →
    TakesSome old.left left (λ n. n ≤ size_of (r.front ++ f) + most_read s.0 (next ++ s.0.parts))
read_round whole answer after old mid left round f next r s e =
    let parts = parts_of round.parts.items in
    let P : Answer → Type 0 = λ x. TakesSome mid.left left (λ n. n ≤ most_read x x.parts) in
    took_within old.left mid.left left (size_of r.front) (most_read s.0 (parts ++ s.0.parts)) _ r.stands.took (subst P s.2 s.5)
    (omega (arith, read_before s.0 parts f next e, size_then r.front f))

-- and when all of them had been
pub read_whole : (whole : Answer) (answer after : List ℕ → Answer) (old mid : Edges) (left : Option (List ℕ)) (round : Round) →
    (r : Reached whole answer old mid) → (s : Gives (answer r.rest) after mid.left left round) →
    TakesSome old.left left (λ n. n ≤ size_of (r.front ++ parts_of round.parts.items) + most_read s.0 s.0.parts)
read_whole whole answer after old mid left round r s =
    read_round whole answer after old mid left round (parts_of round.parts.items) [] r s (sym (append-nil (parts_of round.parts.items)))

some_then : (front parts : List Part) → 0 < length front → 0 < length (front ++ parts)
some_then front parts some = omega (arith, some, length-append front parts)

pub went_on : (whole b : Answer) (after : List ℕ → Answer) (front parts : List Part) (mid : Option (List ℕ)) (old new : Edges) (stop : Stop) →
    Stands whole (front ++ parts) b mid old new → 0 < length front → stop ≡ Go → Stops b after mid new.left stop → Reached whole after old new
went_on whole b after front parts mid old new stop w some is at =
    let go : Stops b after mid new.left Go = subst (λ (k : Stop). Stops b after mid new.left k) is at in
    record {
      front = front ++ parts;
      rest = go.0;
      some = some_then front parts some;
      left = go.2;
      stands = subst (λ (m : Option (List ℕ)). Stands whole (front ++ parts) (after go.0) m old new) (go.1 ∙ sym go.2)
          (subst (λ (x : Answer). Stands whole (front ++ parts) x mid old new) go.3 w);
    }

stopped : (whole b : Answer) (front : List Part) (mid : Option (List ℕ)) (old new : Edges) (ending : Status) →
    Stands whole front b mid old new → 0 < length front → Stopped b mid new.left ending → Ended whole old new ending
stopped whole b front mid old new (status.BadStream number place) w some at = (front, b, mid, w, at, λ _. some)
stopped whole b front mid old new status.ReadFault w some at = (front, b, mid, w, at, λ _. some)
stopped whole b front mid old new status.NoMemory w some at = (front, b, mid, w, at, λ _. some)
stopped whole b front mid old new (status.BadWords number place) w some at = absurd at
stopped whole b front mid old new status.Done w some at = absurd at
stopped whole b front mid old new status.SomeFailed w some at = absurd at
stopped whole b front mid old new (status.WriteFault sink) w some at = absurd at

-- in a round without parts
pub failed_alone : (whole : Answer) (answer : List ℕ → Answer) (old mid : Edges) (left : Option (List ℕ)) (reads : ℕ) (ending : Status) →
    (r : Reached whole answer old mid) → Stopped (answer r.rest) mid.left left ending → Ended whole old (record mid { left = left; reads = reads }) ending
failed_alone whole answer old mid left reads ending r at =
    stopped whole (answer r.rest) r.front mid.left old (record mid { left = left; reads = reads }) ending
    (record { split = r.stands.split; took = r.stands.took; out = r.stands.out; report = r.stands.report }) r.some at

pub failed : (whole b : Answer) (after : List ℕ → Answer) (front parts : List Part) (mid : Option (List ℕ)) (old new : Edges) (stop : Stop) (ending : Status) →
    Stands whole (front ++ parts) b mid old new → 0 < length front → stop ≡ Fails ending → Stops b after mid new.left stop → Ended whole old new ending
failed whole b after front parts mid old new stop ending w some is at =
    stopped whole b (front ++ parts) mid old new ending w (some_then front parts some) (subst (λ (k : Stop). Stops b after mid new.left k) is at)

-- with none after them, the parts in front are all
all_of : (front after : List Part) → after ≡ [] → front ≡ front ++ after
all_of front after none = sym (ap (λ (ps : List Part). front ++ ps) none ∙ append-nil front)

-- the closing and the last line were written
pub closed_whole : (whole b : Answer) (front : List Part) (mid : Option (List ℕ)) (old between new : Edges) (closing last : List ℕ) →
    Stands whole front b mid old between → b.parts ≡ [] → b.closing ≡ closing → b.last ≡ last → new.left ≡ Some [] →
    Puts {T = Unit {0}} between.out new.out between.report new.report closing last (Ok tt) → IsWhole whole old new
closed_whole whole b front mid old between new closing last w none is_closing is_last at_end put =
    let P : Answer → Type 0 = λ a. IsWhole a old new in
    let Q : List Part → List ℕ → List ℕ → Type 0 = λ ps c l. Adds old.out new.out (texts ps ++ c) × Adds old.report new.report (lines ps ++ l) in
    let at : Q front closing last = (
      adds_then old.out between.out new.out (texts front) closing w.out put.0,
      adds_then old.report between.report new.report (lines front) last w.report put.1,
    ) in
    let all : Q (front ++ b.parts) b.closing b.last =
    subst (λ (ps : List Part). Q ps b.closing b.last) (all_of front b.parts none)
    (subst (λ (c : List ℕ). Q front c b.last) (sym is_closing) (subst (λ (l : List ℕ). Q front closing l) (sym is_last) at)) in
    subst P (sym w.split) (all.0, all.1, at_end)

-- how it ends then
pub closed_done : (whole b : Answer) (after : List ℕ → Answer) (front : List Part) (mid : Option (List ℕ)) (old between new : Edges) (stop : Stop) (closing last : Vec ℕ) (fails : Bool)
    (text line : List ℕ) →
    Stands whole front b mid old between → stop ≡ End closing last fails → Stops b after mid new.left stop → text ≡ closing.items → line ≡ last.items →
    Puts {T = Unit {0}} between.out new.out between.report new.report text line (Ok tt) →
    (whole.ending ≡ ending_of fails) × IsWhole whole old new
closed_done whole b after front mid old between new stop closing last fails text line w is at closes ends put =
    let end : Stops b after mid new.left (End closing last fails) = subst (λ (k : Stop). Stops b after mid new.left k) is at in (
      ap (λ (a : Answer). a.ending) w.split ∙ end.4,
      closed_whole whole b front mid old between new text line w end.1 (end.2 ∙ sym closes) (end.3 ∙ sym ends) end.0 put,
    )

-- the closing or the last line couldn't be written whole
unclosed_at : (whole b : Answer) (front : List Part) (mid : Option (List ℕ)) (old between new : Edges) (closing last : List ℕ) (sink : SinkName) →
    Stands whole front b mid old between → b.parts ≡ [] → b.closing ≡ closing → b.last ≡ last →
    Puts {T = Unit {0}} between.out new.out between.report new.report closing last (Err sink) →
    TakesSome old.left new.left (λ n. n ≤ size_of front + most_read b b.parts) → Ended whole old new (status.WriteFault sink)
unclosed_at whole b front mid old between new closing last Out w none is_closing is_last put read =
    let T : List Part → Type 0 = λ ps. TakesSome old.left new.left (λ n. n ≤ size_of front + most_read b ps) in
    let P : Answer → Type 0 = λ a. Ended a old new (status.WriteFault Out) in
    let Q : List ℕ → Type 0 = λ c. (0 < length c) × Adds old.out new.out (texts front ++ take put.0.0 c) in
    let at : Q b.closing = subst Q (sym is_closing) (put.2, adds_then old.out between.out new.out (texts front) (take put.0.0 closing) w.out put.0.1) in
    subst P (sym w.split) (front, [], put.0.0, ap (λ (ps : List Part). front ++ ps) none, at.0, at.1, put.1 ∙ w.report, subst T none read)
unclosed_at whole b front mid old between new closing last Report w none is_closing is_last put read =
    let T : List Part → Type 0 = λ ps. TakesSome old.left new.left (λ n. n ≤ size_of front + most_read b ps) in
    let P : Answer → Type 0 = λ a. Ended a old new (status.WriteFault Report) in
    let Q : List ℕ → Type 0 = λ c. Adds old.out new.out (texts front ++ c) in
    let R : List ℕ → Type 0 = λ l. (0 < length l) × Adds old.report new.report (lines front ++ take put.1.0 l) in
    let at : R b.last = subst R (sym is_last) (put.2, adds_then old.report between.report new.report (lines front) (take put.1.0 last) w.report put.1.1) in
    subst P (sym w.split) (
      front,
      [],
      put.1.0,
      ap (λ (ps : List Part). front ++ ps) none,
      at.0,
      subst Q (sym is_closing) (adds_then old.out between.out new.out (texts front) closing w.out put.0),
      at.1,
      subst T none read,
    )

pub unclosed : (whole b : Answer) (after : List ℕ → Answer) (front : List Part) (mid : Option (List ℕ)) (old between new : Edges) (stop : Stop) (closing last : Vec ℕ) (fails : Bool)
    (text line : List ℕ) (sink : SinkName) →
    Stands whole front b mid old between → stop ≡ End closing last fails → Stops b after mid new.left stop → text ≡ closing.items → line ≡ last.items →
    Puts {T = Unit {0}} between.out new.out between.report new.report text line (Err sink) →
    TakesSome old.left new.left (λ n. n ≤ size_of front + most_read b b.parts) → Ended whole old new (status.WriteFault sink)
unclosed whole b after front mid old between new stop closing last fails text line sink w is at closes ends put read =
    let end : Stops b after mid new.left (End closing last fails) = subst (λ (k : Stop). Stops b after mid new.left k) is at in
    unclosed_at whole b front mid old between new text line sink w end.1 (end.2 ∙ sym closes) (end.3 ∙ sym ends) put read

-- where the parts of a round divide, all parts divide
divided : (front parts f aft rest : List Part) (p : Part) → parts ≡ f ++ p ∷ aft → front ++ (parts ++ rest) ≡ (front ++ f) ++ p ∷ (aft ++ rest)
divided front parts f aft rest p e =
    ap (λ (ps : List Part). front ++ (ps ++ rest)) e ∙ ap (λ (ps : List Part). front ++ ps) (append_assoc f (p ∷ aft) rest) ∙ sym (append_assoc front f (p ∷ (aft ++ rest)))

-- a part that couldn't be written whole
blocked_at : (whole : Answer) (answer after : List ℕ → Answer) (old mid new : Edges) (round : Round) (sink : SinkName) →
    (r : Reached whole answer old mid) → Gives (answer r.rest) after mid.left new.left round →
    PutsEach {T = Unit {0}} mid.out new.out mid.report new.report (parts_of round.parts.items) (Err sink) →
    Ended whole old new (status.WriteFault sink)
blocked_at whole answer after old mid new round Out r s (f, aft, p, n, e, added, line, some) =
    let P : Answer → Type 0 = λ a. Ended a old new (status.WriteFault Out) in
    let Q : List ℕ → Type 0 = λ t. Adds old.out new.out (t ++ take n p.text) in
    let R : List ℕ → Type 0 = λ t. Adds old.report new.report t in
    subst P (sym (r.stands.split ∙ ap (preceded_by r.front) s.2)) (
      r.front ++ f,
      p ∷ (aft ++ s.0.parts),
      n,
      divided r.front (parts_of round.parts.items) f aft s.0.parts p e,
      some,
      subst Q (sym (texts_then r.front f)) (subst (λ (t : List ℕ). Adds old.out new.out t) (sym (append_assoc (texts r.front) (texts f) (take n p.text)))
          (adds_then old.out mid.out new.out (texts r.front) (texts f ++ take n p.text) r.stands.out added)),
      subst R (sym (lines_then r.front f)) (adds_then old.report mid.report new.report (lines r.front) (lines f) r.stands.report line),
      read_round whole answer after old mid new.left round f (p ∷ aft) r s e,
    )
blocked_at whole answer after old mid new round Report r s (f, aft, p, n, e, added, line, some) =
    let P : Answer → Type 0 = λ a. Ended a old new (status.WriteFault Report) in
    let Q : List ℕ → Type 0 = λ t. Adds old.out new.out (t ++ p.text) in
    let R : List ℕ → Type 0 = λ t. Adds old.report new.report (t ++ take n p.line) in
    subst P (sym (r.stands.split ∙ ap (preceded_by r.front) s.2)) (
      r.front ++ f,
      p ∷ (aft ++ s.0.parts),
      n,
      divided r.front (parts_of round.parts.items) f aft s.0.parts p e,
      some,
      subst Q (sym (texts_then r.front f)) (subst (λ (t : List ℕ). Adds old.out new.out t) (sym (append_assoc (texts r.front) (texts f) p.text))
          (adds_then old.out mid.out new.out (texts r.front) (texts f ++ p.text) r.stands.out added)),
      subst R (sym (lines_then r.front f)) (subst (λ (t : List ℕ). Adds old.report new.report t) (sym (append_assoc (lines r.front) (lines f) (take n p.line)))
          (adds_then old.report mid.report new.report (lines r.front) (lines f ++ take n p.line) r.stands.report line)),
      read_round whole answer after old mid new.left round f (p ∷ aft) r s e,
    )

pub blocked : (whole : Answer) (answer after : List ℕ → Answer) (old mid new : Edges) (round : Round) (shown : List rust.Part) (sink : SinkName) →
    (r : Reached whole answer old mid) → Gives (answer r.rest) after mid.left new.left round → shown ≡ round.parts.items →
    PutsEach {T = Unit {0}} mid.out new.out mid.report new.report (parts_of shown) (Err sink) →
    Ended whole old new (status.WriteFault sink)
blocked whole answer after old mid new round shown sink r s is put =
    blocked_at whole answer after old mid new round sink r s
    (subst (λ (ps : List rust.Part). PutsEach {T = Unit {0}} mid.out new.out mid.report new.report (parts_of ps) (Err sink)) is put)

-- the status of a command that was done
pub ends_done : (answer : List ℕ → Answer) (old new : Edges) (fails : Bool) → HasMoved old new →
    ((input : List ℕ) → old.left ≡ Some input → ((answer input).ending ≡ ending_of fails) × IsWhole (answer input) old new) →
    Ends (λ input. reading (answer input)) old new (done fails)
ends_done answer old new true moved is = record { ended = is; causes = tt; moved = moved }
ends_done answer old new false moved is = record { ended = is; causes = tt; moved = moved }
