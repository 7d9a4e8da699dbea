-- The rounds of a command over a stream.
use Rattle.std.proofs.Common.{◌≡◌, ℕ, ◌+◌, ◌≤◌, Bool, List, [], ◌∷◌, ◌++◌, length, Some, None, Ok, Err, refl, ap, sym, subst, ◌∙◌, arith}
use Rattle.std.proofs.lemmas.List.{append-nil}
use Rattle.std.specs.declared.option.Option.{Option}
use Rattle.edge_io.specs.Edge.{Takes}
use Rattle.edge_io.proofs.Known.{takes_none}
use Rattle.coded_stream.specs.Header.{Header}
use Rattle.coded_stream.specs.Blocks.{Block}
use Rattle.coded_stream.specs.Body.{Body, onto, no_more, whole, next_start}
use Rattle.coded_stream.specs.Steps.{Reading, remaining, GoesOn, Advances}
use Rattle.coded_stream.specs.declared.stop.StreamStop.{StreamStop}
use Rattle.coded_stream.specs.declared.stop.StreamStop.TheVariants as reader
use Rattle.run_loop.specs.Answer.{Part, Answer, preceded_by, size_of}
use Rattle.run_loop.specs.Due.{IsWithin, Stopped, most_read}
use Rattle.run_loop.specs.Step.{Gives, Stops, ending_of}
use Rattle.run_loop.specs.declared.work.Round.{Round}
use Rattle.run_loop.specs.declared.work.Stop.{Stop}
use Rattle.run_loop.specs.declared.work.Stop.TheVariants.{Go, End, Fails}
use Rattle.run_loop.specs.declared.status.Status.TheVariants.{BadStream, NoMemory}
use Rattle.run_loop.proofs.Alone.{gives_alone}
use Rattle.run_loop.proofs.ReadAhead.{one_read}
use Rattle.run_loop.proofs.Within.{within_next}
use Rattle.stream_loop.specs.Handling.{Handling, part, one_if, body_answer}
use Rattle.stream_loop.specs.Rounds.{answer_ahead, block_of, status_of, IsEnding, IsGoing}
use Rattle.stream_loop.proofs.Answered.{due_ahead, one_ahead, within_ahead}

-- these bytes were taken
pub taken : (old new : Option (List ℕ)) (bytes left : List ℕ) → old ≡ Some (bytes ++ left) → new ≡ Some left → Takes old new bytes
taken old new bytes left old_is new_is =
    let P : Option (List ℕ) → Type 0 = λ o. Takes old o bytes in subst P (sym new_is) old_is

-- ---- a block

-- the reader after a block
abbrev pub past : Reading → Block → Reading
past r b = record r { place = next_start r.place b; blocks = r.blocks + 1 }

-- what the reader read, where its answer is a block
pub record ReadBlock (r : Reading) (input : List ℕ) (b : Block) (old new : Option (List ℕ)) : Type 0 where
  pub bytes : List ℕ
  pub left : List ℕ
  pub old_is : old ≡ Some (bytes ++ left)
  pub new_is : new ≡ Some left
  pub size : length bytes ≡ 4 + length b.bytes
  pub says : remaining r input ≡ onto b (remaining (past r b) left)

pub block_read : (r r' : Reading) (input into : List ℕ) (n : ℕ) (old new : Option (List ℕ)) →
    GoesOn (remaining r input) (remaining r') into old new (Ok (Some n)) → Advances r r' into (Ok (Some n)) → ReadBlock r input (block_of n into) old new
block_read r r' input into n old new on moved =
    let P : Reading → Type 0 = λ s. remaining r input ≡ onto (block_of n into) (remaining s on.1) in
    record { bytes = on.0; left = on.1; old_is = on.2; new_is = on.3; size = on.4; says = subst P moved.2 on.5 }

-- the answer begins with the block's part
answered : (w : Handling) (r : Reading) (failed : ℕ) (input : List ℕ) (b : Block) (old new : Option (List ℕ)) → (read : ReadBlock r input b old new) →
    answer_ahead w r failed input
    ≡ preceded_by (part (w.block r.header r.blocks b) b ∷ []) (answer_ahead w (past r b) (failed + one_if (w.block r.header r.blocks b).failed) read.left)
answered w r failed input b old new read = ap (body_answer w r.header r.blocks failed) read.says

-- the block was made, and more is to come
pub gives_block : (w : Handling) (r r' : Reading) (failed failed' : ℕ) (input into : List ℕ) (n : ℕ) (old new : Option (List ℕ)) (round : Round) (fails : Bool) →
    GoesOn (remaining r input) (remaining r') into old new (Ok (Some n)) → Advances r r' into (Ok (Some n)) →
    IsGoing (w.block r.header r.blocks (block_of n into)) (block_of n into) round fails → failed' ≡ failed + one_if fails →
    Gives (answer_ahead w r failed input) (answer_ahead w r' failed') old new round
gives_block w r r' failed failed' input into n old new round fails on moved made counted =
    let b = block_of n into in
    let p = part (w.block r.header r.blocks b) b in
    let read = block_read r r' input into n old new on moved in
    let more = answer_ahead w (past r b) (failed + one_if (w.block r.header r.blocks b).failed) read.left in
    let same : more ≡ answer_ahead w r' failed' read.left =
    ap (λ (f : Bool). answer_ahead w (past r b) (failed + one_if f) read.left) (sym made.1)
    ∙ ap (λ (k : ℕ). answer_ahead w (past r b) k read.left) (sym counted)
    ∙ ap (λ (s : Reading). answer_ahead w s failed' read.left) (sym moved.2) in
    let one : length read.bytes ≡ size_of (p ∷ []) = omega (arith, read.size) in
    let ahead = one_ahead w (past r b) (failed + one_if (w.block r.header r.blocks b).failed) read.left in
    let R : Answer → Type 0 = λ a. length read.bytes ≤ most_read a a.parts in
    let P : Stop → Type 0 = λ stop. Stops more (answer_ahead w r' failed') new new stop in (
      more,
      new,
      answered w r failed input b old new read ∙ ap (λ (ps : List Part). preceded_by ps more) (sym made.0.0),
      (read.bytes, taken old new read.bytes read.left read.old_is read.new_is, one ∙ sym (ap size_of made.0.0)),
      subst P (sym made.0.1) (read.left, read.new_is, read.new_is, same),
      (
        read.bytes,
        taken old new read.bytes read.left read.old_is read.new_is,
        subst R (sym (answered w r failed input b old new read)) (one_read more p (length read.bytes) (omega (arith, ahead)) (omega (arith, read.size))),
      ),
    )

-- memory ran out once it was read
pub stopped_starved : (w : Handling) (r r' : Reading) (failed : ℕ) (input into : List ℕ) (n : ℕ) (old new : Option (List ℕ)) →
    GoesOn (remaining r input) (remaining r') into old new (Ok (Some n)) → Advances r r' into (Ok (Some n)) →
    Stopped (answer_ahead w r failed input) old new NoMemory
stopped_starved w r r' failed input into n old new on moved =
    let b = block_of n into in
    let read = block_read r r' input into n old new on moved in
    let P : Answer → Type 0 = λ a. IsWithin a (length read.bytes) in
    let more = answer_ahead w (past r b) (failed + one_if (w.block r.header r.blocks b).failed) read.left in (
      read.bytes,
      taken old new read.bytes read.left read.old_is read.new_is,
      subst P (sym (answered w r failed input b old new read))
          (within_next (preceded_by (part (w.block r.header r.blocks b) b ∷ []) more) (length read.bytes) (one_ahead w (past r b) _ read.left) (omega (arith, read.size)) (λ no. cc)),
    )

-- ---- no block

-- memory ran out before anything was read
pub stopped_before : (w : Handling) (r : Reading) (failed : ℕ) (input : List ℕ) (old new : Option (List ℕ)) → new ≡ old →
    Stopped (answer_ahead w r failed input) old new NoMemory
stopped_before w r failed input old new same =
    let P : Option (List ℕ) → Type 0 = λ o. Takes old o [] in
    ([], subst P (sym same) (takes_none old), within_ahead w r failed input)

-- the reader stopped
pub stopped_reading : (w : Handling) (r r' : Reading) (failed : ℕ) (input into : List ℕ) (stop : StreamStop) (old new : Option (List ℕ)) →
    GoesOn (remaining r input) (remaining r') into old new (Err stop) → Stopped (answer_ahead w r failed input) old new (status_of stop)
stopped_reading w r r' failed input into (reader.Bad number place) old new (bytes, left, due, old_is, new_is, says) =
    let P : Body → Type 0 = λ rest. Stopped (body_answer w r.header r.blocks failed rest) old new (BadStream number place) in
    subst P (sym says) (refl, refl, (bytes, taken old new bytes left old_is new_is, refl))
stopped_reading w r r' failed input into reader.Fault old new (bytes, took, few) = (bytes, took, due_ahead w r failed input (length bytes) few)
stopped_reading w r r' failed input into reader.NoMemory old new same = stopped_before w r failed input old new same

ends : (w : Handling) (h : Header) (number failed : ℕ) (after : List ℕ → Answer) (old new : Option (List ℕ)) (stop : Stop) → IsEnding w h number failed stop → new ≡ Some [] →
    Stops (body_answer w h number failed (no_more whole)) after old new stop
ends w h number failed after old new (End closing last some) is at = (at, refl, sym is.0, sym is.1, ap ending_of (sym is.2))
ends w h number failed after old new Go is at = absurd is
ends w h number failed after old new (Fails status) is at = absurd is

-- the stream ended
pub gives_end : (w : Handling) (r r' : Reading) (failed : ℕ) (input into : List ℕ) (after : List ℕ → Answer) (old new : Option (List ℕ)) (round : Round) (stop : Stop) →
    GoesOn (remaining r input) (remaining r') into old new (Ok None) →
    IsEnding w r.header r.blocks failed stop → round.parts.items ≡ [] → round.stop ≡ stop → Gives (answer_ahead w r failed input) after old new round
gives_end w r r' failed input into after old new round stop (bytes, old_is, new_is, size, says) end none is =
    let P : Body → Type 0 = λ rest. Gives (body_answer w r.header r.blocks failed rest) after old new round in
    let T : Option (List ℕ) → Type 0 = λ o. Takes old o bytes in
    subst P (sym says)
    (gives_alone (body_answer w r.header r.blocks failed (no_more whole)) after old new round stop none is
    (ends w r.header r.blocks failed after old new stop end new_is)
    (bytes, subst T (sym new_is) (old_is ∙ ap Some (sym (append-nil bytes))), omega (arith, size)))
