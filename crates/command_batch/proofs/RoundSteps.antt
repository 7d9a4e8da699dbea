-- The rounds of `batch`.
use Rattle.std.proofs.Common.{◌≡◌, ℕ, ◌+◌, ◌-◌, ◌*◌, ◌<◌, ◌≤◌, List, [], ◌∷◌, ◌++◌, length, true, Some, Err, refl, ap, sym, subst, ◌∙◌, All, arith}
use Rattle.std.proofs.lemmas.List.{append-nil, length-append}
use Rattle.std.specs.declared.option.Option.{Option}
use Rattle.edge_io.specs.Edge.{Rose, Takes}
use Rattle.edge_io.proofs.Known.{takes_none, takes_then}
use Rattle.model_receiver.specs.Limits.{DecoderLimits}
use Rattle.coded_stream.specs.Header.{Header}
use Rattle.coded_stream.specs.Blocks.{Block}
use Rattle.coded_stream.specs.Body.{Body, Ending, no_more, whole, bad}
use Rattle.coded_stream.specs.Stream.{most_blocks}
use Rattle.coded_stream.specs.Steps.{Reading, remaining, GoesOn, due_of}
use Rattle.coded_stream.specs.declared.stop.StreamStop.{StreamStop}
use Rattle.coded_stream.specs.declared.stop.StreamStop.TheVariants as reader
use Rattle.run_loop.specs.Answer.{Part, Answer, preceded_by, size_of}
use Rattle.run_loop.specs.Due.{Stopped, TakesSome, most_ahead}
use Rattle.run_loop.specs.Step.{FailsBy, Fewer, Gives, Stops, StopsBy, ending_of, parts_of}
use Rattle.run_loop.specs.declared.work.Round.{Round}
use Rattle.run_loop.specs.declared.work.Stop.{Stop}
use Rattle.run_loop.specs.declared.work.Stop.TheVariants.{Go, End, Fails}
use Rattle.run_loop.specs.declared.status.Status.TheVariants.{NoMemory, BadStream}
use Rattle.run_loop.proofs.ReadAhead.{starved_read}
use Rattle.stream_loop.specs.Handling.{Handling, blocks_answer, body_answer}
use Rattle.stream_loop.specs.Rounds.{status_of, IsEnding}
use Rattle.stream_loop.proofs.Answered.{due_of_blocks, some_due_without_parts, some_due, within_ahead}
use Rattle.stream_loop.proofs.StreamSteps.{taken}
use Rattle.command_decode.specs.Decoding.{decoding}
use Rattle.command_batch.specs.Batch.{batch_ahead, reading_ahead}
use Rattle.command_batch.specs.Jobs.{blocks_in, IsJobOf}
use Rattle.command_batch.specs.Parts.{failures, job_parts, StopsAs}
use Rattle.command_batch.specs.Reading.{Came, Comes, Counts, Passes, stop_of}
use Rattle.command_batch.specs.declared.job.BlockJob.{BlockJob}
use Rattle.command_batch.specs.declared.reading.Reached.{Reached}
use Rattle.command_batch.specs.declared.reading.Reached.TheVariants as reached
use Rattle.command_batch.proofs.Ahead.{IsSpare, spare_within, whole_within}
use Rattle.command_batch.proofs.Near.{IsNear, near-body}
use Rattle.command_batch.proofs.Parted.{answered_jobs, length-parts, size-parts}

-- ---- what is still to come after the jobs of a round

abbrev pub left_answer : DecoderLimits → (pipes : ℕ) → (r : Reading) → (failed : ℕ) → List BlockJob → Body → Answer
left_answer e pipes r failed jobs rest =
    reading_ahead (2 * pipes) (body_answer (decoding e) r.header (r.blocks + length jobs) (failed + failures r.blocks jobs) rest)

split : (e : DecoderLimits) (pipes failed : ℕ) (r s : Reading) (input left : List ℕ) (jobs : List BlockJob) (old mid : Option (List ℕ)) →
    All (IsJobOf e r.header) jobs → Came r s input left (blocks_in jobs) old mid →
    batch_ahead e pipes r failed input ≡ preceded_by (job_parts r.blocks jobs) (left_answer e pipes r failed jobs (remaining s left))
split e pipes failed r s input left jobs old mid are came =
    ap (λ (b : Body). reading_ahead (2 * pipes) (body_answer (decoding e) r.header r.blocks failed b)) came.says
    ∙ ap (reading_ahead (2 * pipes)) (answered_jobs e r.header r.blocks failed jobs (remaining s left) are)

-- ---- memory runs out

-- so many bytes beyond the blocks that came were read
spare_of_blocks : (w : Handling) (h : Header) (number failed : ℕ) (blocks : List Block) (ending : Ending) (m : ℕ) → IsNear ending → m < due_of blocks ending →
    IsSpare (blocks_answer w h number failed blocks ending).parts (blocks_answer w h number failed blocks ending).tail m
spare_of_blocks w h number failed [] whole m near few = omega (arith, few)
spare_of_blocks w h number failed [] (bad r) m near few = omega (arith, near, few)
spare_of_blocks w h number failed (b ∷ blocks) ending m near few = omega (arith, few)

-- what was taken after the blocks that came, and how much it may be
more_taken : (w : Handling) (h : Header) (number failed : ℕ) (s s' : Reading) (left : List ℕ) (mid new : Option (List ℕ)) (stopped : Reached) →
    (stopped ≡ reached.Full → ⊥) → GoesOn (remaining s left) (remaining s') [] mid new (stop_of stopped) →
    TakesSome mid new (λ m. let a = body_answer w h number failed (remaining s left) in IsSpare a.parts a.tail m)
more_taken w h number failed s s' left mid new reached.Full early on = absurd (early refl)
more_taken w h number failed s s' left mid new reached.End early (bytes, old_is, new_is, size, says) = (
  bytes,
  (let P : Option (List ℕ) → Type 0 = λ o. Takes mid o bytes in subst P (sym new_is) (old_is ∙ ap Some (sym (append-nil bytes)))),
  subst (λ (b : Body). let a = body_answer w h number failed b in IsSpare a.parts a.tail (length bytes)) (sym says) (omega (arith, size)),
)
more_taken w h number failed s s' left mid new (reached.Stopped (reader.Bad n place)) early (bytes, rest, due, old_is, new_is, says) = (
  bytes,
  (let P : Option (List ℕ) → Type 0 = λ o. Takes mid o bytes in subst P (sym new_is) old_is),
  subst (λ (b : Body). let a = body_answer w h number failed b in IsSpare a.parts a.tail (length bytes)) (sym says) (omega arith),
)
more_taken w h number failed s s' left mid new (reached.Stopped reader.Fault) early (bytes, took, few) = (
  bytes,
  took,
  spare_of_blocks w h number failed (remaining s left).blocks (remaining s left).ending (length bytes) (near-body s.header (most_blocks - s.blocks) s.place left) few,
)
more_taken w h number failed s s' left mid new (reached.Stopped reader.NoMemory) early same = (
  [],
  (let P : Option (List ℕ) → Type 0 = λ o. Takes mid o [] in subst P (sym same) (takes_none mid)),
  zero_spare (body_answer w h number failed (remaining s left)),
)
  where
    zero_spare : (a : Answer) → IsSpare a.parts a.tail 0
    zero_spare a = of a.parts where
      of : (parts : List Part) → IsSpare parts a.tail 0
      of [] = omega arith
      of (p ∷ parts) = omega arith

-- the blocks that came, and what was taken after them
starved_after : (e : DecoderLimits) (pipes failed : ℕ) (r before s : Reading) (input left : List ℕ) (jobs : List BlockJob) (old mid new : Option (List ℕ)) (stopped : Reached) →
    1 ≤ pipes → length jobs < 2 * pipes → All (IsJobOf e r.header) jobs → (stopped ≡ reached.Full → ⊥) →
    Came r before input left (blocks_in jobs) old mid → GoesOn (remaining before left) (remaining s) [] mid new (stop_of stopped) →
    Stopped (batch_ahead e pipes r failed input) old new NoMemory
starved_after e pipes failed r before s input left jobs old mid new stopped some few are early came on =
    let w = decoding e in
    let number = r.blocks + length jobs in
    let all = failed + failures r.blocks jobs in
    let more = more_taken w r.header number all before s left mid new stopped early on in
    let b = body_answer w r.header number all (remaining before left) in
    let front = job_parts r.blocks jobs in
    let P : Answer → Type 0 = λ a. length (came.bytes ++ more.0) ≤ most_ahead a in
    let within : length (came.bytes ++ more.0) ≤ most_ahead (preceded_by front (reading_ahead (2 * pipes) b)) =
    let spare = spare_within b front (2 * pipes) (length more.0) (omega (arith, some)) (omega (arith, few, length-parts r.blocks jobs)) more.2 in
    omega (arith, spare, length-append came.bytes more.0, came.size, size-parts r.blocks jobs) in (
      came.bytes ++ more.0,
      takes_then old mid new came.bytes more.0 came.took more.1,
      (subst P (sym (split e pipes failed r before input left jobs old mid are came)) within, (within_ahead w r failed input).1),
    )

starved_full : (e : DecoderLimits) (pipes failed : ℕ) (r s : Reading) (input left : List ℕ) (jobs : List BlockJob) (old new : Option (List ℕ)) →
    length jobs ≤ 2 * pipes → All (IsJobOf e r.header) jobs → Came r s input left (blocks_in jobs) old new →
    Stopped (batch_ahead e pipes r failed input) old new NoMemory
starved_full e pipes failed r s input left jobs old new few are came =
    let w = decoding e in
    let b = body_answer w r.header (r.blocks + length jobs) (failed + failures r.blocks jobs) (remaining s left) in
    let front = job_parts r.blocks jobs in
    let P : Answer → Type 0 = λ a. length came.bytes ≤ most_ahead a in
    let within : length came.bytes ≤ most_ahead (preceded_by front (reading_ahead (2 * pipes) b)) =
    let whole = whole_within b front (2 * pipes) (omega (arith, few, length-parts r.blocks jobs)) in
    omega (arith, whole, came.size, size-parts r.blocks jobs) in (
      came.bytes,
      came.took,
      (subst P (sym (split e pipes failed r s input left jobs old new are came)) within, (within_ahead w r failed input).1),
    )

-- memory ran out once the blocks of the round had come
pub starved_round : (e : DecoderLimits) (pipes failed : ℕ) (r s : Reading) (input : List ℕ) (jobs : List BlockJob) (old new : Option (List ℕ)) (stopped : Reached) →
    1 ≤ pipes → All (IsJobOf e r.header) jobs → Comes r s input (blocks_in jobs) old new stopped → Counts (length jobs) (2 * pipes) s stopped →
    Stopped (batch_ahead e pipes r failed input) old new NoMemory
starved_round e pipes failed r s input jobs old new reached.Full some are (left, came) (all, live) =
    starved_full e pipes failed r s input left jobs old new (omega (arith, all)) are came
starved_round e pipes failed r s input jobs old new reached.End some are (left, mid, before, came, on) few =
    starved_after e pipes failed r before s input left jobs old mid new reached.End some few are (λ e. cc) came on
starved_round e pipes failed r s input jobs old new (reached.Stopped why) some are (left, mid, before, came, on) few =
    starved_after e pipes failed r before s input left jobs old mid new (reached.Stopped why) some few are (λ e. cc) came on

-- and before any had
pub starved_before : (e : DecoderLimits) (pipes failed : ℕ) (r : Reading) (input : List ℕ) (old : Option (List ℕ)) →
    Stopped (batch_ahead e pipes r failed input) old old NoMemory
starved_before e pipes failed r input old = ([], takes_none old, (omega arith, (within_ahead (decoding e) r failed input).1))

-- ---- the blocks were made

ends_ahead : (w : Handling) (k : ℕ) (h : Header) (number failed : ℕ) (after : List ℕ → Answer) (old new : Option (List ℕ)) (stop : Stop) → IsEnding w h number failed stop → new ≡ Some [] →
    Stops (reading_ahead k (body_answer w h number failed (no_more whole))) after old new stop
ends_ahead w k h number failed after old new (End closing last some) is at = (at, refl, sym is.0, sym is.1, ap ending_of (sym is.2))
ends_ahead w k h number failed after old new Go is at = absurd is
ends_ahead w k h number failed after old new (Fails status) is at = absurd is

stopped_ahead : (w : Handling) (k : ℕ) (h : Header) (number failed : ℕ) (before s : Reading) (left : List ℕ) (mid new : Option (List ℕ)) (why : StreamStop) →
    GoesOn (remaining before left) (remaining s) [] mid new (Err why) →
    Stopped (reading_ahead k (body_answer w h number failed (remaining before left))) mid new (status_of why)
stopped_ahead w k h number failed before s left mid new (reader.Bad n place) (bytes, rest, due, old_is, new_is, says) =
    let P : Body → Type 0 = λ b. Stopped (reading_ahead k (body_answer w h number failed b)) mid new (BadStream n place) in
    subst P (sym says) (refl, refl, (bytes, taken mid new bytes rest old_is new_is, refl))
stopped_ahead w k h number failed before s left mid new reader.Fault (bytes, took, few) =
    (bytes, took, due_of_blocks w h number failed (remaining before left).blocks (remaining before left).ending (length bytes) few)
stopped_ahead w k h number failed before s left mid new reader.NoMemory same = (
  [],
  (let P : Option (List ℕ) → Type 0 = λ o. Takes mid o [] in subst P (sym same) (takes_none mid)),
  (omega arith, some_due_without_parts w h number failed (remaining before left).blocks (remaining before left).ending (some_due before left)),
)

gives_after : (e : DecoderLimits) (pipes failed : ℕ) (r before : Reading) (input left : List ℕ) (jobs : List BlockJob) (after : List ℕ → Answer) (old mid new : Option (List ℕ)) (round : Round) →
    All (IsJobOf e r.header) jobs → Came r before input left (blocks_in jobs) old mid → parts_of round.parts.items ≡ job_parts r.blocks jobs →
    Stops (left_answer e pipes r failed jobs (remaining before left)) after mid new round.stop → Stopped (batch_ahead e pipes r failed input) old new NoMemory →
    Gives (batch_ahead e pipes r failed input) after old new round
gives_after e pipes failed r before input left jobs after old mid new round are came made stops starved =
    let b = left_answer e pipes r failed jobs (remaining before left) in (
      b,
      mid,
      split e pipes failed r before input left jobs old mid are came ∙ ap (λ (ps : List Part). preceded_by ps b) (sym made),
      (came.bytes, came.took, came.size ∙ sym (size-parts r.blocks jobs) ∙ sym (ap size_of made)),
      stops,
      starved_read (batch_ahead e pipes r failed input) old new starved,
    )

-- the blocks of the round were made, and the round stops as its reading did: it read no more than where memory ran out then
pub gives_round : (e : DecoderLimits) (pipes failed failed' : ℕ) (r s : Reading) (input : List ℕ) (jobs : List BlockJob) (old new : Option (List ℕ)) (stopped : Reached) (round : Round) →
    All (IsJobOf e r.header) jobs → Comes r s input (blocks_in jobs) old new stopped → Passes r s (length jobs) → failed' ≡ failed + failures r.blocks jobs →
    parts_of round.parts.items ≡ job_parts r.blocks jobs → StopsAs e r.header s.blocks failed' stopped round.stop → Stopped (batch_ahead e pipes r failed input) old new NoMemory →
    Gives (batch_ahead e pipes r failed input) (batch_ahead e pipes s failed') old new round
gives_round e pipes failed failed' r s input jobs old new reached.Full round are (left, came) passes counted made stops starved =
    let after = batch_ahead e pipes s failed' in
    let b = left_answer e pipes r failed jobs (remaining s left) in
    let w = decoding e in
    let k = 2 * pipes in
    let P : Stop → Type 0 = λ stop. Stops b after new new stop in
    let same : b ≡ after left =
    ap (λ (h : Header). reading_ahead k (body_answer w h (r.blocks + length jobs) (failed + failures r.blocks jobs) (remaining s left))) (sym passes.header)
    ∙ ap (λ (n : ℕ). reading_ahead k (body_answer w s.header n (failed + failures r.blocks jobs) (remaining s left))) (sym passes.blocks)
    ∙ ap (λ (n : ℕ). reading_ahead k (body_answer w s.header s.blocks n (remaining s left))) (sym counted) in
    gives_after e pipes failed r s input left jobs after old new new round are came made (subst P (sym stops) (left, came.mid_is, came.mid_is, same)) starved
gives_round e pipes failed failed' r s input jobs old new reached.End round are (left, mid, before, came, on) passes counted made stops starved =
    let after = batch_ahead e pipes s failed' in
    let w = decoding e in
    let k = 2 * pipes in
    let E : ℕ → ℕ → Type 0 = λ n f. IsEnding w r.header n f round.stop in
    let is : E (r.blocks + length jobs) (failed + failures r.blocks jobs) =
    subst (λ (n : ℕ). E n (failed + failures r.blocks jobs)) passes.blocks (subst (λ (f : ℕ). E s.blocks f) counted stops) in
    let P : Body → Type 0 = λ rest. Stops (left_answer e pipes r failed jobs rest) after mid new round.stop in
    gives_after e pipes failed r before input left jobs after old mid new round are came made
    (subst P (sym on.4) (ends_ahead w k r.header (r.blocks + length jobs) (failed + failures r.blocks jobs) after mid new round.stop is on.2)) starved
gives_round e pipes failed failed' r s input jobs old new (reached.Stopped why) round are (left, mid, before, came, on) passes counted made stops starved =
    let after = batch_ahead e pipes s failed' in
    let P : Stop → Type 0 = λ stop. Stops (left_answer e pipes r failed jobs (remaining before left)) after mid new stop in
    gives_after e pipes failed r before input left jobs after old mid new round are came made
    (subst P (sym stops) (stopped_ahead (decoding e) (2 * pipes) r.header (r.blocks + length jobs) (failed + failures r.blocks jobs) before s left mid new why on)) starved

-- ---- whether more is to come

-- a round that goes on has as many blocks as it may have
pub full_of : (e : DecoderLimits) (h : Header) (blocks failed count most : ℕ) (s : Reading) (stopped : Reached) (stop : Stop) → StopsAs e h blocks failed stopped stop → stop ≡ Go →
    Counts count most s stopped → (count ≡ most) × (s.live ≡ true)
full_of e h blocks failed count most s reached.Full stop stops go counts = counts
full_of e h blocks failed count most s reached.End stop stops go counts =
    absurd (let P : Stop → Type 0 = λ x. IsEnding (decoding e) h blocks failed x in subst P go stops)
full_of e h blocks failed count most s (reached.Stopped why) stop stops go counts = absurd (let never : ⊥ = cc (sym stops ∙ go) in never)

pub fewer_of : (before now : ℕ) (stop : Stop) → (stop ≡ Go → now < before) → Fewer before now stop
fewer_of before now Go less = less refl
fewer_of before now (End closing last failed) less = tt
fewer_of before now (Fails status) less = tt

-- a round stops by a fault of the source only where the source counted one
pub stops_by : (e : DecoderLimits) (h : Header) (blocks failed before now : ℕ) (stopped : Reached) (stop : Stop) → StopsAs e h blocks failed stopped stop →
    (stopped ≡ reached.Stopped reader.Fault → Rose before now) → StopsBy before now stop
stops_by e h blocks failed before now reached.Full stop stops rose = let P : Stop → Type 0 = λ x. StopsBy before now x in subst P (sym stops) tt
stops_by e h blocks failed before now reached.End Go stops rose = tt
stops_by e h blocks failed before now reached.End (End closing last some) stops rose = tt
stops_by e h blocks failed before now reached.End (Fails status) stops rose = absurd stops
stops_by e h blocks failed before now (reached.Stopped why) stop stops rose =
    let P : Stop → Type 0 = λ x. StopsBy before now x in subst P (sym stops) (of why rose)
  where
    of : (w : StreamStop) → (reached.Stopped w ≡ reached.Stopped reader.Fault → Rose before now) → FailsBy before now (status_of w)
    of (reader.Bad number place) r = tt
    of reader.Fault r = r refl
    of reader.NoMemory r = tt
