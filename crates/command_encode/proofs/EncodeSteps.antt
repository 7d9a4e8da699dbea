-- The rounds of `encode`'s work.
use Rattle.std.proofs.Common.{◌≡◌, ◌≢◌, ℕ, suc, inl, inr, ◌+◌, ◌*◌, ◌<◌, ◌≤◌, List, [], ◌∷◌, length, Some, Ok, Err, refl, ap, sym, subst, ◌∙◌, arith}
use Rattle.std.proofs.lemmas.List.{length-append}
use Rattle.std.specs.declared.option.Option.{Option}
use Rattle.std.specs.declared.result.Result.{Result}
use Rattle.std.specs.Io.KnownBytes.{IsAtEnd}
use Rattle.edge_io.specs.Edge.{Takes}
use Rattle.edge_io.proofs.Known.{takes_none}
use Rattle.edge_io.proofs.Told.{told_rest, told_all}
use Rattle.coded_stream.specs.Header.{Header, header_text}
use Rattle.coded_stream.specs.Opening.{first_size}
use Rattle.coded_stream.specs.declared.version.Version.{Version}
use Rattle.coded_stream.specs.declared.version.Version.TheVariants.{One, Two}
use Rattle.coded_stream.proofs.OpeningSteps.{text-long}
use Rattle.run_loop.specs.Answer.{Part, Answer, preceded_by, size_of}
use Rattle.run_loop.specs.Due.{IsWithin, Stopped, most_read}
use Rattle.run_loop.specs.Step.{Gives, Steps, Stops, parts_of, ending_of}
use Rattle.run_loop.specs.declared.work.Part as rust
use Rattle.run_loop.specs.declared.work.Round.{Round}
use Rattle.run_loop.specs.declared.work.Stop.{Stop}
use Rattle.run_loop.specs.declared.work.Stop.TheVariants.{Go, End, Fails}
use Rattle.run_loop.specs.declared.status.Status.{Status}
use Rattle.run_loop.specs.declared.status.Status.TheVariants.{Done, SomeFailed, BadWords, BadStream, ReadFault, WriteFault, NoMemory}
use Rattle.run_loop.proofs.ReadAhead.{one_read}
use Rattle.run_loop.proofs.Within.{within_next}
use Rattle.command_encode.specs.Encode.{block_part, blocks_answer, end_answer}
use Rattle.command_encode.specs.EncodeRounds.{IsEnd, IsOfBlock, IsLast, IsAfterAllBlocks}
use Rattle.command_encode.specs.Input.{IsInput}
use Rattle.command_encode.proofs.BlockKinds.{Nothing, Over, Short, Whole, kinds, one_ahead, whole_answer, due, none_read, last_read}

-- ---- the header

first_some : (v : Version) → 0 < first_size v
first_some One = omega arith
first_some Two = omega arith

pub header_some : (h : Header) → 0 < length (header_text h)
header_some h = omega (arith, text-long h, first_some h.version)

-- ---- rounds

-- the next bytes couldn't be read
stopped_fault : (h : Header) (more count : ℕ) (input bytes : List ℕ) (old new : Option (List ℕ)) →
    length bytes < h.tb → (more ≡ 0 → length bytes ≡ 0) → Takes old new bytes → old ≡ Some input → Stopped (blocks_answer h more count input) old new ReadFault
stopped_fault h more count input bytes old new few no_more took told =
    let rest = told_rest old new bytes input took told in
    (bytes, took, due h more count (length bytes) input few no_more (omega (arith, ap length rest.input_is, length-append bytes rest.left)))

pub stopped_unread : (h : Header) (more count : ℕ) (input : List ℕ) (old new : Option (List ℕ)) (status : Status) →
    IsInput h.tb old new (Err status) → more ≢ 0 → old ≡ Some input → Stopped (blocks_answer h more count input) old new status
stopped_unread h more count input old new ReadFault (bytes, few, took) some told = stopped_fault h more count input bytes old new few (λ none. absurd (some none)) took told
stopped_unread h more count input old new NoMemory same some told =
    let P : Option (List ℕ) → Type 0 = λ o. Takes old o [] in
    ([], subst P (sym same) (takes_none old), none_read h more count input)
stopped_unread h more count input old new Done read some told = absurd read
stopped_unread h more count input old new SomeFailed read some told = absurd read
stopped_unread h more count input old new (BadWords number place) read some told = absurd read
stopped_unread h more count input old new (BadStream number place) read some told = absurd read
stopped_unread h more count input old new (WriteFault sink) read some told = absurd read

-- a whole block that was read
record ReadWhole (h : Header) (k count : ℕ) (input payload : List ℕ) (new : Option (List ℕ)) : Type 0 where
  left : List ℕ
  new_is : new ≡ Some left
  answer : blocks_answer h (suc k) count input ≡ preceded_by (block_part h payload (length payload) ∷ []) (blocks_answer h k (count + 1) left)

read_whole : (h : Header) (k count : ℕ) (input payload : List ℕ) (old new : Option (List ℕ)) →
    0 < h.tb → length payload ≡ h.tb → Takes old new payload → old ≡ Some input → ReadWhole h k count input payload new
read_whole h k count input payload old new some all took told =
    let rest = told_rest old new payload input took told in
    record { left = rest.left; new_is = rest.new_is; answer = ap (blocks_answer h (suc k) count) rest.input_is ∙ whole_answer h k count payload rest.left some all }

-- memory ran out for it
pub stopped_whole : (h : Header) (k count : ℕ) (input payload : List ℕ) (old new : Option (List ℕ)) →
    0 < h.tb → length payload ≡ h.tb → Takes old new payload → old ≡ Some input → Stopped (blocks_answer h (suc k) count input) old new NoMemory
stopped_whole h k count input payload old new some all took told =
    let read = read_whole h k count input payload old new some all took told in
    let P : Answer → Type 0 = λ a. IsWithin a (length payload) in (
      payload,
      took,
      subst P (sym read.answer)
          (within_next (preceded_by (block_part h payload (length payload) ∷ []) (blocks_answer h k (count + 1) read.left)) (length payload) (one_ahead h k (count + 1) read.left) (omega arith)
          (λ no. cc)),
    )

pub gives_whole : (h : Header) (k count : ℕ) (input payload : List ℕ) (old new : Option (List ℕ)) (round : Round) →
    IsOfBlock h payload (length payload) Go round → 0 < h.tb → length payload ≡ h.tb → Takes old new payload → old ≡ Some input →
    Gives (blocks_answer h (suc k) count input) (blocks_answer h k (count + 1)) old new round
gives_whole h k count input payload old new round made some all took told =
    let read = read_whole h k count input payload old new some all took told in
    let b = blocks_answer h k (count + 1) read.left in
    let P : Stop → Type 0 = λ stop. Stops b (blocks_answer h k (count + 1)) new new stop in
    let p = block_part h payload (length payload) in
    let ahead = one_ahead h k (count + 1) read.left in
    let R : Answer → Type 0 = λ a. length payload ≤ most_read a a.parts in
    let one : length payload ≡ size_of (p ∷ []) = omega arith in (
      b,
      new,
      read.answer ∙ ap (λ (ps : List Part). preceded_by ps b) (sym made.0),
      (payload, took, one ∙ sym (ap size_of made.0)),
      subst P (sym made.1) (read.left, read.new_is, read.new_is, refl),
      (payload, took, subst R (sym read.answer) (one_read b p (length payload) (omega (arith, ahead)) (omega arith))),
    )

stops_end : (count due : ℕ) (after : List ℕ → Answer) (new : Option (List ℕ)) (stop : Stop) →
    IsEnd count stop → new ≡ Some [] → Stops (end_answer count due) after new new stop
stops_end count due after new (End closing last failed) is at = (at, refl, sym is.0, sym is.1, ap ending_of (sym is.2))
stops_end count due after new Go is at = absurd is
stops_end count due after new (Fails status) is at = absurd is

-- memory ran out once the end was seen
pub stopped_last : (h : Header) (more count : ℕ) (input payload : List ℕ) (old new : Option (List ℕ)) →
    length payload < h.tb → (more ≡ 0 → length payload ≡ 0) → Takes old new payload → IsAtEnd new → old ≡ Some input →
    Stopped (blocks_answer h more count input) old new NoMemory
stopped_last h more count input payload old new few no_more took ended told =
    let P : List ℕ → Type 0 = λ bytes. Stopped (blocks_answer h more count bytes) old new NoMemory in
    subst P (sym (told_all old new payload input took ended told).input_is) (payload, took, last_read h more count payload few no_more)

-- the round that saw the end
pub gives_last : (h : Header) (more count : ℕ) (input payload : List ℕ) (after : List ℕ → Answer) (old new : Option (List ℕ)) (round : Round) →
    IsLast h count payload round → length payload < h.tb → (more ≡ 0 → length payload ≡ 0) → Takes old new payload → IsAtEnd new → old ≡ Some input →
    Gives (blocks_answer h more count input) after old new round
gives_last h more count input payload after old new round is few no_more took ended told =
    let end = told_all old new payload input took ended told in
    let Q : List ℕ → Type 0 = λ bytes. Gives (blocks_answer h more count bytes) after old new round in
    subst Q (sym end.input_is) (elim (kinds h more count payload) [
      | Nothing zero_long answer ↦ elim is [
        | inl empty ↦ (
            let P : Answer → Type 0 = λ a. Gives a after old new round in
            let R : List ℕ → Type 0 = λ bytes. Takes old new bytes in
            subst P (sym answer) (
              end_answer count 1,
              new,
              sym (ap (λ (blocks : List rust.Part). preceded_by (parts_of blocks) (end_answer count 1)) empty.1),
              ([], subst R (none_of payload zero_long) took, sym (ap (λ (blocks : List rust.Part). size_of (parts_of blocks)) empty.1)),
              stops_end count 1 after new round.stop empty.2 end.new_is,
              (payload, took, omega (arith, zero_long)),
            )
            )
        | inr some ↦ absurd (omega (arith, zero_long, some.0))
      ]
      | Over none some answer ↦ absurd (omega (arith, some, no_more none))
      | Short some short more_come answer ↦ elim is [
        | inl empty ↦ absurd (omega (arith, some, empty.0))
        | inr made ↦ (
            let b = end_answer (count + 1) 0 in
            let S : Answer → Type 0 = λ a. length payload ≤ most_read a a.parts in
            let one : length payload ≡ size_of (block_part h payload (length payload + 1) ∷ []) = omega arith in (
              b,
              new,
              answer ∙ ap (λ (ps : List Part). preceded_by ps b) (sym made.1),
              (payload, took, one ∙ sym (ap size_of made.1)),
              stops_end (count + 1) 0 after new round.stop made.2 end.new_is,
              (payload, took, subst S (sym answer) (omega arith)),
            )
            )
      ]
      | Whole all k next answer ↦ absurd (omega (arith, all, few))
    ])
  where
    none_of : (bytes : List ℕ) → length bytes ≡ 0 → bytes ≡ []
    none_of [] none = refl
    none_of (b ∷ bytes) none = absurd (omega (arith, none))

-- a byte after the last block that may come
stopped_over : (h : Header) (count : ℕ) (input bytes : List ℕ) (old new : Option (List ℕ)) →
    length bytes ≡ 1 → Takes old new bytes → old ≡ Some input → Stopped (blocks_answer h 0 count input) old new (BadStream 8 (4096 * h.tb))
stopped_over h count input bytes old new one took told =
    let rest = told_rest old new bytes input took told in
    elim (kinds h 0 count input) [
      | Nothing zero_long answer ↦ absurd (omega (arith, zero_long, one, ap length rest.input_is, length-append bytes rest.left))
      | Over none some_left answer ↦ (
          let P : Answer → Type 0 = λ a. Stopped a old new (BadStream 8 (4096 * h.tb)) in subst P (sym answer) (refl, refl, (bytes, took, one))
          )
      | Short some_left short more_come answer ↦ absurd (omega (arith, more_come))
      | Whole enough k next answer ↦ absurd (omega (arith, next))
    ]

-- the round after it
pub step_after_all_blocks : (h : Header) (count : ℕ) (input : List ℕ) (after : List ℕ → Answer) (old new : Option (List ℕ)) (result : Result Round Status) →
    IsAfterAllBlocks h old new result → count ≡ 4096 → 0 < h.tb → old ≡ Some input →
    Steps (blocks_answer h 0 count input) after old new result
step_after_all_blocks h count input after old new (Ok round) (took, ended, is) all some told =
    let P : ℕ → Type 0 = λ n. IsLast h n [] round in
    gives_last h 0 count input [] after old new round (subst P (sym all) is) some (λ _. refl) took ended told
step_after_all_blocks h count input after old new (Err (BadStream number place)) (number_is, place_is, (bytes, one, took)) all some told =
    let P : ℕ → ℕ → Type 0 = λ n p. Stopped (blocks_answer h 0 count input) old new (BadStream n p) in
    subst (λ (n : ℕ). P n place) (sym number_is) (subst (P 8) (sym place_is) (stopped_over h count input bytes old new one took told))
step_after_all_blocks h count input after old new (Err ReadFault) took all some told = stopped_fault h 0 count input [] old new some (λ _. refl) took told
step_after_all_blocks h count input after old new (Err NoMemory) (took, ended) all some told = stopped_last h 0 count input [] old new some (λ _. refl) took ended told
step_after_all_blocks h count input after old new (Err Done) is all some told = absurd is
step_after_all_blocks h count input after old new (Err SomeFailed) is all some told = absurd is
step_after_all_blocks h count input after old new (Err (BadWords number place)) is all some told = absurd is
step_after_all_blocks h count input after old new (Err (WriteFault sink)) is all some told = absurd is
