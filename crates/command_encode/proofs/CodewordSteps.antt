-- The one round of `codeword`'s work.
use Rattle.std.proofs.Common.{◌≡◌, ℕ, inl, inr, ◌<◌, ◌≤◌, List, [], ◌∷◌, ◌++◌, length, Some, Err, refl, ap, sym, subst, ◌∙◌, arith}
use Rattle.std.proofs.lemmas.Grind.{common_steps}
use Rattle.std.proofs.lemmas.List.{length-append}
use Rattle.std.specs.declared.option.Option.{Option}
use Rattle.std.specs.Io.KnownBytes.{IsAtEnd}
use Rattle.edge_io.specs.Edge.{Takes}
use Rattle.edge_io.proofs.Known.{takes_none}
use Rattle.model_sender.specs.CircularBuffer.{Match}
use Rattle.std.proofs.lemmas.Bool.{cases_lt}
use Rattle.run_loop.specs.Answer.{Part, Answer, finished, preceded_by, refusal, closed, size_of}
use Rattle.run_loop.specs.Due.{IsDue, IsWithin, Stopped, most_read}
use Rattle.run_loop.specs.Step.{Gives, Stops, parts_of, ending_of}
use Rattle.run_loop.specs.declared.work.Part as rust
use Rattle.run_loop.specs.declared.work.Round.{Round}
use Rattle.run_loop.specs.declared.work.Stop.{Stop}
use Rattle.run_loop.specs.declared.work.Stop.TheVariants.{Go, End, Fails}
use Rattle.run_loop.specs.declared.status.Status.{Status}
use Rattle.run_loop.specs.declared.status.Status.TheVariants.{Done, SomeFailed, BadWords, BadStream, ReadFault, WriteFault, NoMemory}
use Rattle.edge_io.proofs.Told.{told_rest, told_all}
use Rattle.command_encode.specs.Codeword.{block_answer, codeword_part, bits_line}
use Rattle.command_encode.specs.CodewordRound.{IsCoded}
use Rattle.command_encode.specs.Input.{IsInput}

-- a payload that isn't too long
accepted : (m : Match) (rv : ℕ) (payload : List ℕ) → 0 < length payload → length payload ≤ 18722 →
    block_answer m rv payload ≡ preceded_by (codeword_part m rv payload ∷ []) (closed [] (bits_line m) finished 0 0)
accepted m rv payload some few = grind (arith, common_steps, some, few)

-- a byte more is refused
too_long : (m : Match) (rv : ℕ) (bytes rest : List ℕ) → length bytes ≡ 18723 → block_answer m rv (bytes ++ rest) ≡ refusal 4 18722 18723 18723
too_long m rv bytes rest long = grind (arith, common_steps, long, length-append bytes rest)

-- which answer there is
data Kind (m : Match) (rv : ℕ) (input : List ℕ) : Type 0 where
  Empty : length input ≡ 0 → block_answer m rv input ≡ refusal 4 0 0 1 → Kind m rv input
  Long : block_answer m rv input ≡ refusal 4 18722 18723 18723 → Kind m rv input
  Whole : block_answer m rv input ≡ preceded_by (codeword_part m rv input ∷ []) (closed [] (bits_line m) finished 0 0) → Kind m rv input

kinds : (m : Match) (rv : ℕ) (input : List ℕ) → Kind m rv input
kinds m rv input = elim (cases_lt 0 (length input)) [
  | inl some ↦ elim (cases_lt 18722 (length input)) [
    | inl long ↦ Long (grind (arith, common_steps, some, long))
    | inr few ↦ Whole (grind (arith, common_steps, some, few))
  ]
  | inr none ↦ (let zero_long : length input ≡ 0 = omega (arith, none) in Empty zero_long (grind (arith, common_steps, zero_long)))
]

-- up to 18,722 bytes, with more or the end to come, are no whole input
not_whole : (m : Match) (rv n : ℕ) (input : List ℕ) → n ≤ 18722 → n ≤ length input → IsDue (block_answer m rv input).due (block_answer m rv input).parts n
not_whole m rv n input few within = elim (kinds m rv input) [
  | Empty none is ↦ (let P : Answer → Type 0 = λ a. IsDue a.due a.parts n in subst P (sym is) (omega (arith, none, within)))
  | Long is ↦ (let P : Answer → Type 0 = λ a. IsDue a.due a.parts n in subst P (sym is) (omega (arith, few)))
  | Whole is ↦ (let P : Answer → Type 0 = λ a. IsDue a.due a.parts n in subst P (sym is) (omega (arith, within)))
]

-- memory may run out before anything is read
none_read : (m : Match) (rv : ℕ) (input : List ℕ) → IsWithin (block_answer m rv input) 0
none_read m rv input = elim (kinds m rv input) [
  | Empty none is ↦ (let P : Answer → Type 0 = λ a. IsWithin a 0 in subst P (sym is) (omega arith, λ _. omega arith))
  | Long is ↦ (let P : Answer → Type 0 = λ a. IsWithin a 0 in subst P (sym is) (omega arith, λ _. omega arith))
  | Whole is ↦ (let P : Answer → Type 0 = λ a. IsWithin a 0 in subst P (sym is) (omega arith, λ none. cc))
]

-- and once the payload was read
all_read : (m : Match) (rv : ℕ) (payload : List ℕ) → 0 < length payload → length payload ≤ 18722 → IsWithin (block_answer m rv payload) (length payload)
all_read m rv payload some few =
    let P : Answer → Type 0 = λ a. IsWithin a (length payload) in
    subst P (sym (accepted m rv payload some few)) (omega arith, λ none. cc)

-- the payload couldn't be read
pub stopped_unread : (m : Match) (rv : ℕ) (input : List ℕ) (old new : Option (List ℕ)) (status : Status) →
    IsInput 18723 old new (Err status) → old ≡ Some input → Stopped (block_answer m rv input) old new status
stopped_unread m rv input old new ReadFault (bytes, short, took) told =
    let rest = told_rest old new bytes input took told in
    (bytes, took, not_whole m rv (length bytes) input (omega (arith, short)) (omega (arith, ap length rest.input_is, length-append bytes rest.left)))
stopped_unread m rv input old new NoMemory same told =
    let P : Option (List ℕ) → Type 0 = λ o. Takes old o [] in
    ([], subst P (sym same) (takes_none old), none_read m rv input)
stopped_unread m rv input old new Done read told = absurd read
stopped_unread m rv input old new SomeFailed read told = absurd read
stopped_unread m rv input old new (BadWords number place) read told = absurd read
stopped_unread m rv input old new (BadStream number place) read told = absurd read
stopped_unread m rv input old new (WriteFault sink) read told = absurd read

pub stopped_empty : (m : Match) (rv : ℕ) (input payload : List ℕ) (old new : Option (List ℕ)) →
    length payload ≡ 0 → Takes old new payload → IsAtEnd new → old ≡ Some input → Stopped (block_answer m rv input) old new (BadStream 4 0)
stopped_empty m rv input payload old new zero_long took ended told =
    let P : List ℕ → Type 0 = λ bytes. Stopped (block_answer m rv bytes) old new (BadStream 4 0) in
    let none : block_answer m rv payload ≡ refusal 4 0 0 1 = grind (arith, common_steps, zero_long) in
    let Q : Answer → Type 0 = λ a. Stopped a old new (BadStream 4 0) in
    subst P (sym (told_all old new payload input took ended told).input_is) (subst Q (sym none) (refl, refl, (payload, took, zero_long)))

pub stopped_long : (m : Match) (rv : ℕ) (input bytes : List ℕ) (old new : Option (List ℕ)) →
    length bytes ≡ 18723 → Takes old new bytes → old ≡ Some input → Stopped (block_answer m rv input) old new (BadStream 4 18722)
stopped_long m rv input bytes old new long took told =
    let rest = told_rest old new bytes input took told in
    let same : block_answer m rv input ≡ refusal 4 18722 18723 18723 = ap (block_answer m rv) rest.input_is ∙ too_long m rv bytes rest.left long in
    let P : Answer → Type 0 = λ a. Stopped a old new (BadStream 4 18722) in
    subst P (sym same) (refl, refl, (bytes, took, long))

-- memory ran out once the payload was read
pub stopped_starved : (m : Match) (rv : ℕ) (input payload : List ℕ) (old new : Option (List ℕ)) →
    0 < length payload → length payload ≤ 18722 → Takes old new payload → IsAtEnd new → old ≡ Some input → Stopped (block_answer m rv input) old new NoMemory
stopped_starved m rv input payload old new some few took ended told =
    let P : List ℕ → Type 0 = λ bytes. Stopped (block_answer m rv bytes) old new NoMemory in
    subst P (sym (told_all old new payload input took ended told).input_is) (payload, took, all_read m rv payload some few)

coded_stop : (m : Match) (rv : ℕ) (payload : List ℕ) (after : List ℕ → Answer) (new : Option (List ℕ)) (blocks : List rust.Part) (stop : Stop) →
    IsCoded m rv payload blocks stop → new ≡ Some [] →
    (parts_of blocks ≡ codeword_part m rv payload ∷ []) × Stops (closed [] (bits_line m) finished 0 0) after new new stop
coded_stop m rv payload after new blocks (End closing last failed) is at =
    (is.0, (at, refl, sym is.1, sym is.2, ap ending_of (sym is.3)))
coded_stop m rv payload after new blocks Go is at = absurd is
coded_stop m rv payload after new blocks (Fails status) is at = absurd is

pub gives_coded : (m : Match) (rv : ℕ) (input payload : List ℕ) (after : List ℕ → Answer) (old new : Option (List ℕ)) (round : Round) →
    IsCoded m rv payload round.parts.items round.stop → 0 < length payload → length payload ≤ 18722 → Takes old new payload → IsAtEnd new → old ≡ Some input →
    Gives (block_answer m rv input) after old new round
gives_coded m rv input payload after old new round is some few took ended told =
    let end = told_all old new payload input took ended told in
    let coded = coded_stop m rv payload after new round.parts.items round.stop is end.new_is in
    let one : length payload ≡ size_of (codeword_part m rv payload ∷ []) = omega arith in
    let b = closed [] (bits_line m) finished 0 0 in
    let R : Answer → Type 0 = λ a. length payload ≤ most_read a a.parts in (
      b,
      new,
      ap (block_answer m rv) end.input_is ∙ accepted m rv payload some few ∙ ap (λ (ps : List Part). preceded_by ps b) (sym coded.0),
      (payload, took, one ∙ sym (ap size_of coded.0)),
      coded.1,
      (payload, took, subst R (sym (ap (block_answer m rv) end.input_is ∙ accepted m rv payload some few)) (omega arith)),
    )
