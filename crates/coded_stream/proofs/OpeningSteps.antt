-- The beginning of a stream, by its two units.
use Rattle.std.proofs.Common.{◌≡◌, ℕ, ◌+◌, ◌*◌, ◌<◌, ◌≤◌, ◌==◌, Bool, true, false, cond, nat_lt, List, [], ◌∷◌, ◌++◌, length, take, drop, flat_map, Some, None, Ok, Err, refl, ap, sym, ◌∙◌, arith}
use Rattle.std.specs.declared.option.Option.{Option}
use Rattle.std.specs.declared.result.Result.{Result}
use Rattle.edge_io.specs.Edge.{Takes}
use Rattle.std.proofs.lemmas.Bool.{lt-ltb}
use Rattle.std.proofs.lemmas.List.{length-append}
use Rattle.rate_match.specs.declared.sends.Sending.{Sending}
use Rattle.coded_stream.specs.Header.{Header, word_text, half_word_text, magic, first_text, transmission_text, header_text}
use Rattle.coded_stream.specs.Units.{Refusal, refused_at, truncated, EndsInUnit}
use Rattle.coded_stream.specs.Opening.{Check, Opening, opens, refuses, unless, first_refusal, version_of, first_size, described_size, count_in, fields, transmissions_fields, transmissions_in, header_in, second_opening, first_opening, opening}
use Rattle.coded_stream.specs.Fields.{TransmissionsAreRead}
use Rattle.coded_stream.specs.Takes.{opening_due, StopsOpening, StopsInSecond, TakesSecond}
use Rattle.coded_stream.specs.declared.version.Version.{Version}
use Rattle.coded_stream.specs.declared.version.Version.TheVariants.{One, Two}
use Rattle.coded_stream.specs.declared.kind.Want.{Want}
use Rattle.coded_stream.specs.declared.stop.StreamStop.{StreamStop}
use Rattle.coded_stream.specs.declared.stop.StreamStop.TheVariants.{Bad, Fault, NoMemory}
use Rattle.coded_stream.proofs.Stopping.{unit-stops, stops-later}
use Rattle.coded_stream.proofs.Fronts.{take_front, drop_front, whole_front, word_front}
use Rattle.coded_stream.proofs.HeaderTransmissionSteps.{transmissions-long}

pub same_refuses : (number p q s t d e : ℕ) → p ≡ q → s ≡ t → d ≡ e
    → refuses (record { number = number; place = p; size = s; due = d }) ≡ refuses (record { number = number; place = q; size = t; due = e })
same_refuses number p q s t d e place size due i = refuses (record { number = number; place = place i; size = size i; due = due i })

-- ---- the version

-- the first four bytes tell it
pub version-front : (unit left : List ℕ) → length unit ≡ 4 → version_of (unit ++ left) ≡ version_of unit
version-front unit left long = ap (λ (n : ℕ). cond (n == magic Two) Two One) (word_front unit left long)

pub first-most : (v : Version) (n : ℕ) → n < 12 → n < first_size v
first-most One n less = omega (arith, less)
first-most Two n less = less

-- ---- the second unit

pub second-short : (v : Version) (unit left : List ℕ) → length left < count_in v unit * described_size v → second_opening v unit left ≡ refuses (truncated 0 (first_size v + length left))
second-short v unit left few = (let e : nat_lt (length left) (count_in v unit * described_size v) ≡ true = lt-ltb (length left) (count_in v unit * described_size v) few in rw e refl)

pub second-whole : (v : Version) (unit bytes left : List ℕ) → length bytes ≡ count_in v unit * described_size v
    → second_opening v unit (bytes ++ left) ≡ unless (first_refusal (first_size v + count_in v unit * described_size v) (transmissions_fields v (count_in v unit) (first_size v) bytes))
    (opens (header_in v unit (transmissions_in v unit (count_in v unit) bytes)) left)
second-whole v unit bytes left long =
    let size : ℕ = count_in v unit * described_size v in
    rw (whole_front bytes left size long, take_front bytes left size long, drop_front bytes left size long) refl

-- ---- the first

pub first-short : (v : Version) (want : Want) (left : List ℕ) → length left < first_size v → first_opening v want left ≡ refuses (truncated 0 (length left))
first-short v want left few = (let e : nat_lt (length left) (first_size v) ≡ true = lt-ltb (length left) (first_size v) few in rw e refl)

pub first-whole : (v : Version) (want : Want) (unit left : List ℕ) → length unit ≡ first_size v
    → first_opening v want (unit ++ left) ≡ unless (first_refusal (first_size v) (fields v want unit)) (second_opening v unit left)
first-whole v want unit left long =
    rw (whole_front unit left (first_size v) long)
    (ap (λ (u : List ℕ). unless (first_refusal (first_size v) (fields v want u)) (second_opening v u (drop (first_size v) (unit ++ left)))) (take_front unit left (first_size v) long)
    ∙ ap (λ (l : List ℕ). unless (first_refusal (first_size v) (fields v want unit)) (second_opening v unit l)) (drop_front unit left (first_size v) long))

-- ---- how long the text of a header is

pub first-long : (v : Version) (h : Header) → length (first_text v h) ≡ first_size v
unfolding first_text word_text half_word_text
first-long One h = refl
first-long Two h = refl

pub transmission-long : (v : Version) (s : Sending) → length (transmission_text v s) ≡ described_size v
unfolding word_text
transmission-long One s = refl
transmission-long Two s = refl

pub transmissions-text_long : (v : Version) (sends : List Sending) → length (flat_map (transmission_text v) sends) ≡ length sends * described_size v
transmissions-text_long v [] = omega arith
transmissions-text_long v (s ∷ ss) =
    let rest = transmissions-text_long v ss in
    let one = transmission-long v s in
    let more : length (s ∷ ss) * described_size v ≡ described_size v + length ss * described_size v = omega arith in
    omega (arith, length-append (transmission_text v s) (flat_map (transmission_text v) ss), rest, one, more)

pub text-long : (h : Header) → length (header_text h) ≡ first_size h.version + length h.sends * described_size h.version
text-long h = omega (arith, length-append (first_text h.version h) (flat_map (transmission_text h.version) h.sends), first-long h.version h, transmissions-text_long h.version h.sends)

-- ---- how much must have come before the beginning is known

abbrev DueIs : ℕ → Option Refusal → Type 0
DueIs size None = Unit {0}
DueIs size (Some refusal) = refusal.due ≡ size

refusal-due : (size : ℕ) (cs : List Check) → DueIs size (first_refusal size cs)
refusal-due size [] = tt
refusal-due size (c ∷ cs) = by_test c.passes (first_refusal size cs) (refusal-due size cs)
  where
    by_test : (t : Bool) (o : Option Refusal) → DueIs size o → DueIs size (cond t o (Some (refused_at c.number c.place size)))
    by_test true o is = is
    by_test false o is = refl

unless-due : (size n : ℕ) (o : Option Refusal) (after : Opening) → DueIs size o → n < size → n < opening_due after → n < opening_due (unless o after)
unless-due size n None after is less more = more
unless-due size n (Some refusal) after is less more = omega (arith, is, less)

pub second-due : (v : Version) (unit left : List ℕ) (n : ℕ) → n < first_size v + count_in v unit * described_size v → n ≤ first_size v + length left → n < opening_due (second_opening v unit left)
second-due v unit left n less came = by_test (nat_lt (length left) size) refl
  where
    size : ℕ
    size = count_in v unit * described_size v

    sends : List Sending
    sends = transmissions_in v unit (count_in v unit) (take size left)

    by_test : (t : Bool) → nat_lt (length left) size ≡ t → n < opening_due (cond t (refuses (truncated 0 (first_size v + length left)))
        (unless (first_refusal (first_size v + size) (transmissions_fields v (count_in v unit) (first_size v) (take size left))) (opens (header_in v unit sends) (drop size left))))
    by_test true e = omega (arith, came)
    by_test false e =
        unless-due (first_size v + size) n (first_refusal (first_size v + size) (transmissions_fields v (count_in v unit) (first_size v) (take size left)))
        (opens (header_in v unit sends) (drop size left))
        (refusal-due (first_size v + size) (transmissions_fields v (count_in v unit) (first_size v) (take size left))) less
        (let long = ap (λ (k : ℕ). k * described_size v) (transmissions-long v unit (count_in v unit) (take size left)) in omega (arith, text-long (header_in v unit sends), long, less))

pub first-due : (v : Version) (want : Want) (left : List ℕ) (n : ℕ) → n < first_size v → n ≤ length left → n < opening_due (first_opening v want left)
first-due v want left n less came =
    by_test (nat_lt (length left) (first_size v))
    (unless-due (first_size v) n (first_refusal (first_size v) (fields v want (take (first_size v) left))) (second_opening v (take (first_size v) left) (drop (first_size v) left))
    (refusal-due (first_size v) (fields v want (take (first_size v) left))) less
    (second-due v (take (first_size v) left) (drop (first_size v) left) n (omega (arith, less)) (omega (arith, less))))
  where
    by_test : (t : Bool) → n < opening_due (unless (first_refusal (first_size v) (fields v want (take (first_size v) left))) (second_opening v (take (first_size v) left) (drop (first_size v) left)))
        → n < opening_due (cond t (refuses (truncated 0 (length left)))
        (unless (first_refusal (first_size v) (fields v want (take (first_size v) left))) (second_opening v (take (first_size v) left) (drop (first_size v) left))))
    by_test true more = omega (arith, came)
    by_test false more = more

-- ---- what the units say where they are read

-- a part of the first unit, after what was read of it, of which not all came
pub first-stops : (want : Want) (place : ℕ) (before left unit input : List ℕ) (old mid new : Option (List ℕ)) (stop : StreamStop) → Takes old mid before → mid ≡ Some left → input ≡ before ++ left
    → place ≡ length before → length before + length unit ≤ first_size (version_of input) → EndsInUnit place mid new unit stop → StopsOpening (opening want input) old new stop
first-stops want place before left unit input old mid new stop took mid_is input_is at within ends =
    let long : length input ≡ length before + length left = ap length input_is ∙ length-append before left in
    stops-later (λ r. opening want input ≡ refuses r) (λ (n : ℕ). n < opening_due (opening want input)) old mid new before stop took
    (unit-stops (λ r. opening want input ≡ refuses (record r { size = length before + r.size })) (λ (n : ℕ). length before + n < opening_due (opening want input)) place left unit mid new stop mid_is
    (λ few. (
      length input + 1,
      first-short (version_of input) want input (omega (arith, few, long, within))
          ∙ same_refuses 6 (0 + length input) (place + length left) (length input) (length before + length left) (length input + 1) (length input + 1) (omega (arith, at, long)) long refl,
    ))
    (λ n few came. first-due (version_of input) want input (length before + n) (omega (arith, few, within)) (omega (arith, came, long)))
    ends)

-- the second, of which not all came
pub second-stops : (v : Version) (place : ℕ) (unit bytes input : List ℕ) (old new : Option (List ℕ)) (stop : StreamStop) → old ≡ Some input → place ≡ first_size v
    → length bytes ≡ count_in v unit * described_size v → EndsInUnit place old new bytes stop → StopsInSecond v (second_opening v unit input) old new stop
second-stops v place unit bytes input old new stop is at long ends =
    unit-stops (λ r. second_opening v unit input ≡ refuses (record r { size = first_size v + r.size }))
    (λ (n : ℕ). first_size v + n < opening_due (second_opening v unit input)) place input bytes old new stop is
    (λ few. (
      first_size v + length input + 1,
      second-short v unit input (omega (arith, few, long))
          ∙ same_refuses 6 (0 + (first_size v + length input)) (place + length input) (first_size v + length input) (first_size v + length input) (first_size v + length input + 1)
          (first_size v + length input + 1) (omega (arith, at)) refl refl,
    ))
    (λ n few came. second-due v unit input (first_size v + n) (omega (arith, few, long)) (omega (arith, came)))
    ends

-- the second, which came whole
pub second-told : (v : Version) (place : ℕ) (unit bytes left input : List ℕ) (old new : Option (List ℕ)) (r : Result (List Sending) StreamStop) → old ≡ Some (bytes ++ left) → new ≡ Some left
    → input ≡ bytes ++ left → place ≡ first_size v → length bytes ≡ count_in v unit * described_size v
    → TransmissionsAreRead v unit (count_in v unit) place bytes r → TakesSecond v unit input old new r
second-told v place unit bytes left input old new r old_is new_is input_is at long read = by_result r read
  where
    size : ℕ
    size = first_size v + count_in v unit * described_size v

    sends : List Sending
    sends = transmissions_in v unit (count_in v unit) bytes

    -- it is as its fields are
    by_fields : (o : Option Refusal) → first_refusal size (transmissions_fields v (count_in v unit) place bytes) ≡ o → second_opening v unit input ≡ unless o (opens (header_in v unit sends) left)
    by_fields o is =
        ap (second_opening v unit) input_is ∙ second-whole v unit bytes left long
        ∙ ap (λ (p : ℕ). unless (first_refusal size (transmissions_fields v (count_in v unit) p bytes)) (opens (header_in v unit sends) left)) (sym at)
        ∙ ap (λ r. unless r (opens (header_in v unit sends) left)) is

    by_result : (r : Result (List Sending) StreamStop) → TransmissionsAreRead v unit (count_in v unit) place bytes r → TakesSecond v unit input old new r
    by_result (Ok given) (pass, is) = (bytes, left, input_is, new_is, long, by_fields None (pass size) ∙ ap (λ (ss : List Sending). opens (header_in v unit ss) left) (sym is))
    by_result (Err (Bad number p)) refused = (
      bytes,
      left,
      size,
      old_is,
      new_is,
      by_fields (Some (refused_at number p size)) (refused size) ∙ same_refuses number p p size (first_size v + length bytes) size size refl (omega (arith, long)) refl,
    )
    by_result (Err Fault) none = absurd none
    by_result (Err NoMemory) none = absurd none
