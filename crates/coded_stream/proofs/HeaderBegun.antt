-- The header that was read from two units.
use Rattle.std.proofs.Common.{◌≡◌, ℕ, ◌+◌, ◌*◌, ◌<◌, ◌≤◌, true, List, ◌++◌, length, take, slice_index, Some, None, refl, ap, sym, subst, ◌∙◌, arith}
use Rattle.std.specs.declared.option.Option.{Option}
use Rattle.std.proofs.lemmas.List.{length-take-le}
use Rattle.edge_io.specs.Edge.{Takes}
use Rattle.edge_io.proofs.Told.{told_rest}
use Rattle.rate_match.specs.Sendings.{common}
use Rattle.rate_match.specs.Fitting.{fits_all}
use Rattle.rate_match.proofs.FitTest.{fits_all-true}
use Rattle.rate_match.specs.declared.sends.Sending.{Sending}
use Rattle.coded_stream.specs.Limit.{is_limit}
use Rattle.coded_stream.specs.Header.{Header, kind_of, header_text, IsHeader}
use Rattle.coded_stream.specs.Opening.{unless, first_refusal, version_of, first_size, described_size, count_in, tb_in, fields, header_in, second_opening, first_opening, opening, refuses}
use Rattle.coded_stream.specs.Fields.{Pass, AreRefused}
use Rattle.coded_stream.specs.Takes.{opening_due, StopsOpening, StopsInSecond, AreSentBy}
use Rattle.coded_stream.specs.declared.version.Version.{Version}
use Rattle.coded_stream.specs.declared.version.Version.TheVariants.{One, Two}
use Rattle.coded_stream.specs.declared.kind.Kind.{Kind}
use Rattle.coded_stream.specs.declared.kind.Want.{Want}
use Rattle.coded_stream.proofs.Passed.{ArePassed}
use Rattle.coded_stream.specs.declared.stop.StreamStop.{StreamStop}
use Rattle.coded_stream.specs.declared.stop.StreamStop.TheVariants.{Bad, Fault, NoMemory}
use Rattle.coded_stream.proofs.Stopping.{stops-later, stops-as}
use Rattle.coded_stream.proofs.OpeningSteps.{same_refuses, first-whole, text-long}

-- the first unit, as it was read
pub record IsUnit (v : Version) (unit : List ℕ) (old new : Option (List ℕ)) : Type 0 where
  pub long : length unit ≡ first_size v
  pub took : Takes old new unit
  pub version : (left : List ℕ) → version_of (unit ++ left) ≡ v

most : (v : Version) → first_size v ≤ 18
most One = omega arith
most Two = omega arith

pub unit-is : (v : Version) (size : ℕ) (room : List ℕ) (old new : Option (List ℕ)) → size ≡ first_size v → length room ≡ 18 → Takes old new (take (first_size v) room)
    → ((left : List ℕ) → version_of (take (first_size v) room ++ left) ≡ v) → IsUnit v (take size room) old new
unit-is v size room old new is long took version =
    let P : ℕ → Type 0 = λ n. IsUnit v (take n room) old new in
    subst P (sym is) (record { long = length-take-le (first_size v) room (omega (arith, long, most v)); took = took; version = version })

-- the beginning, by its first unit
pub by-unit : (v : Version) (want : Want) (unit left input : List ℕ) (old new : Option (List ℕ)) → IsUnit v unit old new → input ≡ unit ++ left
    → opening want input ≡ unless (first_refusal (first_size v) (fields v want unit)) (second_opening v unit left)
by-unit v want unit left input old new u is =
    ap (opening want) is ∙ ap (λ (w : Version). first_opening w want (unit ++ left)) (u.version left) ∙ first-whole v want unit left u.long

-- where its fields pass, by the second
pub by-second : (v : Version) (want : Want) (unit left input : List ℕ) (old new : Option (List ℕ)) → IsUnit v unit old new → input ≡ unit ++ left →
    first_refusal (first_size v) (fields v want unit) ≡ None
    → opening want input ≡ second_opening v unit left
by-second v want unit left input old new u is pass =
    by-unit v want unit left input old new u is ∙ ap (λ r. unless r (second_opening v unit left)) pass

-- a field of it is refused
pub first-refused : (v : Version) (want : Want) (unit input : List ℕ) (old new : Option (List ℕ)) (stop : StreamStop) → IsUnit v unit old new → old ≡ Some input
    → AreRefused (fields v want unit) stop → StopsOpening (opening want input) old new stop
first-refused v want unit input old new (Bad number place) u is refused =
    let t = told_rest old new unit input u.took is in (
      unit,
      t.left,
      first_size v,
      t.old_is,
      t.new_is,
      by-unit v want unit t.left input old new u t.input_is
          ∙ ap (λ r. unless r (second_opening v unit t.left)) (refused (first_size v))
          ∙ same_refuses number place place _ (length unit) _ _ refl (sym u.long) refl,
    )
first-refused v want unit input old new Fault u is none = absurd none
first-refused v want unit input old new NoMemory u is none = absurd none

-- the second unit stops it
pub begun-stops : (v : Version) (want : Want) (unit input : List ℕ) (old mid new : Option (List ℕ)) (stop : StreamStop) → IsUnit v unit old mid → old ≡ Some input
    → Pass (fields v want unit)
    → ((left : List ℕ) → mid ≡ Some left → StopsInSecond v (second_opening v unit left) mid new stop) → StopsOpening (opening want input) old new stop
begun-stops v want unit input old mid new stop u is pass next =
    let t = told_rest old mid unit input u.took is in
    let same = by-second v want unit t.left input old mid u t.input_is (pass (first_size v)) in
    let long : length unit ≡ first_size v = u.long in
    let rest = second_opening v unit t.left in
    stops-later (λ r. opening want input ≡ refuses r) (λ (n : ℕ). n < opening_due (opening want input)) old mid new unit stop u.took
    (stops-as (λ r. rest ≡ refuses (record r { size = first_size v + r.size })) (λ r. opening want input ≡ refuses (record r { size = length unit + r.size }))
    (λ (n : ℕ). first_size v + n < opening_due rest) (λ (n : ℕ). length unit + n < opening_due (opening want input)) mid new stop
    (λ r says. same ∙ says ∙ ap (λ (n : ℕ). refuses (record r { size = n + r.size })) (sym long))
    (λ n few. omega (arith, few, long, ap opening_due same))
    (next t.left t.new_is))

pub header-is : (v : Version) (kind : Kind) (tb : ℕ) (unit : List ℕ) (sends : List Sending) → kind ≡ kind_of (slice_index unit 4) → tb ≡ tb_in v unit
    → header_in v unit sends ≡ record { version = v; kind = kind; tb = tb; sends = sends }
header-is v kind tb unit sends kind_is tb_is i = record { version = v; kind = sym kind_is i; tb = sym tb_is i; sends = sends }

-- what the program says of it
pub record IsLawful (tb : ℕ) (sends : List Sending) : Type 0 where
  pub some : 1 ≤ tb
  pub few : tb ≤ 18722
  pub limited : is_limit (common sends).limit ≡ true
  pub fits : fits_all (common sends).limit tb ≡ true

pub lawful : (v : Version) (want : Want) (unit : List ℕ) (tb : ℕ) (sends : List Sending) → ArePassed v want unit → AreSentBy v unit sends → tb ≡ tb_in v unit → IsLawful tb sends
lawful v want unit tb sends passed are tb_is =
    let P : ℕ → Type 0 = λ n. IsLawful n sends in
    subst P (sym tb_is) (record {
      some = passed.some;
      few = passed.few;
      limited = ap is_limit are.limit ∙ passed.limited;
      fits = ap (λ limit. fits_all limit (tb_in v unit)) are.limit ∙ passed.fits;
    })

pub header-accepted : (v : Version) (kind : Kind) (unit : List ℕ) (tb : ℕ) (sends : List Sending) → IsLawful tb sends → AreSentBy v unit sends →
    IsHeader (record { version = v; kind = kind; tb = tb; sends = sends })
header-accepted v kind unit tb sends is are = record {
  some = is.some;
  few = is.few;
  sent = are.sent;
  held = are.held;
  limited = is.limited;
  fits = fits_all-true (common sends).limit tb is.fits;
}

-- how long it is, as the program counts it
pub place-is : (h : Header) (unit : List ℕ) (first second : ℕ) → AreSentBy h.version unit h.sends → first ≡ first_size h.version → second ≡ count_in h.version unit * described_size h.version
    → first + second ≡ length (header_text h)
place-is h unit first second are first_is second_is =
    (λ i. first_is i + second_is i) ∙ ap (λ (n : ℕ). first_size h.version + n * described_size h.version) (sym are.count) ∙ sym (text-long h)
