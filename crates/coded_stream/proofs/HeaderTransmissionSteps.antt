-- The transmissions of a header, one after the other.
use Rattle.std.proofs.Common.{◌≡◌, ℕ, zero, suc, ◌+◌, ◌-◌, ◌*◌, ◌<◌, ◌≤◌, List, [], ◌∷◌, ◌++◌, length, take, drop, All, IfOk, Ok, Err, refl, ap, sym, subst, ◌∙◌, add-one, arith}
use Rattle.std.specs.declared.result.Result.{Result}
use Rattle.std.proofs.lemmas.List.{drop-drop}
use Rattle.std.proofs.lemmas.Bool.{leb-true}
use Rattle.rate_match.specs.Matching.{IsMatch}
use Rattle.rate_match.specs.Sendings.{AreSendings, common}
use Rattle.rate_match.specs.declared.sends.Sending.{Sending}
use Rattle.coded_stream.specs.Header.{AreHeld}
use Rattle.coded_stream.specs.Opening.{Check, first_refusal, described_size, count_in, transmission_fields, transmissions_fields, transmission_in, transmissions_in, limit_in, match_in}
use Rattle.coded_stream.specs.Fields.{IsFirst, Pass, AreRefused, TransmissionsAreRead}
use Rattle.coded_stream.specs.Takes.{AreSentBy}
use Rattle.coded_stream.specs.declared.stop.StreamStop.{StreamStop}
use Rattle.coded_stream.specs.declared.version.Version.{Version}
use Rattle.coded_stream.specs.declared.version.Version.TheVariants.{One, Two}
use Rattle.coded_stream.proofs.Passed.{AllPass, all_pass, pass_first, pass_rest, refused_after_pass, refused_front, refused_as}

pub transmissions-long : (v : Version) (unit : List ℕ) (count : ℕ) (bytes : List ℕ) → length (transmissions_in v unit count bytes) ≡ count
transmissions-long v unit zero bytes = refl
transmissions-long v unit (suc count) bytes = ap suc (transmissions-long v unit count (drop (described_size v) bytes))

-- ---- one more

drop_first : (size n : ℕ) (bytes : List ℕ) → drop (suc n * size) bytes ≡ drop (n * size) (drop size bytes)
drop_first size n bytes =
    ap (λ (k : ℕ). drop k bytes) (let e : suc n * size ≡ size + n * size = omega arith in e) ∙ sym (drop-drop (n * size) size bytes)

more : (v : Version) (unit : List ℕ) (n : ℕ) (bytes : List ℕ)
    → transmissions_in v unit (suc n) bytes ≡ transmissions_in v unit n bytes ++ transmission_in v unit (take (described_size v) (drop (n * described_size v) bytes)) ∷ []
more v unit zero bytes =
    ap (λ (k : ℕ). transmission_in v unit (take (described_size v) (drop k bytes)) ∷ []) (let e : 0 ≡ 0 * described_size v = omega arith in e)
more v unit (suc n) bytes =
    ap (λ (ss : List Sending). transmission_in v unit (take (described_size v) bytes) ∷ ss)
    (more v unit n (drop (described_size v) bytes)
    ∙ ap (λ (xs : List ℕ). transmissions_in v unit n (drop (described_size v) bytes) ++ transmission_in v unit (take (described_size v) xs) ∷ []) (sym (drop_first (described_size v) n bytes)))

pub transmissions-more : (v : Version) (unit : List ℕ) (n : ℕ) (bytes : List ℕ)
    → transmissions_in v unit (n + 1) bytes ≡ transmissions_in v unit n bytes ++ transmission_in v unit (take (described_size v) (drop (n * described_size v) bytes)) ∷ []
transmissions-more v unit n bytes = ap (λ (k : ℕ). transmissions_in v unit k bytes) (add-one n) ∙ more v unit n bytes

-- the checks that are due from a transmission on begin with its own
pub fields-step : (v : Version) (count index place : ℕ) (bytes : List ℕ) → index < count
    → transmissions_fields v (count - index) (place + index * described_size v) (drop (index * described_size v) bytes)
    ≡ transmission_fields v (place + index * described_size v) (take (described_size v) (drop (index * described_size v) bytes))
    ++ transmissions_fields v (count - (index + 1)) (place + (index + 1) * described_size v) (drop ((index + 1) * described_size v) bytes)
fields-step v count index place bytes less =
    let size : ℕ = described_size v in
    let at : ℕ = place + index * size in
    let rest : List ℕ = drop (index * size) bytes in
    ap (λ (n : ℕ). transmissions_fields v n at rest) (let e : count - index ≡ suc (count - (index + 1)) = omega (arith, less) in e)
    ∙ ap (λ (p : ℕ). transmission_fields v at (take size rest) ++ transmissions_fields v (count - (index + 1)) p (drop size rest))
    (let e : place + index * size + size ≡ place + (index + 1) * size = omega arith in e)
    ∙ ap (λ (xs : List ℕ). transmission_fields v at (take size rest) ++ transmissions_fields v (count - (index + 1)) (place + (index + 1) * size) xs)
    (drop-drop size (index * size) bytes ∙ ap (λ (k : ℕ). drop k bytes) (let e : index * size + size ≡ (index + 1) * size = omega arith in e))

-- those before a transmission pass
abbrev pub PassTo : Version → (count index place : ℕ) → List ℕ → Type 0
PassTo v count index place bytes = (size : ℕ) → first_refusal size (transmissions_fields v count place bytes)
    ≡ first_refusal size (transmissions_fields v (count - index) (place + index * described_size v) (drop (index * described_size v) bytes))

-- the checks of a transmission
abbrev pub fields_at : Version → (index place : ℕ) → List ℕ → List Check
fields_at v index place bytes = transmission_fields v (place + index * described_size v) (take (described_size v) (drop (index * described_size v) bytes))

pub pass-none : (v : Version) (count place : ℕ) (bytes : List ℕ) → PassTo v count 0 place bytes
pass-none v count place bytes size =
    (λ i. first_refusal size (transmissions_fields v (none i) (start i) (drop (front i) bytes)))
  where
    none : count ≡ count - 0
    none = omega arith

    start : place ≡ place + 0 * described_size v
    start = omega arith

    front : 0 ≡ 0 * described_size v
    front = omega arith

pub pass-more : (v : Version) (count index place : ℕ) (bytes : List ℕ) → index < count
    → PassTo v count index place bytes → Pass (fields_at v index place bytes) → PassTo v count (index + 1) place bytes
pass-more v count index place bytes less before pass size =
    before size ∙ ap (first_refusal size) (fields-step v count index place bytes less)
    ∙ refused_after_pass size (fields_at v index place bytes) _ (all_pass size (fields_at v index place bytes) (pass size))

-- where it's the first that doesn't pass
pub refused-here : (v : Version) (count index place : ℕ) (bytes : List ℕ) (stop : StreamStop) → index < count → PassTo v count index place bytes → AreRefused (fields_at v index place bytes) stop
    → AreRefused (transmissions_fields v count place bytes) stop
refused-here v count index place bytes stop less before refused =
    refused_as (transmissions_fields v count place bytes) (fields_at v index place bytes ++ rest) stop
    (λ size. before size ∙ ap (first_refusal size) (fields-step v count index place bytes less))
    (refused_front (fields_at v index place bytes) rest stop refused)
  where
    rest : List Check
    rest = transmissions_fields v (count - (index + 1)) (place + (index + 1) * described_size v) (drop ((index + 1) * described_size v) bytes)

-- ---- those whose fields pass are accepted

pub record IsGood (v : Version) (unit : List ℕ) (s : Sending) : Type 0 where
  pub version : s.rv ≤ 3
  pub lawful : IsMatch s.m
  pub limit : s.m.limit ≡ limit_in v unit
  pub one : v ≡ One → s.m ≡ match_in unit

transmission-good : (v : Version) (unit : List ℕ) (place : ℕ) (bytes : List ℕ) → IsFirst v unit → AllPass (transmission_fields v place bytes) → IsGood v unit (transmission_in v unit bytes)
transmission-good One unit place bytes first pass = record { version = leb-true _ 3 pass.0; lawful = first; limit = refl; one = λ same. refl }
transmission-good Two unit place bytes first pass = record {
  version = leb-true _ 3 pass.1.1.0;
  lawful = record { qm = pass.0; nl = pass.1.0; g = pass.1.1.1.0 };
  limit = refl;
  one = λ same. absurd (let no : ⊥ = cc in no);
}

transmissions-good : (v : Version) (unit : List ℕ) (count place : ℕ) (bytes : List ℕ) → IsFirst v unit → AllPass (transmissions_fields v count place bytes) →
    All (IsGood v unit) (transmissions_in v unit count bytes)
transmissions-good v unit zero place bytes first pass k d inside = absurd (omega (arith, inside))
transmissions-good v unit (suc count) place bytes first pass zero d inside =
    transmission-good v unit place (take (described_size v) bytes) first
    (pass_first (transmission_fields v place (take (described_size v) bytes)) (transmissions_fields v count (place + described_size v) (drop (described_size v) bytes)) pass)
transmissions-good v unit (suc count) place bytes first pass (suc k) d inside =
    transmissions-good v unit count (place + described_size v) (drop (described_size v) bytes) first
    (pass_rest (transmission_fields v place (take (described_size v) bytes)) (transmissions_fields v count (place + described_size v) (drop (described_size v) bytes)) pass) k d
    (omega (arith, inside))

-- transmissions with a common buffer, and in version One with a common rate matching
pub record AreAccepted (v : Version) (unit : List ℕ) (sends : List Sending) : Type 0 where
  pub sent : AreSendings sends
  pub held : AreHeld v sends
  pub limit : (common sends).limit ≡ limit_in v unit

common-good : (v : Version) (unit : List ℕ) (sends : List Sending) → 1 ≤ length sends → All (IsGood v unit) sends → (s : Sending) × (common sends ≡ s.m) × IsGood v unit s
common-good v unit [] some good = absurd (omega (arith, some))
common-good v unit (s ∷ ss) some good = (s, refl, good 0 s (omega arith))

accepted : (v : Version) (unit : List ℕ) (sends : List Sending) → 1 ≤ length sends → length sends ≤ 8 → All (IsGood v unit) sends → AreAccepted v unit sends
accepted v unit sends some few good =
    let c = common-good v unit sends some good in
    let limit : (common sends).limit ≡ limit_in v unit = ap (λ m. m.limit) c.1 ∙ c.2.limit in
    record {
      sent = record {
        some = some;
        few = few;
        versions = λ k d inside. (good k d inside).version;
        lawful = λ k d inside. (good k d inside).lawful;
        buffer = λ k d inside. (good k d inside).limit ∙ sym limit;
      };
      held = λ one k d inside. (good k d inside).one one ∙ sym (c.1 ∙ c.2.one one);
      limit = limit;
    }

pub transmissions-accepted : (v : Version) (unit : List ℕ) (count place : ℕ) (bytes : List ℕ) → IsFirst v unit → 1 ≤ count → count ≤ 8 → AllPass (transmissions_fields v count place bytes)
    → AreAccepted v unit (transmissions_in v unit count bytes)
transmissions-accepted v unit count place bytes first some few pass =
    let long = transmissions-long v unit count bytes in
    accepted v unit (transmissions_in v unit count bytes) (omega (arith, long, some)) (omega (arith, long, few)) (transmissions-good v unit count place bytes first pass)

-- the buffer of those that were read so far
limits : (v : Version) (unit bytes : List ℕ) → (transmission_in v unit bytes).m.limit ≡ limit_in v unit
limits One unit bytes = refl
limits Two unit bytes = refl

pub common-limit : (v : Version) (unit : List ℕ) (count : ℕ) (bytes : List ℕ) → 1 ≤ count → (common (transmissions_in v unit count bytes)).limit ≡ limit_in v unit
common-limit v unit zero bytes some = absurd (omega (arith, some))
common-limit v unit (suc count) bytes some = limits v unit (take (described_size v) bytes)

-- what was read of them is accepted
pub sent-by : (v : Version) (unit : List ℕ) (count place : ℕ) (bytes : List ℕ) (r : Result (List Sending) StreamStop) → IsFirst v unit → 1 ≤ count → count ≤ 8 → count ≡ count_in v unit
    → TransmissionsAreRead v unit count place bytes r → IfOk r (AreSentBy v unit)
sent-by v unit count place bytes (Ok sends) first some few is (pass, read) =
    let a = transmissions-accepted v unit count place bytes first some few (all_pass 0 (transmissions_fields v count place bytes) (pass 0)) in
    subst (AreSentBy v unit) (sym read) (record { sent = a.sent; held = a.held; limit = a.limit; count = transmissions-long v unit count bytes ∙ is })
sent-by v unit count place bytes (Err stop) first some few is read = tt
