-- What is read as a header is its text.
use Rattle.std.proofs.Common.{◌≡◌, ℕ, zero, suc, ◌+◌, ◌*◌, ◌≤◌, Bool, true, false, cond, nat_lt, List, [], ◌∷◌, ◌++◌, length, take, drop, slice_index, flat_map, Some, None, refl, ap, sym, subst, ◌∙◌, append_assoc, arith}
use Rattle.std.specs.declared.option.Option.{Option}
use Rattle.std.proofs.lemmas.Bool.{ltb-false}
use Rattle.std.proofs.lemmas.List.{take-append-drop, length-take-le, length-drop}
use Rattle.model_sender.specs.CircularBuffer.{Match}
use Rattle.rate_match.specs.Sendings.{common}
use Rattle.rate_match.specs.declared.sends.Sending.{Sending}
use Rattle.coded_stream.specs.Header.{Header, word, word_text, magic, kind_code, kind_of, first_text, transmission_text, header_text, IsHeader}
use Rattle.coded_stream.specs.Units.{Refusal, truncated}
use Rattle.coded_stream.specs.Opening.{Opening, opens, refuses, unless, first_refusal, is_wanted, version_of, first_size, described_size, count_in, tb_in, limit_in, match_in, fields, transmissions_fields, transmission_in, transmissions_in, header_in, second_opening, first_opening, opening}
use Rattle.coded_stream.specs.Stream.{AreBytes}
use Rattle.coded_stream.specs.Takes.{AreSentBy}
use Rattle.coded_stream.specs.declared.version.Version.{Version}
use Rattle.coded_stream.specs.declared.version.Version.TheVariants.{One, Two}
use Rattle.coded_stream.specs.declared.kind.Want.{Want}
use Rattle.coded_stream.proofs.NumbersSpelled.{indexed, indexed-all, word-at, half-at, limit-at}
use Rattle.coded_stream.proofs.Passed.{AllPass, all_pass, ArePassed, fields-passed, code-of_kind}
use Rattle.coded_stream.proofs.HeaderTransmissionSteps.{transmissions-long, transmissions-accepted}
use Rattle.coded_stream.proofs.HeaderBegun.{lawful, header-accepted}
use Rattle.coded_stream.proofs.BodySpelled.{bytes-suffix}

-- ---- the first unit

-- of transmissions that are those of the second
record AreIn (v : Version) (unit : List ℕ) (sends : List Sending) : Type 0 where
  limit : (common sends).limit ≡ limit_in v unit
  one : v ≡ One → common sends ≡ match_in unit
  count : length sends ≡ count_in v unit

magic-at : (xs : List ℕ) (v : Version) → AreBytes xs → word xs 0 ≡ magic v → word_text (magic v) ≡ slice_index xs 0 ∷ slice_index xs 1 ∷ slice_index xs 2 ∷ slice_index xs 3 ∷ []
magic-at xs v are is = ap word_text (sym is) ∙ word-at xs 0 are

first-spelled : (v : Version) (want : Want) (unit : List ℕ) (sends : List Sending) → length unit ≡ first_size v → AreBytes unit → ArePassed v want unit → AreIn v unit sends →
    first_text v (header_in v unit sends) ≡ unit
unfolding first_text indexed
first-spelled One want unit sends long are p in_unit =
    let one : common sends ≡ match_in unit = in_unit.one refl in
    let em = magic-at unit One are p.first in
    let eq : kind_code (kind_of (slice_index unit 4)) ≡ slice_index unit 4 = code-of_kind want (slice_index unit 4) p.kind in
    let en : length sends ≡ slice_index unit 7 = in_unit.count in
    let et = half-at unit 8 are in
    let eg = ap (λ (n : Match). word_text n.g) one ∙ word-at unit 10 are in
    let el = limit-at unit 14 (common sends).limit are in_unit.limit in
    (λ i. em i ++ eq i ∷ (one i).qm ∷ (one i).nl ∷ en i ∷ [] ++ et i ++ eg i ++ el i) ∙ sym (indexed-all 0 18 unit long)
first-spelled Two want unit sends long are p in_unit =
    let em = magic-at unit Two are p.first in
    let eq : kind_code (kind_of (slice_index unit 4)) ≡ slice_index unit 4 = code-of_kind want (slice_index unit 4) p.kind in
    let en : length sends ≡ slice_index unit 5 = in_unit.count in
    let et = half-at unit 6 are in
    let el = limit-at unit 8 (common sends).limit are in_unit.limit in
    (λ i. em i ++ eq i ∷ en i ∷ [] ++ et i ++ el i) ∙ sym (indexed-all 0 12 unit long)

-- ---- the second

transmission-spelled : (v : Version) (unit bytes : List ℕ) → length bytes ≡ described_size v → AreBytes bytes → transmission_text v (transmission_in v unit bytes) ≡ bytes
unfolding indexed
transmission-spelled One unit bytes long are = sym (indexed-all 0 1 bytes long)
transmission-spelled Two unit bytes long are =
    let eg = word-at bytes 3 are in
    (λ i. slice_index bytes 0 ∷ slice_index bytes 1 ∷ slice_index bytes 2 ∷ eg i) ∙ sym (indexed-all 0 7 bytes long)

bytes-prefix : (xs ys : List ℕ) → AreBytes (xs ++ ys) → AreBytes xs
bytes-prefix [] ys are = tt
bytes-prefix (x ∷ xs) ys (small, are) = (small, bytes-prefix xs ys are)

transmissions-spelled : (v : Version) (unit : List ℕ) (count : ℕ) (bytes : List ℕ) → length bytes ≡ count * described_size v → AreBytes bytes →
    flat_map (transmission_text v) (transmissions_in v unit count bytes) ≡ bytes
transmissions-spelled v unit zero bytes long are = none bytes (omega (arith, long))
  where
    none : (xs : List ℕ) → length xs ≡ 0 → [] ≡ xs
    none [] e = refl
    none (x ∷ xs) e = absurd (omega (arith, e))
transmissions-spelled v unit (suc count) bytes long are =
    let size : ℕ = described_size v in
    let product : suc count * size ≡ size + count * size = omega arith in
    let enough : size ≤ length bytes = omega (arith, long, product) in
    let split : take size bytes ++ drop size bytes ≡ bytes = take-append-drop size bytes in
    let B : List ℕ → Type 0 = λ xs. AreBytes xs in
    let both : AreBytes (take size bytes ++ drop size bytes) = subst B (sym split) are in
    ap (λ (xs : List ℕ). xs ++ flat_map (transmission_text v) (transmissions_in v unit count (drop size bytes)))
    (transmission-spelled v unit (take size bytes) (length-take-le size bytes enough) (bytes-prefix (take size bytes) (drop size bytes) both))
    ∙ ap (λ (xs : List ℕ). take size bytes ++ xs)
    (transmissions-spelled v unit count (drop size bytes) (omega (arith, length-drop size bytes, long, product)) (bytes-suffix (take size bytes) (drop size bytes) both))
    ∙ split

-- ---- both

pub record IsOpened (want : Want) (input : List ℕ) (h : Header) (left : List ℕ) : Type 0 where
  pub header : IsHeader h
  pub wanted : is_wanted want (kind_code h.kind) ≡ true
  pub input_is : input ≡ header_text h ++ left

record Unless (o : Option Refusal) (x : Opening) (h : Header) (left : List ℕ) : Type 0 where
  none : o ≡ None
  rest : x ≡ opens h left

unless-opens : (o : Option Refusal) (x : Opening) (h : Header) (left : List ℕ) → unless o x ≡ opens h left → Unless o x h left
unless-opens None x h left e = record { none = refl; rest = e }
unless-opens (Some r) x h left e = absurd (let no : ⊥ = cc in no)

-- in version One the first unit has the rate matching of all
common-one : (v : Version) (unit : List ℕ) (count : ℕ) (bytes : List ℕ) → 1 ≤ count → v ≡ One → common (transmissions_in v unit count bytes) ≡ match_in unit
common-one v unit zero bytes some is = absurd (omega (arith, some))
common-one One unit (suc count) bytes some is = refl
common-one Two unit (suc count) bytes some is = absurd (let no : ⊥ = cc in no)

both : (v : Version) (want : Want) (unit bytes input : List ℕ) (h : Header) (left : List ℕ) → length unit ≡ first_size v → AreBytes unit → ArePassed v want unit
    → length bytes ≡ count_in v unit * described_size v → AreBytes bytes → AllPass (transmissions_fields v (count_in v unit) (first_size v) bytes)
    → input ≡ unit ++ bytes ++ left → header_in v unit (transmissions_in v unit (count_in v unit) bytes) ≡ h → IsOpened want input h left
both v want unit bytes input h left long are p second are_bytes pass input_is is =
    let count : ℕ = count_in v unit in
    let sends : List Sending = transmissions_in v unit count bytes in
    let a = transmissions-accepted v unit count (first_size v) bytes p.matching p.sent p.most pass in
    let sent : AreSentBy v unit sends = record { sent = a.sent; held = a.held; limit = a.limit; count = transmissions-long v unit count bytes } in
    let in_unit : AreIn v unit sends = record { limit = a.limit; one = common-one v unit count bytes p.sent; count = transmissions-long v unit count bytes } in
    let P : Header → Type 0 = λ n. IsOpened want input n left in
    subst P is (record {
      header = header-accepted v (kind_of (slice_index unit 4)) unit (tb_in v unit) sends (lawful v want unit (tb_in v unit) sends p sent refl) sent;
      wanted = ap (is_wanted want) (code-of_kind want (slice_index unit 4) p.kind) ∙ p.kind;
      input_is =
          input_is
          ∙ ap (λ (xs : List ℕ). xs ++ left)
          (ap (λ (xs : List ℕ). xs ++ bytes) (sym (first-spelled v want unit sends long are p in_unit))
          ∙ ap (λ (xs : List ℕ). first_text v (header_in v unit sends) ++ xs) (sym (transmissions-spelled v unit count bytes second are_bytes)));
    })

opened : (v : Version) (want : Want) (input : List ℕ) (h : Header) (left : List ℕ) → AreBytes input → first_opening v want input ≡ opens h left → IsOpened want input h left
opened v want input h left are is = by_first (nat_lt (length input) (first_size v)) refl is
  where
    unit : List ℕ
    unit = take (first_size v) input

    more : List ℕ
    more = drop (first_size v) input

    size : ℕ
    size = count_in v unit * described_size v

    by_second : (t : Bool) → first_size v ≤ length input → ArePassed v want unit → nat_lt (length more) size ≡ t
        → cond t (refuses (truncated 0 (first_size v + length more))) (unless (first_refusal (first_size v + size) (transmissions_fields v (count_in v unit) (first_size v) (take size more)))
        (opens (header_in v unit (transmissions_in v unit (count_in v unit) (take size more))) (drop size more))) ≡ opens h left
        → IsOpened want input h left
    by_second true long p e is = absurd (let no : ⊥ = cc in no)
    by_second false long p e is =
        let bytes : List ℕ = take size more in
        let enough : size ≤ length more = ltb-false (length more) size e in
        let u = unless-opens (first_refusal (first_size v + size) (transmissions_fields v (count_in v unit) (first_size v) bytes))
        (opens (header_in v unit (transmissions_in v unit (count_in v unit) bytes)) (drop size more)) h left is in
        let same : header_in v unit (transmissions_in v unit (count_in v unit) bytes) ≡ h = cc (u.rest) in
        let rest : drop size more ≡ left = cc (u.rest) in
        let parted : more ≡ bytes ++ left = sym (take-append-drop size more) ∙ ap (λ (xs : List ℕ). bytes ++ xs) rest in
        let whole : input ≡ unit ++ (bytes ++ left) = sym (take-append-drop (first_size v) input) ∙ ap (λ (xs : List ℕ). unit ++ xs) parted in
        let B : List ℕ → Type 0 = λ xs. AreBytes xs in
        let all : AreBytes (unit ++ (bytes ++ left)) = subst B whole are in
        both v want unit bytes input h left (length-take-le (first_size v) input long) (bytes-prefix unit (bytes ++ left) all) p (length-take-le size more enough)
        (bytes-prefix bytes left (bytes-suffix unit (bytes ++ left) all))
        (all_pass (first_size v + size) (transmissions_fields v (count_in v unit) (first_size v) bytes) u.none) (whole ∙ sym (append_assoc unit bytes left)) same

    by_first : (t : Bool) → nat_lt (length input) (first_size v) ≡ t →
        cond t (refuses (truncated 0 (length input))) (unless (first_refusal (first_size v) (fields v want unit)) (second_opening v unit more)) ≡ opens h left → IsOpened want input h left
    by_first true e is = absurd (let no : ⊥ = cc in no)
    by_first false e is =
        let u = unless-opens (first_refusal (first_size v) (fields v want unit)) (second_opening v unit more) h left is in
        by_second (nat_lt (length more) size) (ltb-false (length input) (first_size v) e) (fields-passed v want unit u.none) refl u.rest

pub opening-spelled : (want : Want) (input : List ℕ) (h : Header) (left : List ℕ) → AreBytes input → opening want input ≡ opens h left → IsOpened want input h left
opening-spelled want input h left are is = opened (version_of input) want input h left are is
