-- The text of an accepted header is read as this header.
use Rattle.std.proofs.Common.{◌≡◌, ℕ, zero, suc, ◌+◌, ◌*◌, ◌^◌, ◌<◌, ◌≤◌, true, ◌&&◌, nat_le, List, [], ◌∷◌, ◌++◌, length, take, drop, slice_index, flat_map, All, Some, None, refl, ap, sym, ◌∙◌, append_assoc, arith}
use Rattle.std.specs.declared.option.Option.{Option}
use Rattle.std.proofs.lemmas.Bool.{and_parts, and_from, le-leb, leb-true, eq-eqb}
use Rattle.std.proofs.lemmas.Nat.{from_be_bytes-to_be_bytes_2, from_be_bytes-to_be_bytes_4}
use Rattle.model_sender.specs.CircularBuffer.{Match}
use Rattle.rate_match.specs.Matching.{IsMatch, is_qm, is_nl, is_g}
use Rattle.rate_match.specs.Sendings.{common}
use Rattle.rate_match.specs.Fitting.{fits_all}
use Rattle.rate_match.specs.declared.sends.Sending.{Sending}
use Rattle.rate_match.proofs.FitTest.{true-fits_all}
use Rattle.coded_stream.specs.Limit.{is_limit}
use Rattle.coded_stream.specs.Header.{Header, word, half_word, word_text, half_word_text, magic, kind_code, limit_code, limit_of_code, first_text, transmission_text, header_text, AreHeld, IsHeader}
use Rattle.coded_stream.specs.Opening.{is_wanted, version_of, first_size, described_size, count_in, tb_in, limit_in, match_in, fields, transmission_fields, transmissions_fields, transmission_in, transmissions_in, header_in, unless, second_opening, first_opening, opening, opens}
use Rattle.coded_stream.specs.declared.version.Version.{Version}
use Rattle.coded_stream.specs.declared.version.Version.TheVariants.{One, Two}
use Rattle.coded_stream.specs.declared.kind.Want.{Want}
use Rattle.coded_stream.proofs.Fronts.{take_front, drop_front}
use Rattle.coded_stream.proofs.Passed.{AllPass, none_refused, pass_both, kind-of_code}
use Rattle.coded_stream.proofs.Sizes.{match_bounded}
use Rattle.coded_stream.proofs.OpeningSteps.{first-long, transmission-long, transmissions-text_long, first-whole, second-whole}

-- ---- the fields of the first unit

record AreFields (v : Version) (h : Header) (unit : List ℕ) : Type 0 where
  first : word unit 0 ≡ magic v
  kind : slice_index unit 4 ≡ kind_code h.kind
  count : count_in v unit ≡ length h.sends
  tb : tb_in v unit ≡ h.tb
  limit : limit_in v unit ≡ (common h.sends).limit
  one : v ≡ One → match_in unit ≡ common h.sends

limit-small : (limit : Option ℕ) → is_limit limit ≡ true → limit_code limit < 2 ^ 32
limit-small None is = omega arith
limit-small (Some limit) is = (let p : limit ≤ 1000000 = leb-true limit 1000000 (and_parts (nat_le 1 limit) (nat_le limit 1000000) is).1 in omega (arith, p))

limit-of_code : (limit : Option ℕ) → is_limit limit ≡ true → limit_of_code (limit_code limit) ≡ limit
limit-of_code None is = refl
limit-of_code (Some zero) is = absurd (let p : 1 ≤ 0 = leb-true 1 0 (and_parts (nat_le 1 0) (nat_le 0 1000000) is).0 in omega (arith, p))
limit-of_code (Some (suc n)) is = refl

-- N_IR, written and read
limit-read : (limit : Option ℕ) (n : ℕ) → is_limit limit ≡ true → n ≡ limit_code limit → limit_of_code n ≡ limit
limit-read limit n is same = ap limit_of_code same ∙ limit-of_code limit is

common-lawful : (sends : List Sending) → 1 ≤ length sends → All (λ s. IsMatch s.m) sends → IsMatch (common sends)
common-lawful [] some each = absurd (omega (arith, some))
common-lawful (s ∷ ss) some each = each 0 s (omega arith)

text-fields : (v : Version) (h : Header) → IsHeader h → AreFields v h (first_text v h)
unfolding first_text word half_word word_text half_word_text
text-fields One h is =
    let m = common h.sends in
    let limit : limit_of_code (word (first_text One h) 14) ≡ m.limit = limit-read m.limit (word (first_text One h) 14) is.limited
    (from_be_bytes-to_be_bytes_4 (limit_code m.limit) (limit-small m.limit is.limited)) in
    let g : word (first_text One h) 10 ≡ m.g = from_be_bytes-to_be_bytes_4 m.g (let few = (match_bounded m (common-lawful h.sends is.sent.some is.sent.lawful)).few in omega (arith, few)) in
    record {
      first = refl;
      kind = refl;
      count = refl;
      tb = from_be_bytes-to_be_bytes_2 h.tb (let few = is.few in omega (arith, few));
      limit = limit;
      one = λ same i. record { qm = m.qm; nl = m.nl; g = g i; limit = limit i };
    }
text-fields Two h is =
    let m = common h.sends in
    record {
      first = refl;
      kind = refl;
      count = refl;
      tb = from_be_bytes-to_be_bytes_2 h.tb (let few = is.few in omega (arith, few));
      limit = limit-read m.limit (word (first_text Two h) 8) is.limited (from_be_bytes-to_be_bytes_4 (limit_code m.limit) (limit-small m.limit is.limited));
      one = λ same. absurd (let no : ⊥ = cc in no);
    }

-- the first four bytes tell the version
version-of_text : (v : Version) (h : Header) (left : List ℕ) → version_of (first_text v h ++ left) ≡ v
unfolding first_text word word_text half_word_text
version-of_text One h left = refl
version-of_text Two h left = refl

count-pass : (n : ℕ) (k : ℕ) → n ≡ k → 1 ≤ k → k ≤ 8 → (nat_le 1 n && nat_le n 8) ≡ true
count-pass n k same some few = and_from _ _ (le-leb 1 n (omega (arith, same, some))) (le-leb n 8 (omega (arith, same, few)))

tb-pass : (n : ℕ) (k : ℕ) → n ≡ k → 1 ≤ k → k ≤ 18722 → (nat_le 1 n && nat_le n 18722) ≡ true
tb-pass n k same some few = and_from _ _ (le-leb 1 n (omega (arith, same, some))) (le-leb n 18722 (omega (arith, same, few)))

limit-pass : (l m : Option ℕ) (n k : ℕ) → l ≡ m → n ≡ k → is_limit m ≡ true → fits_all m k ≡ true → (is_limit l && fits_all l n) ≡ true
limit-pass l m n k a b limited fits = (λ i. is_limit (a i) && fits_all (a i) (b i)) ∙ and_from _ _ limited fits

fields-pass : (v : Version) (want : Want) (h : Header) (unit : List ℕ) → is_wanted want (kind_code h.kind) ≡ true → IsHeader h → AreFields v h unit → AllPass (fields v want unit)
fields-pass One want h unit wanted is f =
    let m = common h.sends in
    let lawful = common-lawful h.sends is.sent.some is.sent.lawful in
    let same : match_in unit ≡ m = f.one refl in (
      eq-eqb (word unit 0) (magic One) f.first,
      (
        ap (is_wanted want) f.kind ∙ wanted,
        (
          ap (λ (n : Match). is_qm n.qm) same ∙ lawful.qm,
          (
            ap (λ (n : Match). is_nl n.nl) same ∙ lawful.nl,
            (
              count-pass (count_in One unit) (length h.sends) f.count is.sent.some is.sent.few,
              (
                tb-pass (tb_in One unit) h.tb f.tb is.some is.few,
                (
                  ap (λ (n : Match). is_g (n.nl * n.qm) n.g) same ∙ lawful.g,
                  (limit-pass (limit_in One unit) m.limit (tb_in One unit) h.tb f.limit f.tb is.limited (true-fits_all m.limit h.tb is.fits), tt),
                ),
              ),
            ),
          ),
        ),
      ),
    )
fields-pass Two want h unit wanted is f =
    let m = common h.sends in (
      eq-eqb (word unit 0) (magic Two) f.first,
      (
        ap (is_wanted want) f.kind ∙ wanted,
        (
          count-pass (count_in Two unit) (length h.sends) f.count is.sent.some is.sent.few,
          (
            tb-pass (tb_in Two unit) h.tb f.tb is.some is.few,
            (limit-pass (limit_in Two unit) m.limit (tb_in Two unit) h.tb f.limit f.tb is.limited (true-fits_all m.limit h.tb is.fits), tt),
          ),
        ),
      ),
    )

-- ---- the second unit

-- G, written and read
g-read : (s : Sending) → IsMatch s.m → word (transmission_text Two s) 3 ≡ s.m.g
unfolding word word_text
g-read s is = from_be_bytes-to_be_bytes_4 s.m.g (let few = (match_bounded s.m is).few in omega (arith, few))

transmission-pass : (v : Version) (place : ℕ) (s : Sending) → s.rv ≤ 3 → IsMatch s.m → AllPass (transmission_fields v place (transmission_text v s))
transmission-pass One place s small is = (le-leb s.rv 3 small, tt)
transmission-pass Two place s small is = (is.qm, (is.nl, (le-leb s.rv 3 small, (ap (is_g (s.m.nl * s.m.qm)) (g-read s is) ∙ is.g, tt))))

transmissions-pass : (v : Version) (place : ℕ) (sends : List Sending) → All (λ s. s.rv ≤ 3) sends → All (λ s. IsMatch s.m) sends →
    AllPass (transmissions_fields v (length sends) place (flat_map (transmission_text v) sends))
transmissions-pass v place [] small lawful = tt
transmissions-pass v place (s ∷ ss) small lawful =
    let size : ℕ = described_size v in
    let text : List ℕ = transmission_text v s in
    let more : List ℕ = flat_map (transmission_text v) ss in
    let here : AllPass (transmission_fields v place text) = transmission-pass v place s (small 0 s (omega arith)) (lawful 0 s (omega arith)) in
    let rest : AllPass (transmissions_fields v (length ss) (place + size) more) = transmissions-pass v (place + size) ss (λ k d inside. small (suc k) d (omega (arith, inside)))
    (λ k d inside. lawful (suc k) d (omega (arith, inside))) in
    rw (take_front text more size (transmission-long v s), drop_front text more size (transmission-long v s))
    (pass_both (transmission_fields v place text) (transmissions_fields v (length ss) (place + size) more) here rest)

transmission-same : (v : Version) (unit : List ℕ) (s : Sending) → IsMatch s.m → limit_in v unit ≡ s.m.limit → (v ≡ One → match_in unit ≡ s.m) → transmission_in v unit (transmission_text v s) ≡ s
transmission-same One unit s is limit one i = record { m = one refl i; rv = s.rv }
transmission-same Two unit s is limit one i = record { m = record { qm = s.m.qm; nl = s.m.nl; g = g-read s is i; limit = limit i }; rv = s.rv }

transmissions-same : (v : Version) (unit : List ℕ) (sends : List Sending) → All (λ s. IsMatch s.m) sends → All (λ s. s.m.limit ≡ limit_in v unit) sends →
    (v ≡ One → All (λ s. s.m ≡ match_in unit) sends)
    → transmissions_in v unit (length sends) (flat_map (transmission_text v) sends) ≡ sends
transmissions-same v unit [] lawful limit one = refl
transmissions-same v unit (s ∷ ss) lawful limit one =
    let size : ℕ = described_size v in
    let text : List ℕ = transmission_text v s in
    let more : List ℕ = flat_map (transmission_text v) ss in
    let here : transmission_in v unit (take size (text ++ more)) ≡ s =
    ap (transmission_in v unit) (take_front text more size (transmission-long v s))
    ∙ transmission-same v unit s (lawful 0 s (omega arith)) (sym (limit 0 s (omega arith))) (λ is. sym (one is 0 s (omega arith))) in
    let rest : transmissions_in v unit (length ss) (drop size (text ++ more)) ≡ ss =
    ap (transmissions_in v unit (length ss)) (drop_front text more size (transmission-long v s))
    ∙ transmissions-same v unit ss (λ k d inside. lawful (suc k) d (omega (arith, inside))) (λ k d inside. limit (suc k) d (omega (arith, inside)))
    (λ is k d inside. one is (suc k) d (omega (arith, inside))) in
    λ i. here i ∷ rest i

-- ---- both

read : (v : Version) (want : Want) (h : Header) (left : List ℕ) → is_wanted want (kind_code h.kind) ≡ true → IsHeader h → AreHeld v h.sends
    → opening want ((first_text v h ++ flat_map (transmission_text v) h.sends) ++ left) ≡ opens (record h { version = v }) left
read v want h left wanted is held =
    let unit : List ℕ = first_text v h in
    let bytes : List ℕ = flat_map (transmission_text v) h.sends in
    let f = text-fields v h is in
    let size : ℕ = first_size v + count_in v unit * described_size v in
    let long : length bytes ≡ count_in v unit * described_size v = transmissions-text_long v h.sends ∙ ap (λ (n : ℕ). n * described_size v) (sym f.count) in
    let pass : AllPass (transmissions_fields v (count_in v unit) (first_size v) bytes) = rw f.count (transmissions-pass v (first_size v) h.sends is.sent.versions is.sent.lawful) in
    let sends : transmissions_in v unit (count_in v unit) bytes ≡ h.sends =
    ap (λ (n : ℕ). transmissions_in v unit n bytes) f.count
    ∙ transmissions-same v unit h.sends is.sent.lawful (λ k d inside. is.sent.buffer k d inside ∙ sym f.limit) (λ one k d inside. held one k d inside ∙ sym (f.one one)) in
    let header : header_in v unit (transmissions_in v unit (count_in v unit) bytes) ≡ record h { version = v } =
    λ i. record { version = v; kind = kind-of_code h.kind (slice_index unit 4) (sym f.kind) i; tb = f.tb i; sends = sends i } in
    ap (opening want) (append_assoc unit bytes left)
    ∙ ap (λ (w : Version). first_opening w want (unit ++ (bytes ++ left))) (version-of_text v h (bytes ++ left))
    ∙ first-whole v want unit (bytes ++ left) (first-long v h)
    ∙ ap (λ r. unless r (second_opening v unit (bytes ++ left))) (none_refused (first_size v) (fields v want unit) (fields-pass v want h unit wanted is f))
    ∙ second-whole v unit bytes left long
    ∙ ap (λ r. unless r (opens (header_in v unit (transmissions_in v unit (count_in v unit) bytes)) left)) (none_refused size (transmissions_fields v (count_in v unit) (first_size v) bytes) pass)
    ∙ ap (λ (n : Header). opens n left) header

pub header-read : (want : Want) (h : Header) (left : List ℕ) → is_wanted want (kind_code h.kind) ≡ true → IsHeader h → opening want (header_text h ++ left) ≡ opens h left
header-read want h left wanted is = read h.version want h left wanted is is.held
