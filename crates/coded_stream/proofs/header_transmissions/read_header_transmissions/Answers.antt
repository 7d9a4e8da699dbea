use Rattle.std.proofs.Common.{◌≡◌, ℕ, ◌+◌, ◌-◌, ◌*◌, ◌<◌, List, [], ◌∷◌, ◌++◌, length, take, drop, Bool, false, IsTrue, ap, sym, subst, ◌∙◌, arith}
use Rattle.std.proofs.lemmas.Result.{err_from_is_err_and}
use Rattle.rate_match.specs.declared.sends.Sending.{Sending}
use Rattle.rate_match.specs.Sendings.{common}
use Rattle.coded_stream.specs.Fields.{Pass, AreRefused}
use Rattle.coded_stream.specs.Opening.{Check, described_size, transmission_fields, transmission_in, transmissions_in}
use Rattle.coded_stream.specs.declared.version.Version.{Version}
use Rattle.coded_stream.proofs.HeaderTransmissionSteps.{transmissions-long, transmissions-more, fields_at, pass-none, pass-more, refused-here, common-limit}
use Rattle.coded_stream.proofs.header_transmissions.read_header_transmissions.Goals as goal

-- the bytes of a turn, as the program takes them
turn_bytes : (v : Version) (index size : ℕ) (bytes : List ℕ) → size ≡ described_size v →
    take (index * size + size - index * size) (drop (index * size) bytes) ≡ take (described_size v) (drop (index * described_size v) bytes)
turn_bytes v index size bytes same =
    ap (λ (n : ℕ). take n (drop (index * size) bytes)) (let e : index * size + size - index * size ≡ size = omega arith in e)
    ∙ ap (λ (n : ℕ). take n (drop (index * n) bytes)) same

turn_fields : (v : Version) (index size place : ℕ) (bytes : List ℕ) → size ≡ described_size v →
    transmission_fields v (place + index * size) (take (index * size + size - index * size) (drop (index * size) bytes)) ≡ fields_at v index place bytes
turn_fields v index size place bytes same i = transmission_fields v (place + index * same i) (turn_bytes v index size bytes same i)

-- those of the first
first_bytes : (v : Version) (size : ℕ) (bytes : List ℕ) → size ≡ described_size v → take size bytes ≡ take (described_size v) (drop (0 * described_size v) bytes)
first_bytes v size bytes same = ap (λ (n : ℕ). take n bytes) same ∙ ap (λ (n : ℕ). take (described_size v) (drop n bytes)) (let e : 0 ≡ 0 * described_size v = omega arith in e)

first_fields : (v : Version) (size place : ℕ) (bytes : List ℕ) → size ≡ described_size v → transmission_fields v place (take size bytes) ≡ fields_at v 0 place bytes
first_fields v size place bytes same i =
    transmission_fields v ((let e : place ≡ place + 0 * described_size v = omega arith in e) i) (first_bytes v size bytes same i)

pub returns-in_err-m : goal.returns-in_err-m
returns-in_err-m c =
    let v = c.args.version in
    let bytes = c.args.bytes.now in
    let stop = c.in_err-m.field-0.0 in
    let p = err_from_is_err_and c.from_residual.result c.from_residual.ensures.1 in
    rw (p.1, p.2)
    (refused-here v c.args.count 0 c.args.place bytes stop (omega (arith, c.requires.some)) (pass-none v c.args.count c.args.place bytes)
    (subst (λ (cs : List Check). AreRefused cs stop) (first_fields v _ c.args.place bytes c.described_size-size.ensures.value) c.in_err-m.ensures))

pub loop-index-init : goal.loop-index-init
loop-index-init c =
    let v = c.args.version in
    let bytes = c.args.bytes.now in
    let place : ℕ = c.args.place in
    let count : ℕ = c.args.count in
    let same : c.described_size-size.result ≡ described_size v = c.described_size-size.ensures.value in
    let read = c.in_ok-m.ensures in
    let one : transmission_in v c.args.unit.now (take (described_size v) bytes) ≡ record { m = c.in_ok-m.m; rv = c.in_ok-m.rv } =
    ap (λ (n : ℕ). transmission_in v c.args.unit.now (take n bytes)) (sym same) ∙ read.1 in
    record {
      held = c.in-Some.ensures.value ∙ sym (ap (λ (s : Sending). s ∷ []) one);
      rest = pass-more v count 0 place bytes (omega (arith, c.requires.some)) (pass-none v count place bytes) (subst Pass (first_fields v _ place bytes same) read.0);
    }

pub unreachable-requires-then-not-add : goal.unreachable-requires-then-not-add
unreachable-requires-then-not-add c =
    let v = c.args.version in
    let unit = c.args.unit.now in
    let bytes = c.args.bytes.now in
    let index : ℕ = c.loop-index.index in
    let read = c.in_ok-m-2.ensures in
    let held = c.loop-index.invariant.held in
    let long : length c.loop-index.sends ≡ index = ap length held ∙ transmissions-long v unit index bytes in
    let less : index < c.args.count = c.loop-index-test.true in
    let limit = read.3 ∙ sym (ap (λ (ss : List Sending). (common ss).limit) held ∙ common-limit v unit index bytes (let some = c.loop-index.auto.index in omega (arith, some))) in
    let taken : IsTrue c.add.result = c.add.ensures.taken.1 (read.2, omega (arith, long, less, c.requires.few), limit) in
    never c.add.result taken c.if-not-add.true
  where
    never : (t : Bool) → IsTrue t → t ≡ false → ⊥
    never t holds fails = absurd (let e : ⊥ = cc in e)

pub returns-in_err-m-2 : goal.returns-in_err-m-2
returns-in_err-m-2 c =
    let v = c.args.version in
    let bytes = c.args.bytes.now in
    let place : ℕ = c.args.place in
    let index : ℕ = c.loop-index.index in
    let stop = c.in_err-m-2.field-0.0 in
    let p = err_from_is_err_and c.from_residual-in_err-m-2.result c.from_residual-in_err-m-2.ensures.1 in
    rw (p.1, p.2)
    (refused-here v c.args.count index place bytes stop c.loop-index-test.true c.loop-index.invariant.rest
    (subst (λ (cs : List Check). AreRefused cs stop) (turn_fields v index _ place bytes c.described_size-size.ensures.value) c.in_err-m-2.ensures))

pub loop-index-preserved : goal.loop-index-preserved
loop-index-preserved c =
    let v = c.args.version in
    let unit = c.args.unit.now in
    let bytes = c.args.bytes.now in
    let place : ℕ = c.args.place in
    let index : ℕ = c.loop-index.index in
    let size : ℕ = c.described_size-size.result in
    let same : size ≡ described_size v = c.described_size-size.ensures.value in
    let got = c.in_ok-m-2 in
    let read = got.ensures in
    let one : transmission_in v unit (take (described_size v) (drop (index * described_size v) bytes)) ≡ record { m = got.m; rv = got.rv } =
    ap (transmission_in v unit) (sym (turn_bytes v index size bytes same)) ∙ read.1 in
    record {
      held =
          c.add.ensures.added c.if-not-add.false
          ∙ ap (λ (ss : List Sending). ss ++ record { m = got.m; rv = got.rv } ∷ []) c.loop-index.invariant.held
          ∙ ap (λ (s : Sending). transmissions_in v unit index bytes ++ s ∷ []) (sym one)
          ∙ sym (transmissions-more v unit index bytes);
      rest = pass-more v c.args.count index place bytes c.loop-index-test.true c.loop-index.invariant.rest (subst Pass (turn_fields v index size place bytes same) read.0);
    }
