use Rattle.std.proofs.Common.{◌≡◌, ℕ, ◌+◌, ◌*◌, List, ◌++◌, length, take, slice_index, refl, ap, ◌∙◌, arith}
use Rattle.std.proofs.lemmas.List.{length-append}
use Rattle.std.proofs.lemmas.Result.{err_from_is_err_and}
use Rattle.edge_io.proofs.Known.{takes_bytes_then}
use Rattle.edge_io.proofs.Told.{told_rest}
use Rattle.coded_stream.specs.Header.{Header, kind_code}
use Rattle.coded_stream.specs.Opening.{is_wanted, first_size, count_in, described_size, opens}
use Rattle.coded_stream.proofs.Passed.{fields-passed, code-of_kind}
use Rattle.coded_stream.proofs.HeaderBegun.{unit-is, first-refused, begun-stops, by-second, header-is, lawful, header-accepted, place-is}
use Rattle.coded_stream.proofs.Stopping.{taken_both}
use Rattle.coded_stream.proofs.reader.StreamReader.begin.Goals as goal

pub returns-in_err-version-clause-begins : goal.returns-in_err-version-clause-begins
returns-in_err-version-clause-begins g c input is =
    let p = err_from_is_err_and c.from_residual.result c.from_residual.ensures.1 in
    rw (p.1, p.2) (c.in_err-version.ensures.told c.args.want input is)

pub returns-in_err-buffer-clause-begins : goal.returns-in_err-buffer-clause-begins
returns-in_err-buffer-clause-begins g c input is =
    let v = c.in_ok-version.version in
    let unit : List ℕ = take c.first_size.result c.read_first.new.unit in
    let took = c.in_ok-version.ensures.told c.args.want input is in
    let u = unit-is v c.first_size.result c.read_first.new.unit _ _ c.first_size.ensures.value c.read_first.auto.unit took.0 took.1 in
    let p = err_from_is_err_and c.from_residual-in_err-buffer.result c.from_residual-in_err-buffer.ensures.1 in
    rw (p.1, p.2) (first-refused v c.args.want unit input _ _ c.in_err-buffer.field-0.0 u is c.in_err-buffer.ensures)

pub read_second-requires-clause-matching : goal.read_second-requires-clause-matching
read_second-requires-clause-matching g c =
    let v = c.in_ok-version.version in
    (fields-passed v c.args.want (take c.first_size.result c.read_first.new.unit) (c.in_ok-buffer.ensures.0 (first_size v))).matching

pub read_second-requires-clause-some : goal.read_second-requires-clause-some
read_second-requires-clause-some g c =
    let v = c.in_ok-version.version in
    let passed = fields-passed v c.args.want (take c.first_size.result c.read_first.new.unit) (c.in_ok-buffer.ensures.0 (first_size v)) in
    omega (arith, passed.sent, c.in_ok-buffer.ensures.3)

pub read_second-requires-clause-few : goal.read_second-requires-clause-few
read_second-requires-clause-few g c =
    let v = c.in_ok-version.version in
    let passed = fields-passed v c.args.want (take c.first_size.result c.read_first.new.unit) (c.in_ok-buffer.ensures.0 (first_size v)) in
    omega (arith, passed.most, c.in_ok-buffer.ensures.3)

pub returns-in_err-sends-clause-begins : goal.returns-in_err-sends-clause-begins
returns-in_err-sends-clause-begins g c input is =
    let v = c.in_ok-version.version in
    let unit : List ℕ = take c.first_size.result c.read_first.new.unit in
    let took = c.in_ok-version.ensures.told c.args.want input is in
    let u = unit-is v c.first_size.result c.read_first.new.unit _ _ c.first_size.ensures.value c.read_first.auto.unit took.0 took.1 in
    let p = err_from_is_err_and c.from_residual-in_err-sends.result c.from_residual-in_err-sends.ensures.1 in
    rw (p.1, p.2) (begun-stops v c.args.want unit input _ _ _ c.in_err-sends.field-0.0 u is c.in_ok-buffer.ensures.0 c.in_err-sends.ensures.told)

pub returns-clause-begins : goal.returns-clause-begins
returns-clause-begins g c input is =
    let v = c.in_ok-version.version in
    let unit : List ℕ = take c.first_size.result c.read_first.new.unit in
    let took = c.in_ok-version.ensures.told c.args.want input is in
    let u = unit-is v c.first_size.result c.read_first.new.unit _ _ c.first_size.ensures.value c.read_first.auto.unit took.0 took.1 in
    let t = told_rest _ _ unit input u.took is in
    let w = c.in_ok-sends.ensures.told t.left t.new_is in
    let read = c.in_ok-buffer.ensures in
    let sends = c.in_ok-sends.sends in
    let long : length unit ≡ first_size v = u.long in
    let second : length w.0 ≡ count_in v unit * described_size v = w.4 in
    let second_is : c.second_size.result ≡ count_in v unit * described_size v = c.second_size.ensures.value ∙ ap (λ (n : ℕ). n * described_size v) read.3 in
    let counted : c.first_size-2.result + c.second_size.result ≡ first_size v + count_in v unit * described_size v = (λ i. c.first_size-2.ensures.value i + second_is i) in (
      unit ++ w.0,
      w.1,
      taken_both _ unit t.left w.0 w.1 t.old_is w.2,
      w.3,
      omega (arith, length-append unit w.0, long, second, counted),
      by-second v c.args.want unit t.left input _ _ u t.input_is (read.0 (first_size v))
          ∙ w.5
          ∙ ap (λ h. opens h w.1) (header-is v c.of.result c.in_ok-buffer.field-0.tb unit sends c.of.ensures read.2),
    )

pub invariant_of-result : goal.invariant_of-result
invariant_of-result g c =
    let v = c.in_ok-version.version in
    let unit : List ℕ = take c.first_size.result c.read_first.new.unit in
    let read = c.in_ok-buffer.ensures in
    let are = c.in_ok-sends.ensures.sent in
    let ok = lawful v c.args.want unit c.in_ok-buffer.field-0.tb c.in_ok-sends.sends (fields-passed v c.args.want unit (read.0 (first_size v))) are read.2 in
    record {
      some = ok.some;
      few = ok.few;
      sent = are.sent;
      held = are.held;
      limited = ok.limited;
      fits = ok.fits;
    }

pub returns-clause-accepted : goal.returns-clause-accepted
returns-clause-accepted g c =
    let v = c.in_ok-version.version in
    let unit : List ℕ = take c.first_size.result c.read_first.new.unit in
    let read = c.in_ok-buffer.ensures in
    let are = c.in_ok-sends.ensures.sent in
    let tb : ℕ = c.in_ok-buffer.field-0.tb in
    let passed = fields-passed v c.args.want unit (read.0 (first_size v)) in
    let ok = lawful v c.args.want unit tb c.in_ok-sends.sends passed are read.2 in
    let h : Header = record { version = v; kind = c.of.result; tb = tb; sends = c.in_ok-sends.sends } in
    record {
      kind = ap (λ k. is_wanted c.args.want (kind_code k)) c.of.ensures ∙ ap (is_wanted c.args.want) (code-of_kind c.args.want (slice_index unit 4) passed.kind) ∙ passed.kind;
      header = header-accepted v c.of.result unit tb c.in_ok-sends.sends ok are;
      place = place-is h unit c.first_size-2.result c.second_size.result are c.first_size-2.ensures.value
          (c.second_size.ensures.value ∙ ap (λ (n : ℕ). n * described_size v) read.3);
      blocks = refl;
      live = refl;
    }

pub returns-in_err-sends-clause-moved : goal.returns-in_err-sends-clause-moved
returns-in_err-sends-clause-moved g c = takes_bytes_then _ _ _ c.read_first.ensures.moved c.read_second.ensures.moved

pub returns-clause-moved : goal.returns-clause-moved
returns-clause-moved g c = takes_bytes_then _ _ _ c.read_first.ensures.moved c.read_second.ensures.moved
