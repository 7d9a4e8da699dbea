use Rattle.std.proofs.Common.{◌≡◌, ℕ, ◌*◌, length, ap, subst, ◌∙◌}
use Rattle.std.proofs.lemmas.List.{length-take-le}
use Rattle.std.proofs.lemmas.Result.{err_from_is_err_and}
use Rattle.edge_io.proofs.Told.{told_rest}
use Rattle.coded_stream.specs.Opening.{count_in, described_size}
use Rattle.coded_stream.specs.Fields.{TransmissionsAreRead}
use Rattle.coded_stream.proofs.HeaderTransmissionSteps.{sent-by}
use Rattle.coded_stream.proofs.OpeningSteps.{second-stops, second-told}
use Rattle.coded_stream.proofs.opening.read_second.Goals as goal

pub returns-in_err-read_unit-clause-told : goal.returns-in_err-read_unit-clause-told
returns-in_err-read_unit-clause-told g c input is =
    let v = c.args.version in
    let bytes = c.read_unit.new.unit in
    let long : length bytes ≡ count_in v c.args.unit.now * described_size v = c.read_unit.auto.unit ∙ length-take-le c.second_size.result _ c.second_size.ensures.few ∙ c.second_size.ensures.value
    ∙ ap (λ (k : ℕ). k * described_size v) c.requires.count in
    let p = err_from_is_err_and c.from_residual.result c.from_residual.ensures.1 in
    rw (p.1, p.2) (second-stops v c.first_size-place.result c.args.unit.now bytes input _ _ c.in_err-read_unit.field-0.0 is c.first_size-place.ensures.value long c.in_err-read_unit.ensures.bytes)

pub returns-clause-told : goal.returns-clause-told
returns-clause-told g c input is =
    let v = c.args.version in
    let unit = c.args.unit.now in
    let bytes = c.read_unit.new.unit in
    let long : length bytes ≡ count_in v unit * described_size v = c.read_unit.auto.unit ∙ length-take-le c.second_size.result _ c.second_size.ensures.few ∙ c.second_size.ensures.value
    ∙ ap (λ (k : ℕ). k * described_size v) c.requires.count in
    let t = told_rest _ _ bytes input c.in_ok-read_unit.ensures.bytes is in
    let P : ℕ → Type 0 = λ k. TransmissionsAreRead v unit k c.first_size-place.result bytes c.read_header_transmissions.result in
    second-told v c.first_size-place.result unit bytes t.left input _ _ _ t.old_is t.new_is t.input_is c.first_size-place.ensures.value long
    (subst P c.requires.count c.read_header_transmissions.ensures)

pub returns-clause-sent : goal.returns-clause-sent
returns-clause-sent g c =
    sent-by c.args.version c.args.unit.now c.args.count c.first_size-place.result c.read_unit.new.unit _
    c.requires.matching c.requires.some c.requires.few c.requires.count c.read_header_transmissions.ensures
