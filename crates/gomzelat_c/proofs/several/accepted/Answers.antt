use Rattle.std.proofs.Common.{◌≡◌, ℕ, List, None, sum_by, sym, subst, ap, ◌∙◌}
use Rattle.std.specs.declared.option.Option.{Option}
use Rattle.model_sender.specs.CircularBuffer.{FitsIn}
use Rattle.model_sender.specs.Segmentation.{Plan}
use Rattle.rate_match.specs.Matching.{limit_of}
use Rattle.rate_match.specs.Sendings.{common}
use Rattle.rate_match.specs.declared.sends.Sending.{Sending}
use Rattle.gomzelat_c.specs.Transmissions.{limit_in, transmissions_of}
use Rattle.gomzelat_c.specs.Tests.{byte_count, codewords_tests, first_failed, output_tests, series_tests}
use Rattle.gomzelat_c.specs.declared.transmission.Transmission.{Transmission}
use Rattle.gomzelat_c.proofs.Errors.{handed_on}
use Rattle.gomzelat_c.proofs.FirstFailed.{none_failed, one_failed}
use Rattle.gomzelat_c.proofs.OneByOne.{sum_sent}
use Rattle.gomzelat_c.proofs.Transmissions.{common_limit}
use Rattle.gomzelat_c.proofs.several.accepted.Goals as goal

pub returns-in_err-series-clause-refused : goal.returns-in_err-series-clause-refused
returns-in_err-series-clause-refused c =
    let ts = c.args.transmissions.now in
    let r = c.in_err-series.field-0.0 in
    let tests = output_tests c.args.bytes c.args.n_ir (sum_by (λ t. byte_count t.g) ts) c.args.room in
    handed_on c.from_residual.result r c.from_residual.ensures.1
    ∙ sym (one_failed (series_tests c.args.bytes ts) tests r (sym c.in_err-series.ensures.refused))

-- where the transmissions are accepted, for a plan of so many bytes and codewords of so many
after_series : (bytes planned written : ℕ) (ts : List Transmission) (sends : List Sending) (limit : Option ℕ) (n_ir room : ℕ) →
    planned ≡ bytes → written ≡ sum_by (λ s. byte_count s.m.g) sends → sends ≡ transmissions_of limit ts → None ≡ first_failed (series_tests bytes ts) →
    first_failed (output_tests planned n_ir written room) ≡ first_failed (codewords_tests bytes ts n_ir room)
after_series bytes planned written ts sends limit n_ir room same count sent none =
    let all : ℕ = sum_by (λ t. byte_count t.g) ts in
    let sum : written ≡ all = count ∙ ap (sum_by (λ (s : Sending). byte_count s.m.g)) sent ∙ sum_sent (λ s. byte_count s.m.g) limit ts in
    ap (λ (n : ℕ). first_failed (output_tests n n_ir written room)) same
    ∙ ap (λ (n : ℕ). first_failed (output_tests bytes n_ir n room)) sum
    ∙ sym (none_failed (series_tests bytes ts) (output_tests bytes n_ir all room) (sym none))

pub returns-in_err-fits-clause-refused : goal.returns-in_err-fits-clause-refused
returns-in_err-fits-clause-refused c =
    let series = c.in_ok-series.series in
    handed_on c.from_residual-in_err-fits.result c.in_err-fits.field-0.0 c.from_residual-in_err-fits.ensures.1
    ∙ c.in_err-fits.ensures.refused
    ∙ after_series c.args.bytes series.plan.bytes c.byte_count.result c.args.transmissions.now series.sends (limit_of c.buffer_of.result) c.args.n_ir c.args.room
    c.in_ok-series.ensures.bytes c.byte_count.ensures c.in_ok-series.ensures.sends c.in_ok-series.ensures.refused

pub returns-clause-refused : goal.returns-clause-refused
returns-clause-refused c =
    let series = c.in_ok-series.series in
    c.in_ok-fits.ensures.refused
    ∙ after_series c.args.bytes series.plan.bytes c.byte_count.result c.args.transmissions.now series.sends (limit_of c.buffer_of.result) c.args.n_ir c.args.room
    c.in_ok-series.ensures.bytes c.byte_count.ensures c.in_ok-series.ensures.sends c.in_ok-series.ensures.refused

pub returns-clause-fits : goal.returns-clause-fits
returns-clause-fits c =
    let ts = c.args.transmissions.now in
    let series = c.in_ok-series.series in
    let P : Option ℕ → Type 0 = λ limit. FitsIn limit series.plan.c series.plan.k_plus in
    let same : (common series.sends).limit ≡ limit_in c.args.n_ir =
    ap (λ ss. (common ss).limit) c.in_ok-series.ensures.sends ∙ common_limit (limit_of c.buffer_of.result) ts c.in_ok-series.ensures.count ∙ c.buffer_of.ensures
    in
    subst (λ (p : Plan). FitsIn (common series.sends).limit p.c p.k_plus) c.in_ok-series.ensures.plan (subst P (sym same) c.in_ok-fits.ensures.fits)
