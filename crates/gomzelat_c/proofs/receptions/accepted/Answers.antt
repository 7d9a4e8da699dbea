use Rattle.std.proofs.Common.{◌≡◌, ℕ, List, None, sum_by, sym, subst, ap, ◌∙◌}
use Rattle.std.specs.declared.option.Option.{Option}
use Rattle.model_sender.specs.CircularBuffer.{FitsIn}
use Rattle.rate_match.specs.Matching.{limit_of}
use Rattle.rate_match.specs.Sendings.{common}
use Rattle.rate_match.specs.declared.sends.Sending.{Sending}
use Rattle.gomzelat_c.specs.Transmissions.{limit_in, transmissions_of}
use Rattle.gomzelat_c.specs.Tests.{first_failed, reception_tests, series_tests, test_receiver}
use Rattle.gomzelat_c.specs.declared.receiver.Receiver.{Receiver}
use Rattle.gomzelat_c.specs.declared.transmission.Transmission.{Transmission}
use Rattle.gomzelat_c.proofs.Errors.{handed_on}
use Rattle.gomzelat_c.proofs.FirstFailed.{none_failed, one_failed}
use Rattle.gomzelat_c.proofs.OneByOne.{sum_sent}
use Rattle.gomzelat_c.proofs.Transmissions.{common_limit}
use Rattle.gomzelat_c.proofs.receptions.accepted.Goals as goal

pub returns-in_err-series-clause-refused : goal.returns-in_err-series-clause-refused
returns-in_err-series-clause-refused c =
    let ts = c.args.transmissions.now in
    let r = c.in_err-series.field-0.0 in
    let tests = test_receiver c.args.bytes (sum_by (λ t. t.g) ts) c.args.receiver.now c.args.values c.args.room in
    handed_on c.from_residual.result r c.from_residual.ensures.1
    ∙ sym (one_failed (series_tests c.args.bytes ts) tests r (sym c.in_err-series.ensures.refused))

-- where the transmissions are accepted, for a plan of so many bytes and transmissions of so many bits
after_series : (bytes planned bits : ℕ) (ts : List Transmission) (sends : List Sending) (limit : Option ℕ) (r : Receiver) (values room : ℕ) →
    planned ≡ bytes → bits ≡ sum_by (λ s. s.m.g) sends → sends ≡ transmissions_of limit ts → None ≡ first_failed (series_tests bytes ts) →
    first_failed (test_receiver planned bits r values room) ≡ first_failed (reception_tests bytes ts r values room)
after_series bytes planned bits ts sends limit r values room same count sent none =
    let all : ℕ = sum_by (λ t. t.g) ts in
    let sum : bits ≡ all = count ∙ ap (sum_by (λ (s : Sending). s.m.g)) sent ∙ sum_sent (λ s. s.m.g) limit ts in
    ap (λ (n : ℕ). first_failed (test_receiver n bits r values room)) same
    ∙ ap (λ (n : ℕ). first_failed (test_receiver bytes n r values room)) sum
    ∙ sym (none_failed (series_tests bytes ts) (test_receiver bytes all r values room) (sym none))

pub returns-in_err-limits-clause-refused : goal.returns-in_err-limits-clause-refused
returns-in_err-limits-clause-refused c =
    handed_on c.from_residual-in_err-limits.result c.in_err-limits.field-0.0 c.from_residual-in_err-limits.ensures.1
    ∙ c.in_err-limits.ensures.refused
    ∙ after_series c.args.bytes c.in_ok-series.series.plan.bytes c.bit_count.result c.args.transmissions.now c.in_ok-series.series.sends (limit_of c.buffer_of.result)
    c.args.receiver.now c.args.values c.args.room c.in_ok-series.ensures.bytes c.bit_count.ensures c.in_ok-series.ensures.sends c.in_ok-series.ensures.refused

pub returns-clause-refused : goal.returns-clause-refused
returns-clause-refused c =
    c.in_ok-limits.ensures.refused
    ∙ after_series c.args.bytes c.in_ok-series.series.plan.bytes c.bit_count.result c.args.transmissions.now c.in_ok-series.series.sends (limit_of c.buffer_of.result)
    c.args.receiver.now c.args.values c.args.room c.in_ok-series.ensures.bytes c.bit_count.ensures c.in_ok-series.ensures.sends c.in_ok-series.ensures.refused

pub returns-clause-fits : goal.returns-clause-fits
returns-clause-fits c =
    let ts = c.args.transmissions.now in
    let series = c.in_ok-series.series in
    let P : Option ℕ → Type 0 = λ limit. FitsIn limit series.plan.c series.plan.k_plus in
    let same : (common series.sends).limit ≡ limit_in c.args.receiver.now.n_ir =
    ap (λ ss. (common ss).limit) c.in_ok-series.ensures.sends ∙ common_limit (limit_of c.buffer_of.result) ts c.in_ok-series.ensures.count ∙ c.buffer_of.ensures
    in
    subst P (sym same) c.in_ok-limits.ensures.fits
