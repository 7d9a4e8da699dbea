use Rattle.std.proofs.Common.{◌≡◌, sym, ap, ◌∙◌}
use Rattle.rate_match.specs.Fitting.{fits_all}
use Rattle.rate_match.proofs.FitTest.{fits_all-true, true-fits_all}
use Rattle.rate_match.proofs.fitting.fits.Goals as goal

pub returns-clause-fits : goal.returns-clause-fits
returns-clause-fits c =
    let limit = c.args.m.now.limit in
    let same : c.fits_lengths.result ≡ fits_all limit c.args.tb = c.fits_lengths.ensures ∙ ap (λ l. fits_all l c.args.tb) c.buffer.ensures.value in
    (λ yes. fits_all-true limit c.args.tb (sym same ∙ yes), λ fits. same ∙ true-fits_all limit c.args.tb fits)
