use Rattle.std.proofs.Common.{◌≡◌, ℕ, IsTrue, sym, subst, arith}
use Rattle.model_sender.specs.Segmentation.{Plan, plan_of}
use Rattle.model_sender.specs.CircularBuffer.{FitsIn}
use Rattle.rate_match.specs.Matching.{limit_of}
use Rattle.rate_match.specs.Fitting.{FitsAll, fits_all}
use Rattle.rate_match.proofs.Need.{fits_fewer}
use Rattle.rate_match.proofs.FitTest.{fits_all-true, true-fits_all, same_test}
use Rattle.rate_match.proofs.fitting.fits_lengths.Goals as goal

-- the plan of tb bytes tells of all
pub returns : goal.returns
returns c =
    let limit = limit_of c.args.buffer in
    let tb : ℕ = c.args.tb in
    let is : c.in-Ok.plan ≡ plan_of tb = c.in-Ok.ensures.numbers in
    let P : Plan → Type 0 = λ plan. FitsIn limit plan.c plan.k_plus in
    let every : IsTrue c.fits_buffer.result → FitsAll limit tb = (λ yes bytes some few. fits_fewer limit bytes tb some few c.requires.few (subst P is (c.fits_buffer.ensures.0 yes))) in
    let last : FitsAll limit tb → IsTrue c.fits_buffer.result = (λ fits. c.fits_buffer.ensures.1 (subst P (sym is) (fits tb c.requires.some (omega arith)))) in
    same_test c.fits_buffer.result (fits_all limit tb)
    (λ yes. true-fits_all limit tb (every yes))
    (λ all. last (fits_all-true limit tb all))
