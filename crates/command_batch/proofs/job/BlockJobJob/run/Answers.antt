use Rattle.std.proofs.Common.{◌≡◌, sym, subst}
use Rattle.model_sender.specs.CircularBuffer.{FitsIn}
use Rattle.model_sender.specs.Segmentation.{Plan, plan_of}
use Rattle.rate_match.specs.Sendings.{common}
use Rattle.rate_match.proofs.FitTest.{fits_all-true}
use Rattle.command_batch.proofs.job.BlockJobJob.run.Goals as goal

pub receive_alone-requires-clause-fits : goal.receive_alone-requires-clause-fits
receive_alone-requires-clause-fits c =
    let j = c.args.self.now in
    let h = j.header in
    let P : Plan → Type 0 = λ plan. FitsIn (common h.sends).limit plan.c plan.k_plus in
    let same : c.unwrap-plan.result ≡ plan_of j.payload = rw c.unwrap-plan.ensures at c.plan.ensures.numbers in
    subst P (sym same) (fits_all-true (common h.sends).limit h.tb h.fits j.payload j.some j.few)
