use Rattle.std.proofs.Common.{◌≡◌, ℤ, List, IfOk, sym, subst, ◌∙◌, arith}
use Rattle.model_sender.specs.CircularBuffer.{FitsIn}
use Rattle.model_sender.specs.Segmentation.{Plan, plan_of}
use Rattle.rate_match.specs.Sendings.{common}
use Rattle.rate_match.proofs.FitTest.{fits_all-true}
use Rattle.model_receiver.specs.TransportBlocks.{outcome}
use Rattle.block_receive.specs.Receptions.{receptions}
use Rattle.command_trial.specs.Trials.{trial_of, block_outcome}
use Rattle.command_trial.proofs.trial.Trial.outcome.Goals as goal

pub receive_alone-requires-clause-fits : goal.receive_alone-requires-clause-fits
receive_alone-requires-clause-fits c =
    let t = c.args.self.now in
    let P : Plan → Type 0 = λ plan. FitsIn (common t.sends).limit plan.c plan.k_plus in
    let same : c.unwrap-plan.result ≡ plan_of t.tb = rw c.unwrap-plan.ensures at c.plan.ensures.numbers in
    subst P (sym same) (fits_all-true (common t.sends).limit t.tb t.fits t.tb t.some (omega arith))

pub returns : goal.returns
unfolding block_outcome
returns c =
    let t = trial_of c.args.self.now in
    let same : c.unwrap-plan.result ≡ plan_of t.tb = rw c.unwrap-plan.ensures at c.plan.ensures.numbers in
    let P : Plan → Type 0 = λ plan. IfOk c.receive_alone.result (λ o. o ≡ outcome plan t.limits (receptions t.sends c.as_slice.result.now)) in
    let Q : List ℤ → Type 0 = λ xs. IfOk c.receive_alone.result (λ o. o ≡ outcome (plan_of t.tb) t.limits (receptions t.sends xs)) in
    subst Q (c.as_slice.ensures.value ∙ c.in_ok-softs.ensures.values) (subst P same c.receive_alone.ensures)
