use Rattle.std.proofs.Common.{◌≡◌, ap, sym, subst, ◌∙◌, length}
use Rattle.model_sender.specs.CircularBuffer.{FitsIn}
use Rattle.model_sender.specs.Segmentation.{Plan, plan_of}
use Rattle.rate_match.specs.Sendings.{common}
use Rattle.rate_match.proofs.FitTest.{fits_all-true}
use Rattle.command_decode.proofs.Values.{softs_counted}
use Rattle.command_decode.proofs.decoding.Decoding.outcome.Goals as goal

pub receive-requires : goal.receive-requires
receive-requires g c =
    let h = c.args.header.now in
    let a = c.requires.accepted in
    let P : Plan → Type 0 = λ plan. FitsIn (common h.sends).limit plan.c plan.k_plus in
    let same : c.unwrap.result ≡ plan_of c.args.payload = rw c.unwrap.ensures at c.plan.ensures.numbers in
    c.requires.takes _ _ _ _ _ (record {
      fits = subst P (sym same) (fits_all-true (common h.sends).limit h.tb h.fits c.args.payload a.some a.few);
      values = ap length (c.as_slice.ensures ∙ c.in_ok-softs.ensures) ∙ softs_counted h.kind h.sends c.args.bytes.now c.requires.soft a.sent;
      some_workers = c.args.self.now.some_workers;
      few_workers = c.args.self.now.few_workers;
    })
