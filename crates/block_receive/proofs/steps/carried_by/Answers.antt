use Rattle.std.proofs.Common.{◌≡◌, ◌∙◌, Bool, List, sym, ap}
use Rattle.std.specs.Prelude.{◌&&◌}
use Rattle.model_sender.specs.Segmentation.{Plan}
use Rattle.model_receiver.specs.declared.result.CheckKind.TheVariants.{A}
use Rattle.model_receiver.specs.declared.result.CodeResult.{CodeResult}
use Rattle.model_receiver.specs.Decoding.{check_holds}
use Rattle.model_receiver.specs.TransportBlocks.{all_passed, delivers, whole_of}
use Rattle.half_iteration.proofs.Stopping.{check-is}
use Rattle.block_receive.proofs.Deliveries.{delivers-is}
use Rattle.block_receive.proofs.steps.carried_by.Goals as goal
use Rattle.block_receive.proofs.steps.carried_by.Goals.{then-passed, else-passed}

pub returns-clause-delivered : goal.returns-clause-delivered
returns-clause-delivered c =
    let p : Plan = c.args.plan.now in
    let results : List CodeResult = c.args.results.items in
    let passed : Bool = c.all_passed-passed.result in
    let holds : Bool = c.in_ok-joined.joined.holds in
    let all : all_passed results ≡ passed = ap all_passed (sym c.as_slice.ensures.value) ∙ sym c.all_passed-passed.ensures in
    let whole : check_holds A (whole_of p results) ≡ holds = check-is holds A (whole_of p results) c.in_ok-joined.ensures.holds in
    let is : delivers p results ≡ (passed && holds) = delivers-is p results passed holds all whole in
    elim c.if-passed.branch [
      | then-passed w ↦ w.result-is ∙ ap (λ (b : Bool). b && holds) (sym w.if-passed.true) ∙ sym is
      | else-passed w ↦ w.result-is ∙ w.if-passed.false ∙ ap (λ (b : Bool). b && holds) (sym w.if-passed.false) ∙ sym is
    ]
