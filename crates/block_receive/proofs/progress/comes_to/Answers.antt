use Rattle.std.proofs.Common.{◌≡◌, ◌∙◌, Bool, true, false, List, [], cond, map, sym, ap}
use Rattle.model_sender.specs.Segmentation.{Plan}
use Rattle.model_receiver.specs.declared.result.CheckKind.TheVariants.{A}
use Rattle.model_receiver.specs.declared.result.CodeResult.{CodeResult}
use Rattle.model_receiver.specs.Decoding.{check_holds}
use Rattle.model_receiver.specs.TransportBlocks.{all_passed, if_passed, whole_of}
use Rattle.half_iteration.proofs.Stopping.{check-is}
use Rattle.block_receive.proofs.Deliveries.{delivers-is}
use Rattle.block_receive.proofs.progress.comes_to.Goals as goal

pub returns-then-joined : goal.returns-then-joined
returns-then-joined c =
    let p : Plan = c.args.plan.now in
    let results : List CodeResult = c.args.results.items in
    let all : all_passed results ≡ true = ap all_passed (sym c.as_slice.ensures.value) ∙ sym c.all_passed.ensures ∙ c.if-not-all_passed.false in
    let whole : check_holds A (whole_of p results) ≡ true = check-is c.in_ok-joined.joined.holds A (whole_of p results) c.in_ok-joined.ensures.holds ∙ c.if-joined.true in
    (delivers-is p results true true all whole, c.in_ok-joined.ensures.payload)

pub returns-else-joined : goal.returns-else-joined
returns-else-joined c =
    let p : Plan = c.args.plan.now in
    let results : List CodeResult = c.args.results.items in
    let all : all_passed results ≡ true = ap all_passed (sym c.as_slice.ensures.value) ∙ sym c.all_passed.ensures ∙ c.if-not-all_passed.false in
    let whole : check_holds A (whole_of p results) ≡ false = check-is c.in_ok-joined.joined.holds A (whole_of p results) c.in_ok-joined.ensures.holds ∙ c.if-joined.false in
    (delivers-is p results true false all whole, c.new.ensures.items ∙ ap (λ (b : Bool). cond b [] (map if_passed results)) (sym all))
