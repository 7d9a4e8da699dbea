use Rattle.std.proofs.Common.{◌≡◌, ℤ, ◌≤◌, List, All, length, sym, ap, ◌∙◌, subst, arith}
use Rattle.segmentation.proofs.OfPlans.{sound-plan}
use Rattle.model_sender.specs.Segmentation.{Plan}
use Rattle.model_receiver.specs.Limits.{AreLimits, DecoderLimits}
use Rattle.model_receiver.specs.TransportBlocks.{Held}
use Rattle.model_receiver.specs.declared.result.CodeResult.{CodeResult}
use Rattle.segmentation.specs.Plans.{IsPlan}
use Rattle.block_receive.specs.Held.{AreHeldOf, IsOf}
use Rattle.block_receive.specs.Progress.{ComesTo}
use Rattle.block_receive.specs.declared.progress.Tried.TheVariants.{Failed}
use Rattle.block_receive.specs.Tries.{tried_from}
use Rattle.block_receive.proofs.BlockResults.{lawful-in}
use Rattle.block_receive.proofs.ShapedBlocks.{AreOf, all-few, from-long, from-of, held-all, shaped-blocks}
use Rattle.block_receive.proofs.progress.Progress.take.Goals as goal

-- the results of a try that holds results of the plan's blocks
record AreTried (plan : Plan) (results : List CodeResult) : Type 0 where
  long : length results ≡ plan.c
  few : length results ≤ 25
  of : AreOf plan results

tried-of : (plan : Plan) (e : DecoderLimits) (cells : List (List ℤ)) (old held : Held) (results : List CodeResult) → IsPlan plan → AreLimits e → AreHeldOf plan old → held ≡ old
    → results ≡ tried_from plan e cells held → AreTried plan results
tried-of plan e cells old held results is within of same are =
    let now : results ≡ tried_from plan e cells old = are ∙ ap (tried_from plan e cells) same in
    let long : length results ≡ plan.c = ap length now ∙ from-long plan e cells old in
    record {
      long = long;
      few = omega (arith, long, (sound-plan plan is).few);
      of = subst (AreOf plan) (sym now) (from-of plan e cells old (lawful-in plan e is within) of);
    }

pub total_iterations-self-requires-clause-count : goal.total_iterations-self-requires-clause-count
total_iterations-self-requires-clause-count g c =
    let t = c.try_blocks.ensures in
    let are = tried-of c.args.task.now.plan c.args.task.now.limits c.combine.new.self.cells c.args.self.now.held.items c.replace-held.result.items c.in_ok-results.results.items
    t.lawful t.limits c.requires.held (ap (λ v. v.items) c.replace-held.ensures.value) c.in_ok-results.ensures.from in
    omega (arith, ap length c.as_slice.ensures.value, are.few)

pub total_iterations-self-requires-clause-few : goal.total_iterations-self-requires-clause-few
total_iterations-self-requires-clause-few g c =
    let t = c.try_blocks.ensures in
    let are = tried-of c.args.task.now.plan c.args.task.now.limits c.combine.new.self.cells c.args.self.now.held.items c.replace-held.result.items c.in_ok-results.results.items
    t.lawful t.limits c.requires.held (ap (λ v. v.items) c.replace-held.ensures.value) c.in_ok-results.ensures.from in
    subst (λ (rs : List CodeResult). All (λ x. x.iterations ≤ 16) rs) (sym c.as_slice.ensures.value) (all-few c.args.task.now.plan c.in_ok-results.results.items are.long are.of)

pub comes_to-requires : goal.comes_to-requires
comes_to-requires g c =
    let t = c.try_blocks.ensures in
    let are = tried-of c.args.task.now.plan c.args.task.now.limits c.combine.new.self.cells c.args.self.now.held.items c.replace-held.result.items c.in_ok-results.results.items
    t.lawful t.limits c.requires.held (ap (λ v. v.items) c.replace-held.ensures.value) c.in_ok-results.ensures.from in
    shaped-blocks c.args.task.now.plan c.in_ok-results.results.items are.long (λ r below. (are.of r below).0)

pub returns-in-Failed-clause-held : goal.returns-in-Failed-clause-held
returns-in-Failed-clause-held g c =
    let p : Plan = c.args.task.now.plan in
    let results : List CodeResult = c.in_ok-results.results.items in
    let t = c.try_blocks.ensures in
    let are = tried-of p c.args.task.now.limits c.combine.new.self.cells c.args.self.now.held.items c.replace-held.result.items results
    t.lawful t.limits c.requires.held (ap (λ v. v.items) c.replace-held.ensures.value) c.in_ok-results.ensures.from in
    let comes : ComesTo p results (Failed c.in-Failed.held) = subst (ComesTo p results) c.in-Failed.is c.in_ok-bytes.ensures in
    subst (AreHeldOf p) (sym comes.1) (held-all (IsOf p) p results are.of)
