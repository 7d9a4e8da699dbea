use Rattle.std.proofs.Common.{subst, ap, ◌∙◌}
use Rattle.crossbeam_queue.specs.Passes.{view}
use Rattle.tb_pipeline.specs.declared.known.Item.TheVariants.{Number, EndMark}
use Rattle.tb_pipeline.specs.Hands.{hand_view}
use Rattle.tb_pipeline.specs.Relays.{Popped}
use Rattle.tb_pipeline.proofs.RelaySteps.{pops_one}
use Rattle.tb_pipeline.proofs.Taking.{number_popped, end_popped}
use Rattle.tb_pipeline.proofs.hand.Relay.take.Goals as goal

pub try_pop_as-requires-clause-rule : goal.try_pop_as-requires-clause-rule
try_pop_as-requires-clause-rule g c =
    pops_one _ _ (ap (λ v. v.role) c.loop.invariant.3 ∙ c.requires.hand.2) (ap (λ v. v.ended) c.loop.invariant.3 ∙ c.requires.going_on)

pub returns-in-Some-Number : goal.returns-in-Some-Number
returns-in-Some-Number g c =
    let relay = c.args.self.now in let v = hand_view c.args.hand in let w = view c.try_pop_as.new.pass in let number = c.in-Some-Number.number in
    let told : Popped v (Number number) w = subst (λ u. Popped u (Number number) w) c.loop.invariant.3
    (subst (λ y. Popped (view c.loop.pass) y w) c.in-Some-Number.field-0-is c.in-Some-Number.ensures.rule) in
    let same = c.try_pop_as.ensures.queue in let here = c.loop.invariant.2 in let given = c.requires.hand in
    let popped = number_popped relay.count relay.hands v w given.1 number told in (
      ((same.0 ∙ here.0, same.2 ∙ here.1), told.0 ∙ given.1, told.1 ∙ given.2),
      popped.0,
      popped.1,
      popped.2,
      told.2,
    )

pub returns-in-Some-EndMark : goal.returns-in-Some-EndMark
returns-in-Some-EndMark g c =
    let relay = c.args.self.now in let v = hand_view c.args.hand in let w = view c.try_pop_as.new.pass in
    let told : Popped v EndMark w = subst (λ u. Popped u EndMark w) c.loop.invariant.3 (subst (λ y. Popped (view c.loop.pass) y w) c.in-Some-EndMark.field-0-is c.in-Some-EndMark.ensures.rule) in
    let same = c.try_pop_as.ensures.queue in let here = c.loop.invariant.2 in let given = c.requires.hand in (
      ((same.0 ∙ here.0, same.2 ∙ here.1), told.0 ∙ given.1, told.1 ∙ given.2),
      end_popped relay.count relay.hands v w given.1 told,
      told.2,
    )
