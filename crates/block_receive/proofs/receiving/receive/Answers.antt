use Rattle.std.proofs.Common.{◌≡◌, ℕ, ◌+◌, ◌≤◌, ℤ, List, length, drop, take, sym, ap, ◌∙◌, subst, arith}
use Rattle.std.specs.Prelude.{Option, None, Some}
use Rattle.rate_match.specs.Sendings.{common}
use Rattle.rate_match.specs.declared.sends.Sending.{Sending}
use Rattle.rate_match.proofs.EachSending.{version_at}
use Rattle.model_receiver.specs.SoftCells.{Reception, reception}
use Rattle.model_receiver.specs.declared.result.TbOutcome.TheVariants.{Failed}
use Rattle.model_receiver.specs.declared.result.CodeResult.{CodeResult}
use Rattle.block_receive.specs.Progress.{GoesOn}
use Rattle.block_receive.specs.declared.progress.Progress.{Progress}
use Rattle.block_receive.specs.declared.task.Task.{Task}
use Rattle.block_receive.proofs.UnderWay.{IsUnderWay, all-at, enough, outcome-delivered, outcome-failed, under-way-first, under-way-next}
use Rattle.block_receive.proofs.receiving.receive.Goals as goal

pub loop-i-init : goal.loop-i-init
loop-i-init g c = record {
  plan = c.in_ok-progress.ensures.plan;
  limit = c.in_ok-progress.ensures.limit ∙ c.buffer.ensures.value;
  held = c.in_ok-progress.ensures.held;
  under_way = under-way-first c.args.task.now c.args.sends.now c.args.softs.now c.in_ok-progress.progress c.in_ok-progress.ensures.reached c.requires.values;
}

pub split_at-requires : goal.split_at-requires
split_at-requires g c =
    let s : Sending = record { m = c.at-m.result.0; rv = c.at-m.result.1 } in
    let way = c.loop-i.invariant.under_way in
    omega (arith, enough c.args.sends.now c.loop-i.i c.loop-i.rest.now s c.at-m.ensures.value way.long, c.g.ensures.value)

pub take-requires-clause-buffer : goal.take-requires-clause-buffer
take-requires-clause-buffer g c =
    let s : Sending = record { m = c.at-m.result.0; rv = c.at-m.result.1 } in
    all-at (λ (x : Sending). x.m.limit ≡ (common c.args.sends.now).limit) c.args.sends.now c.loop-i.i s c.at-m.ensures.lawful.buffer c.at-m.ensures.value
    ∙ sym c.loop-i.invariant.limit

pub take-requires-clause-version : goal.take-requires-clause-version
take-requires-clause-version g c =
    version_at c.args.sends.now c.loop-i.i (record { m = c.at-m.result.0; rv = c.at-m.result.1 }) c.at-m.ensures.lawful c.at-m.ensures.value

-- what transmission i brings, from how its values were split off
brought : (task : Task) (seen : List Reception) (last : List CodeResult) (s : Sending) (g : ℕ) (rest values : List ℤ) (p : Progress) (o o' : Option (List ℕ))
    → values ≡ take g rest → g ≡ s.m.g → o ≡ o'
    → GoesOn task seen last (reception s.m s.rv values) p o → GoesOn task seen last (reception s.m s.rv (take s.m.g rest)) p o'
brought task seen last s g rest values p o o' front count same on =
    subst (λ (vs : List ℤ). GoesOn task seen last (reception s.m s.rv vs) p o') (front ∙ ap (λ (n : ℕ). take n rest) count)
    (subst (λ (x : Option (List ℕ)). GoesOn task seen last (reception s.m s.rv values) p x) same on)

pub returns-in-Some : goal.returns-in-Some
returns-in-Some g c =
    let s : Sending = record { m = c.at-m.result.0; rv = c.at-m.result.1 } in
    let way = c.loop-i.invariant.under_way in
    let rest = c.loop-i.rest.now in
    outcome-delivered c.args.task.now c.args.sends.now c.args.softs.now c.loop-i.i rest s c.loop-i.progress c.take.new.self c.in-Some.bytes way c.at-m.ensures.value
    (brought c.args.task.now way.seen way.last s c.g.result rest c.split_at.result.0.now c.take.new.self c.in_ok-bytes.field-0
    (Some c.in-Some.bytes) c.split_at.ensures.front c.g.ensures.value c.in-Some.is
    (c.in_ok-bytes.ensures.goes_on way.seen way.last way.reached))

pub loop-i-preserved : goal.loop-i-preserved
loop-i-preserved g c =
    let s : Sending = record { m = c.at-m.result.0; rv = c.at-m.result.1 } in
    let inv = c.loop-i.invariant in
    let way = inv.under_way in
    let rest = c.loop-i.rest.now in
    let left : c.split_at.result.1.now ≡ drop s.m.g rest = c.split_at.ensures.back ∙ ap (λ (n : ℕ). drop n rest) c.g.ensures.value in
    record {
      plan = c.in_ok-bytes.ensures.plan ∙ inv.plan;
      limit = c.in_ok-bytes.ensures.limit ∙ inv.limit;
      held = c.in_ok-bytes.ensures.held;
      under_way = subst (λ (r : List ℤ). IsUnderWay c.args.task.now c.args.sends.now c.args.softs.now (c.loop-i.i + 1) r c.take.new.self) (sym left)
          (under-way-next c.args.task.now c.args.sends.now c.args.softs.now c.loop-i.i rest s c.loop-i.progress c.take.new.self way c.at-m.ensures.value
          (brought c.args.task.now way.seen way.last s c.g.result rest c.split_at.result.0.now c.take.new.self c.in_ok-bytes.field-0 None c.split_at.ensures.front c.g.ensures.value c.in_default.is
          (c.in_ok-bytes.ensures.goes_on way.seen way.last way.reached)));
    }

pub returns : goal.returns
returns g c =
    let way = c.loop-i.invariant.under_way in
    let all : length c.args.sends.now ≤ c.loop-i.i = omega (arith, c.loop-i-test.false, c.loop-i.auto.i-end, c.len-i-end.ensures.value) in
    let past : c.len.result ≡ c.loop-i.i = omega (arith, c.loop-i-test.false, c.loop-i.auto.i-end, c.len-i-end.ensures.value, c.len.ensures.value) in
    ap (λ (n : ℕ). Failed n c.loop-i.progress.iterations) past
    ∙ outcome-failed c.args.task.now c.args.sends.now c.args.softs.now c.loop-i.i c.loop-i.rest.now c.loop-i.progress way all
