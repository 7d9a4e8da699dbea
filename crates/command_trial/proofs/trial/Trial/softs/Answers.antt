use Rattle.std.proofs.Common.{◌≡◌, ◌+◌, ◌++◌, length, List, drop, ap, subst, ◌∙◌, append_assoc, arith}
use Rattle.rate_match.proofs.EachSending.{fits_at, turn_at, version_at}
use Rattle.rate_match.specs.declared.sends.Sending.{Sending}
use Rattle.block_receive.specs.Receptions.{value_count}
use Rattle.command_trial.specs.Trials.{trial_of, received, softs, softs_from}
use Rattle.command_trial.proofs.Sums.{value_count-cons}
use Rattle.command_trial.proofs.trial.Trial.softs.Goals as goal

pub push_received-requires-clause-fits : goal.push_received-requires-clause-fits
push_received-requires-clause-fits c =
    let t = c.args.self.now in
    let s : Sending = record { m = c.at-m.result.0; rv = c.at-m.result.1 } in
    fits_at t.sends t.tb t.tb c.loop-number.number s t.sent t.fits c.at-m.ensures.value t.some (omega arith)

pub push_received-requires-clause-version : goal.push_received-requires-clause-version
push_received-requires-clause-version c =
    let t = c.args.self.now in
    let s : Sending = record { m = c.at-m.result.0; rv = c.at-m.result.1 } in
    version_at t.sends c.loop-number.number s t.sent c.at-m.ensures.value

pub loop-number-preserved : goal.loop-number-preserved
loop-number-preserved c =
    let t = trial_of c.args.self.now in
    let block = c.args.block in
    let i = c.loop-number.number in
    let s : Sending = record { m = c.at-m.result.0; rv = c.at-m.result.1 } in
    let left = drop (i + 1) t.sends in
    let old = c.loop-number.values.items in
    let here = turn_at t.sends i s c.at-m.ensures.value in
    let V : List Sending → Type 0 = λ ss. old ++ softs_from t block i ss ≡ softs t block in
    let N : List Sending → Type 0 = λ ss. length old + value_count ss ≡ value_count t.sends in
    let before = subst N here c.loop-number.invariant.count in
    record {
      values = ap (λ xs. xs ++ softs_from t block (i + 1) left) c.in_ok-push_received.ensures.values
          ∙ append_assoc old (received t block i s) (softs_from t block (i + 1) left)
          ∙ subst V here c.loop-number.invariant.values;
      count = omega (arith, c.in_ok-push_received.ensures.count, before, value_count-cons s left);
    }
