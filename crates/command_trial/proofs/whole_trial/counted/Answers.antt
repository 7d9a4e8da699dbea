use Rattle.std.proofs.Common.{ℕ, List, length, ap, sym, subst, ◌∙◌, arith}
use Rattle.model_receiver.specs.declared.result.TbOutcome.{TbOutcome}
use Rattle.command_trial.specs.Trials.{trial_of, added, counted, counts_of, none_counted, payload, AreFew}
use Rattle.command_trial.specs.declared.counts.Counts.{Counts}
use Rattle.command_trial.proofs.Sums.{counted-more, counted-none}
use Rattle.command_trial.proofs.whole_trial.counted.Goals as goal

none_few : AreFew 0 none_counted
none_few = record { delivered = omega arith; matched = omega arith; failed = omega arith; transmissions = omega arith; iterations = omega arith }

pub loop-block-init : goal.loop-block-init
loop-block-init c = record {
  value = c.new-sums.ensures ∙ counted-none (trial_of c.args.trial.now);
  few = subst (AreFew 0) (sym c.new-sums.ensures) none_few;
}

pub outcome-requires-clause-long : goal.outcome-requires-clause-long
outcome-requires-clause-long c =
    ap length c.as_slice.ensures ∙ c.in_ok-sent.ensures.long

pub loop-block-preserved : goal.loop-block-preserved
loop-block-preserved c =
    let t = trial_of c.args.trial.now in
    let b = c.loop-block.block in
    let sent = c.as_slice-in-loop-block.ensures ∙ c.in_ok-sent.ensures.value in
    record {
      value = c.with-sums.ensures.value
          ∙ ap (λ (s : Counts). added s (counts_of c.as_slice-in-loop-block.result.now c.in_ok-outcome.outcome)) c.loop-block.invariant.value
          ∙ ap (λ (xs : List ℕ). added (counted t b) (counts_of xs c.in_ok-outcome.outcome)) sent
          ∙ ap (λ (o : TbOutcome). added (counted t b) (counts_of (payload t b) o)) c.in_ok-outcome.ensures
          ∙ sym (counted-more t b);
      few = c.with-sums.ensures.few;
    }
