use Rattle.std.proofs.Common.{◌≡◌, ◌≤◌, ℕ, List, nat_lt, Bool, true, false, refl, ap, sym, subst, ◌∙◌, arith}
use Rattle.std.specs.declared.option.Option.{Option}
use Rattle.edge_io.specs.Edge.{Adds}
use Rattle.edge_io.proofs.Known.{adds_no_bytes, takes_no_bytes}
use Rattle.run_loop.specs.Edges.{HasMoved, told}
use Rattle.run_loop.specs.Reply.{Ends}
use Rattle.run_loop.specs.Step.{done, ending_of}
use Rattle.command_trial.specs.Trials.{trial_of, counted, trial_line, trial_reply, IsTold, Trial}
use Rattle.command_trial.proofs.whole_trial.run_trial.Goals as goal

-- the line was written
ends_told : (t : Trial) (line shown : List ℕ) (failed : Bool) (left out report report' : Option (List ℕ)) (reads outs reports reports' : ℕ) →
    IsTold t line failed → shown ≡ line → Adds report report' shown → reports ≤ reports' →
    Ends (λ _. trial_reply t) (told left out report reads outs reports) (told left out report' reads outs reports') (done failed)
ends_told t line shown failed left out report report' reads outs reports reports' (line_is, failed_is) same added later =
    let moved : HasMoved (told left out report reads outs reports) (told left out report' reads outs reports') =
    record { left = takes_no_bytes left; out = adds_no_bytes out; report = (shown, added); reads = omega arith; outs = omega arith; reports = later } in
    let P : List ℕ → Type 0 = λ xs. Adds report report' xs in
    of failed (ap ending_of (sym failed_is)) (subst P (same ∙ line_is) added) moved
  where
    of : (f : Bool) → ending_of (nat_lt 0 (counted t t.blocks).failed) ≡ ending_of f → Adds report report' (trial_line t.blocks (counted t t.blocks)) →
        HasMoved (told left out report reads outs reports) (told left out report' reads outs reports') →
        Ends (λ _. trial_reply t) (told left out report reads outs reports) (told left out report' reads outs reports') (done f)
    of true ends all moved = record { ended = λ input is. (refl, refl, (ends, all)); causes = tt; moved = moved }
    of false ends all moved = record { ended = λ input is. (refl, refl, (ends, all)); causes = tt; moved = moved }

pub returns-then-failed : goal.returns-then-failed
returns-then-failed g c left out reads outs =
    let t = trial_of c.args.trial.now in
    let E : Bool → Type 0 = λ f. Ends (λ _. trial_reply t) (told left out (g.R.Sink.held c.args.report.now) reads outs (g.R.Sink.faults c.args.report.now))
    (told left out (g.R.Sink.held c.write_all.new.sink) reads outs (g.R.Sink.faults c.write_all.new.sink)) (done f) in
    subst E c.if-failed.true
    (ends_told t c.in-Ok.line.items c.as_slice.result.now c.in-Ok.failed left out _ _ reads outs _ _ c.in-Ok.ensures c.as_slice.ensures.value c.in_default.ensures.ok c.write_all.ensures.cause.later)

pub returns-in-Ok : goal.returns-in-Ok
returns-in-Ok g c left out reads outs =
    let t = trial_of c.args.trial.now in
    let E : Bool → Type 0 = λ f. Ends (λ _. trial_reply t) (told left out (g.R.Sink.held c.args.report.now) reads outs (g.R.Sink.faults c.args.report.now))
    (told left out (g.R.Sink.held c.write_all.new.sink) reads outs (g.R.Sink.faults c.write_all.new.sink)) (done f) in
    subst E c.if-failed.false
    (ends_told t c.in-Ok.line.items c.as_slice.result.now c.in-Ok.failed left out _ _ reads outs _ _ c.in-Ok.ensures c.as_slice.ensures.value c.in_default.ensures.ok c.write_all.ensures.cause.later)
