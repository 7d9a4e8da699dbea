use Rattle.std.proofs.Common.{ℕ, List, Err, ap, sym, subst, arith}
use Rattle.edge_io.proofs.Known.{adds_no_bytes, adds_none}
use Rattle.run_loop.specs.Edges.{told, Causes}
use Rattle.run_loop.specs.Ended.{Ended}
use Rattle.run_loop.specs.declared.status.Status.{Status}
use Rattle.stream_loop.proofs.Openings.{causes_of}
use Rattle.command_batch.specs.Batch.{batch_answer}
use Rattle.command_batch.proofs.BatchOpens.{opened_batch, unopened_batch}
use Rattle.command_batch.proofs.batch.BatchOpen.open.Goals as goal

pub returns-in-Ok-clause-opens : goal.returns-in-Ok-clause-opens
returns-in-Ok-clause-opens g c report reports =
    let out = g.D.Sink.held c.args._out.now in
    let old = told (g.S.Source.left c.args.source.now) out report (g.S.Source.faults c.args.source.now) (g.D.Sink.faults c.args._out.now) reports in
    let new = told (g.S.Source.left c.begin.new.source) out report (g.S.Source.faults c.begin.new.source) (g.D.Sink.faults c.args._out.now) reports in
    record {
      opens = λ input is. opened_batch c.args.self.limits.now (g.R.Runner.pipes c.args.self.runner) c.in-Ok.reader input old new (c.in-Ok.ensures.begins input is) c.in-Ok.ensures.accepted
          (adds_none out) (adds_none report);
      causes = tt;
      moved = record {
        left = c.begin.ensures.moved;
        out = adds_no_bytes out;
        report = adds_no_bytes report;
        reads = c.begin.ensures.later;
        outs = omega arith;
        reports = omega arith;
      };
    }

pub returns-in-Err-clause-opens : goal.returns-in-Err-clause-opens
returns-in-Err-clause-opens g c report reports =
    let out = g.D.Sink.held c.args._out.now in
    let e = c.args.self.limits.now in
    let old = told (g.S.Source.left c.args.source.now) out report (g.S.Source.faults c.args.source.now) (g.D.Sink.faults c.args._out.now) reports in
    let new = told (g.S.Source.left c.begin.new.source) out report (g.S.Source.faults c.begin.new.source) (g.D.Sink.faults c.args._out.now) reports in
    let E : (input : List ℕ) → Status → Type 0 = λ input s. Ended (batch_answer e (g.R.Runner.pipes c.args.self.runner) input) old new s in
    record {
      opens = λ input is. subst (E input) (sym c.status_of.ensures)
          (unopened_batch e (g.R.Runner.pipes c.args.self.runner) input old new c.in-Err.stop (c.in-Err.ensures.begins input is) (adds_none out) (adds_none report));
      causes = subst (Causes old new) (sym c.status_of.ensures) (causes_of old new c.in-Err.stop (λ e. c.in-Err.ensures.fault (ap Err e)));
      moved = record {
        left = c.begin.ensures.moved;
        out = adds_no_bytes out;
        report = adds_no_bytes report;
        reads = c.begin.ensures.later;
        outs = omega arith;
        reports = omega arith;
      };
    }
