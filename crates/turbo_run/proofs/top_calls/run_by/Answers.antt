use Rattle.std.proofs.Common.{sym}
use Rattle.run_loop.specs.Edges.{edges}
use Rattle.turbo_run.proofs.Runnings.{runs_as}
use Rattle.turbo_run.proofs.top_calls.run_by.Goals as goal

pub returns-in-Ok : goal.returns-in-Ok
returns-in-Ok g c =
    let done = c.perform-status in
    let old = edges g.S.Source g.D.Sink g.R.Sink c.args.source.now c.args.out.now c.args.report.now in
    let mid = edges g.S.Source g.D.Sink g.R.Sink done.new.source done.new.out done.new.report in
    record {
      runs = runs_as _ c.in-Ok.command c.args.source.now done.new.source c.args.out.now done.new.out old mid (g.R.Sink.held c.write_fault_line.new.report)
          (g.R.Sink.faults c.write_fault_line.new.report) done.result
          (sym c.in-Ok.ensures.command) done.ensures.ends done.ensures.alone done.ensures.unread c.write_fault_line.ensures.later c.write_fault_line.ensures.told;
    }
