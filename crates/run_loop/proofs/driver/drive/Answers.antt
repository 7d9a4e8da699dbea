use Rattle.std.proofs.Common.{subst, sym}
use Rattle.run_loop.specs.Edges.{edges}
use Rattle.run_loop.specs.Puts.{HasSinkCause}
use Rattle.run_loop.specs.Reply.{reading, Ends}
use Rattle.run_loop.specs.Step.{StopsBy, parts_of}
use Rattle.run_loop.proofs.Endings.{wrote, went_on, failed, failed_alone, blocked, closed_done, ends_done, read_whole, unclosed}
use Rattle.run_loop.proofs.Moves.{moved_put, moved_put_each, moved_reading}
use Rattle.run_loop.proofs.Rises.{causes_failing, causes_writing}
use Rattle.run_loop.proofs.driver.drive.Goals as goal

pub returns-in-Err : goal.returns-in-Err
returns-in-Err g c =
    let o = c.in-Err.ensures.opens (g.R.Sink.held c.args.report.now) (g.R.Sink.faults c.args.report.now) in
    record { ended = o.opens; causes = o.causes; moved = o.moved }

pub loop-round-init : goal.loop-round-init
loop-round-init g c =
    let o = c.in-Ok.ensures.opens (g.R.Sink.held c.args.report.now) (g.R.Sink.faults c.args.report.now) in
    record { reached = o.opens; ready = c.in-Ok.ensures.ready; moved = o.moved }

pub returns-in-Err-round : goal.returns-in-Err-round
returns-in-Err-round g c =
    let was = c.loop-round.invariant in
    let old = edges g.S.Source g.D.Sink g.R.Sink c.args.source.now c.args.out.now c.args.report.now in
    let mid = edges g.S.Source g.D.Sink g.R.Sink c.loop-round.source c.loop-round.out c.loop-round.report in
    let new = edges g.S.Source g.D.Sink g.R.Sink c.round.new.source c.loop-round.out c.loop-round.report in
    let status = c.in-Err-round.status in
    record {
      ended = λ input is.
          let r = was.reached input is in
          failed_alone (g.O.Open.answer c.args.command input) (g.O.Rounds.Work.answer c.loop-round.work) old mid new.left new.reads status r (c.in-Err-round.ensures.step r.rest r.left);
      causes = causes_failing old new mid.reads status was.moved.reads c.in-Err-round.ensures.fails;
      moved = moved_reading old mid new.left new.reads was.moved c.round.ensures.moved c.round.ensures.later;
    }

pub returns-in-Err-put_all : goal.returns-in-Err-put_all
returns-in-Err-put_all g c =
    let was = c.loop-round.invariant in
    let whole = g.O.Open.answer c.args.command in
    let old = edges g.S.Source g.D.Sink g.R.Sink c.args.source.now c.args.out.now c.args.report.now in
    let mid = edges g.S.Source g.D.Sink g.R.Sink c.loop-round.source c.loop-round.out c.loop-round.report in
    let new = edges g.S.Source g.D.Sink g.R.Sink c.round.new.source c.put_all.new.out c.put_all.new.report in
    record {
      ended = λ input is.
          let r = was.reached input is in
          blocked (whole input) (g.O.Rounds.Work.answer c.loop-round.work) (g.O.Rounds.Work.answer c.round.new.self) old mid new c.in-Ok-round.round c.as_slice.result.now
          c.in-Err-put_all.sink r (c.in-Ok-round.ensures.step r.rest r.left) c.as_slice.ensures.value c.in-Err-put_all.ensures.bytes;
      causes = causes_writing old mid new c.in-Err-put_all.sink was.moved (subst (HasSinkCause mid.outs new.outs mid.reports new.reports) c.in-Err-put_all.is c.put_all.ensures.cause);
      moved = moved_put_each old (record mid { left = new.left; reads = new.reads }) new.out new.report new.outs new.reports (parts_of c.as_slice.result.now) c.put_all.result
          (moved_reading old mid new.left new.reads was.moved c.round.ensures.moved c.round.ensures.later) c.put_all.ensures.bytes c.put_all.ensures.cause;
    }

pub returns-in-Err-put : goal.returns-in-Err-put
returns-in-Err-put g c =
    let was = c.loop-round.invariant in
    let whole = g.O.Open.answer c.args.command in
    let answer = g.O.Rounds.Work.answer c.loop-round.work in
    let after = g.O.Rounds.Work.answer c.round.new.self in
    let old = edges g.S.Source g.D.Sink g.R.Sink c.args.source.now c.args.out.now c.args.report.now in
    let mid = edges g.S.Source g.D.Sink g.R.Sink c.loop-round.source c.loop-round.out c.loop-round.report in
    let between = edges g.S.Source g.D.Sink g.R.Sink c.round.new.source c.put_all.new.out c.put_all.new.report in
    let new = edges g.S.Source g.D.Sink g.R.Sink c.round.new.source c.put.new.out c.put.new.report in
    let moved = moved_put_each old (record mid { left = between.left; reads = between.reads }) between.out between.report between.outs between.reports (parts_of c.as_slice.result.now) c.put_all.result
    (moved_reading old mid between.left between.reads was.moved c.round.ensures.moved c.round.ensures.later) c.put_all.ensures.bytes c.put_all.ensures.cause in
    let end = c.in-End in
    record {
      ended = λ input is.
          let r = was.reached input is in
          let step = c.in-Ok-round.ensures.step r.rest r.left in
          let w = wrote (whole input) answer after old mid between c.in-Ok-round.round c.as_slice.result.now r step c.as_slice.ensures.value c.in_default.ensures.bytes in
          unclosed (whole input) step.0 after _ step.1 old between new c.in-Ok-round.round.stop end.closing end.last end.failed c.as_slice-in-End.result.now c.as_slice-in-End-2.result.now
          c.in-Err-put.sink w end.is step.4 c.as_slice-in-End.ensures.value c.as_slice-in-End-2.ensures.value c.in-Err-put.ensures.bytes
          (read_whole (whole input) answer after old mid new.left c.in-Ok-round.round r step);
      causes = causes_writing old between new c.in-Err-put.sink moved (subst (HasSinkCause between.outs new.outs between.reports new.reports) c.in-Err-put.is c.put.ensures.cause);
      moved = moved_put old between new.out new.report new.outs new.reports c.as_slice-in-End.result.now c.as_slice-in-End-2.result.now c.put.result moved c.put.ensures.bytes c.put.ensures.cause;
    }

pub returns-in-End : goal.returns-in-End
returns-in-End g c =
    let was = c.loop-round.invariant in
    let whole = g.O.Open.answer c.args.command in
    let answer = g.O.Rounds.Work.answer c.loop-round.work in
    let after = g.O.Rounds.Work.answer c.round.new.self in
    let old = edges g.S.Source g.D.Sink g.R.Sink c.args.source.now c.args.out.now c.args.report.now in
    let mid = edges g.S.Source g.D.Sink g.R.Sink c.loop-round.source c.loop-round.out c.loop-round.report in
    let between = edges g.S.Source g.D.Sink g.R.Sink c.round.new.source c.put_all.new.out c.put_all.new.report in
    let new = edges g.S.Source g.D.Sink g.R.Sink c.round.new.source c.put.new.out c.put.new.report in
    let moved = moved_put_each old (record mid { left = between.left; reads = between.reads }) between.out between.report between.outs between.reports (parts_of c.as_slice.result.now) c.put_all.result
    (moved_reading old mid between.left between.reads was.moved c.round.ensures.moved c.round.ensures.later) c.put_all.ensures.bytes c.put_all.ensures.cause in
    let end = c.in-End in
    subst (Ends (λ input. reading (whole input)) old new) (sym c.done.ensures)
    (ends_done whole old new end.failed
    (moved_put old between new.out new.report new.outs new.reports c.as_slice-in-End.result.now c.as_slice-in-End-2.result.now c.put.result moved c.put.ensures.bytes c.put.ensures.cause)
    (λ input is.
    let r = was.reached input is in
    let step = c.in-Ok-round.ensures.step r.rest r.left in
    let w = wrote (whole input) answer after old mid between c.in-Ok-round.round c.as_slice.result.now r step c.as_slice.ensures.value c.in_default.ensures.bytes in
    closed_done (whole input) step.0 after _ step.1 old between new c.in-Ok-round.round.stop end.closing end.last end.failed c.as_slice-in-End.result.now c.as_slice-in-End-2.result.now
    w end.is step.4 c.as_slice-in-End.ensures.value c.as_slice-in-End-2.ensures.value c.in_default-put.ensures.bytes))

pub returns-in-Fails : goal.returns-in-Fails
returns-in-Fails g c =
    let was = c.loop-round.invariant in
    let whole = g.O.Open.answer c.args.command in
    let after = g.O.Rounds.Work.answer c.round.new.self in
    let old = edges g.S.Source g.D.Sink g.R.Sink c.args.source.now c.args.out.now c.args.report.now in
    let mid = edges g.S.Source g.D.Sink g.R.Sink c.loop-round.source c.loop-round.out c.loop-round.report in
    let new = edges g.S.Source g.D.Sink g.R.Sink c.round.new.source c.put_all.new.out c.put_all.new.report in
    record {
      ended = λ input is.
          let r = was.reached input is in
          let step = c.in-Ok-round.ensures.step r.rest r.left in
          let w = wrote (whole input) (g.O.Rounds.Work.answer c.loop-round.work) after old mid new c.in-Ok-round.round c.as_slice.result.now r step c.as_slice.ensures.value
          c.in_default.ensures.bytes in
          failed (whole input) step.0 after r.front _ step.1 old new c.in-Ok-round.round.stop c.in-Fails.status w r.some c.in-Fails.is step.4;
      causes = causes_failing old new mid.reads c.in-Fails.status was.moved.reads (subst (StopsBy mid.reads new.reads) c.in-Fails.is c.in-Ok-round.ensures.stops);
      moved = moved_put_each old (record mid { left = new.left; reads = new.reads }) new.out new.report new.outs new.reports (parts_of c.as_slice.result.now) c.put_all.result
          (moved_reading old mid new.left new.reads was.moved c.round.ensures.moved c.round.ensures.later) c.put_all.ensures.bytes c.put_all.ensures.cause;
    }

pub loop-round-preserved : goal.loop-round-preserved
loop-round-preserved g c =
    let was = c.loop-round.invariant in
    let whole = g.O.Open.answer c.args.command in
    let after = g.O.Rounds.Work.answer c.round.new.self in
    let old = edges g.S.Source g.D.Sink g.R.Sink c.args.source.now c.args.out.now c.args.report.now in
    let mid = edges g.S.Source g.D.Sink g.R.Sink c.loop-round.source c.loop-round.out c.loop-round.report in
    let new = edges g.S.Source g.D.Sink g.R.Sink c.round.new.source c.put_all.new.out c.put_all.new.report in
    record {
      reached = λ input is.
          let r = was.reached input is in
          let step = c.in-Ok-round.ensures.step r.rest r.left in
          let w = wrote (whole input) (g.O.Rounds.Work.answer c.loop-round.work) after old mid new c.in-Ok-round.round c.as_slice.result.now r step c.as_slice.ensures.value
          c.in_default.ensures.bytes in
          went_on (whole input) step.0 after r.front _ step.1 old new c.in-Ok-round.round.stop w r.some c.in-Go.is step.4;
      ready = c.in-Ok-round.ensures.ready c.in-Go.is;
      moved = moved_put_each old (record mid { left = new.left; reads = new.reads }) new.out new.report new.outs new.reports (parts_of c.as_slice.result.now) c.put_all.result
          (moved_reading old mid new.left new.reads was.moved c.round.ensures.moved c.round.ensures.later) c.put_all.ensures.bytes c.put_all.ensures.cause;
    }
