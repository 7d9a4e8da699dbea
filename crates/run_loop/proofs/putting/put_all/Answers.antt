use Rattle.std.proofs.Common.{List, ℕ, Err, sym, subst, arith}
use Rattle.edge_io.specs.Edge.{Adds}
use Rattle.edge_io.proofs.Known.{adds_then}
use Rattle.run_loop.specs.Puts.{Puts}
use Rattle.run_loop.proofs.Parts.{texts_more, lines_more, stopped_at}
use Rattle.run_loop.proofs.putting.put_all.Goals as goal

pub returns-in-Err-clause-bytes : goal.returns-in-Err-clause-bytes
returns-in-Err-clause-bytes g c =
    let P : List ℕ → List ℕ → Type 0 = λ t l. Puts {T = Unit {0}} (g.D.Sink.held c.loop-part.out) (g.D.Sink.held c.put.new.out)
    (g.R.Sink.held c.loop-part.report) (g.R.Sink.held c.put.new.report) t l (Err c.in-Err.sink) in
    let put : P c.part-item.result.text.items c.part-item.result.line.items =
    subst (λ (t : List ℕ). P t c.part-item.result.line.items) c.as_slice.ensures.value
    (subst (λ (l : List ℕ). P c.as_slice.result.now l) c.as_slice-in-loop-part.ensures.value c.in-Err.ensures.bytes) in
    stopped_at _ _ _ _ _ _ c.args.parts.now c.loop-part.part-index c.part-item.result c.in-Err.sink
    (omega (arith, c.loop-part-test.true)) c.part-item.is c.loop-part.invariant.out c.loop-part.invariant.report put

pub loop-part-preserved : goal.loop-part-preserved
loop-part-preserved g c =
    let i = c.loop-part.part-index in
    let P : List ℕ → Type 0 = λ t. Adds (g.D.Sink.held c.args.out.now) (g.D.Sink.held c.put.new.out) t in
    let R : List ℕ → Type 0 = λ t. Adds (g.R.Sink.held c.args.report.now) (g.R.Sink.held c.put.new.report) t in
    let put = c.in_default.ensures.bytes in
    record {
      out = subst P (sym (texts_more c.args.parts.now i c.part-item.result (omega (arith, c.loop-part-test.true)) c.part-item.is))
          (rw (sym c.as_slice.ensures.value) (adds_then _ _ _ _ _ c.loop-part.invariant.out put.0));
      report = subst R (sym (lines_more c.args.parts.now i c.part-item.result (omega (arith, c.loop-part-test.true)) c.part-item.is))
          (rw (sym c.as_slice-in-loop-part.ensures.value) (adds_then _ _ _ _ _ c.loop-part.invariant.report put.1));
      outs = omega (arith, c.loop-part.invariant.outs, c.put.ensures.cause.out_later);
      reports = omega (arith, c.loop-part.invariant.reports, c.put.ensures.cause.report_later);
    }
