use Rattle.std.proofs.Common.{◌≡◌, ℕ, ◌<◌, List, length, take, IfOk, Err, ap, sym, subst, ◌∙◌, arith}
use Rattle.std.specs.Option.{option_map}
use Rattle.edge_io.specs.Edge.{Adds}
use Rattle.edge_io.proofs.Known.{adds_no_bytes, adds_none}
use Rattle.std.specs.declared.result.Result.{Result}
use Rattle.std.proofs.lemmas.Result.{err_from_is_err_and}
use Rattle.coded_stream.specs.Header.{Header}
use Rattle.coded_stream.specs.Opening.{opening}
use Rattle.coded_stream.specs.Steps.{Reading, Begins, IsBegun}
use Rattle.coded_stream.specs.declared.stop.StreamStop.{StreamStop}
use Rattle.coded_stream.specs.Shown.{header_of}
use Rattle.run_loop.specs.Edges.{told, Causes}
use Rattle.run_loop.specs.Ended.{Ended}
use Rattle.run_loop.specs.declared.status.Status.{Status}
use Rattle.stream_loop.specs.Handling.{opening_text, stream_answer}
use Rattle.stream_loop.proofs.HandedOn.{stop_of, value_of}
use Rattle.stream_loop.proofs.Openings.{causes_of, opened_stream, unopened, unwritten_stream}
use Rattle.stream_loop.proofs.stream.StreamOpen.open.Goals as goal

pub returns-in_err-reader-clause-opens : goal.returns-in_err-reader-clause-opens
returns-in_err-reader-clause-opens g c report reports =
    let w = g.H.Handler.handling c.args.self.0 in
    let old = told (g.S.Source.left c.args.source.now) (g.D.Sink.held c.args.out.now) report (g.S.Source.faults c.args.source.now) (g.D.Sink.faults c.args.out.now) reports in
    let new = told (g.S.Source.left c.begin.new.source) (g.D.Sink.held c.args.out.now) report (g.S.Source.faults c.begin.new.source) (g.D.Sink.faults c.args.out.now) reports in
    let E : (input : List ℕ) → Status → Type 0 = λ input s. Ended (stream_answer w input) old new s in
    let Answered : (input : List ℕ) → Result Reading StreamStop → Type 0 = λ input r. Begins (opening c.want.result input) old.left new.left r in
    let given = stop_of c.begin.result c.map_err.result c.in_err-reader.field-0.0 c.map_err.ensures.cases c.in_err-reader.was in
    let p = err_from_is_err_and c.from_residual.result c.from_residual.ensures.1 in
    rw (p.1, p.2) (record {
      opens = λ input is. subst (E input) (sym given.2)
          (unopened w c.want.result input old new given.0 c.want.ensures (subst (Answered input) given.1 (c.begin.ensures.begins input is)) (adds_none old.out) (adds_none report));
      causes = subst (Causes old new) (sym given.2) (causes_of old new given.0 (λ e. c.begin.ensures.fault (given.1 ∙ ap Err e)));
      moved = record {
        left = c.begin.ensures.moved;
        out = adds_no_bytes old.out;
        report = adds_no_bytes report;
        reads = c.begin.ensures.later;
        outs = omega arith;
        reports = omega arith;
      };
    })

pub returns-in-Err-clause-opens : goal.returns-in-Err-clause-opens
returns-in-Err-clause-opens g c report reports =
    let w = g.H.Handler.handling c.args.self.0 in
    let old = told (g.S.Source.left c.args.source.now) (g.D.Sink.held c.args.out.now) report (g.S.Source.faults c.args.source.now) (g.D.Sink.faults c.args.out.now) reports in
    let new = told (g.S.Source.left c.begin.new.source) (g.D.Sink.held c.write_opening.new.out) report (g.S.Source.faults c.begin.new.source) (g.D.Sink.faults c.write_opening.new.out) reports in
    let err = c.in-Err.ensures.err in
    let given = value_of c.begin.result c.map_err.result c.in_ok-reader.reader c.map_err.ensures.cases c.in_ok-reader.was in
    let Answered : (input : List ℕ) → Result Reading StreamStop → Type 0 = λ input r. Begins (opening c.want.result input) old.left new.left r in
    let begun = subst (λ (r : Result Reading StreamStop). IfOk r (IsBegun c.want.result)) given c.begin.ensures.accepted in
    let H : Header → Type 0 = λ h. option_map header_of c.header-2.result ≡ w.header h in
    let same = ap opening_text (subst H c.header.ensures c.header-2.ensures) in
    record {
      opens = λ input is. unwritten_stream w c.want.result c.in_ok-reader.reader input old new err.0 c.want.ensures (subst (Answered input) given (c.begin.ensures.begins input is)) begun
          (subst (λ (t : List ℕ). 0 < length t) same c.in-Err.ensures.some) (subst (λ (t : List ℕ). Adds old.out new.out (take err.0 t)) same err.1) (adds_none report);
      causes = c.in-Err.ensures.cause.failed;
      moved = record {
        left = c.begin.ensures.moved;
        out = (_, err.1);
        report = adds_no_bytes report;
        reads = c.begin.ensures.later;
        outs = c.write_opening.ensures.cause.later;
        reports = omega arith;
      };
    }

pub returns-clause-opens : goal.returns-clause-opens
returns-clause-opens g c report reports =
    let w = g.H.Handler.handling c.args.self.0 in
    let old = told (g.S.Source.left c.args.source.now) (g.D.Sink.held c.args.out.now) report (g.S.Source.faults c.args.source.now) (g.D.Sink.faults c.args.out.now) reports in
    let new = told (g.S.Source.left c.begin.new.source) (g.D.Sink.held c.write_opening.new.out) report (g.S.Source.faults c.begin.new.source) (g.D.Sink.faults c.write_opening.new.out) reports in
    let given = value_of c.begin.result c.map_err.result c.in_ok-reader.reader c.map_err.ensures.cases c.in_ok-reader.was in
    let Answered : (input : List ℕ) → Result Reading StreamStop → Type 0 = λ input r. Begins (opening c.want.result input) old.left new.left r in
    let begun = subst (λ (r : Result Reading StreamStop). IfOk r (IsBegun c.want.result)) given c.begin.ensures.accepted in
    let H : Header → Type 0 = λ h. option_map header_of c.header-2.result ≡ w.header h in
    let same = ap opening_text (subst H c.header.ensures c.header-2.ensures) in
    record {
      opens = λ input is. opened_stream w c.want.result c.in_ok-reader.reader input old new c.want.ensures (subst (Answered input) given (c.begin.ensures.begins input is)) begun
          (subst (λ (t : List ℕ). Adds old.out new.out t) same c.in_default.ensures.ok) (adds_none report);
      causes = tt;
      moved = record {
        left = c.begin.ensures.moved;
        out = (_, c.in_default.ensures.ok);
        report = adds_no_bytes report;
        reads = c.begin.ensures.later;
        outs = c.write_opening.ensures.cause.later;
        reports = omega arith;
      };
    }
