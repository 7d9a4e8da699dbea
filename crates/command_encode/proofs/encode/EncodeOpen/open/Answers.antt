use Rattle.std.proofs.Common.{[], refl, arith}
use Rattle.edge_io.proofs.Known.{adds_no_bytes, adds_none, takes_no_bytes, takes_none}
use Rattle.coded_stream.specs.Header.{header_text}
use Rattle.coded_stream.specs.Shown.{header_of}
use Rattle.run_loop.specs.Edges.{told}
use Rattle.run_loop.proofs.Opening.{opened, unwritten}
use Rattle.command_encode.specs.Encode.{blocks_answer, encode_answer}
use Rattle.command_encode.proofs.BlockKinds.{one_ahead}
use Rattle.command_encode.proofs.EncodeSteps.{header_some}
use Rattle.command_encode.proofs.encode.EncodeOpen.open.Goals as goal

pub returns-in-Err-clause-opens : goal.returns-in-Err-clause-opens
returns-in-Err-clause-opens g c report reports =
    let h = header_of c.args.self.header in
    let old = told (g.S.Source.left c.args._source.now) (g.D.Sink.held c.args.out.now) report (g.S.Source.faults c.args._source.now) (g.D.Sink.faults c.args.out.now) reports in
    let new = told (g.S.Source.left c.args._source.now) (g.D.Sink.held c.write_header.new.sink) report (g.S.Source.faults c.args._source.now) (g.D.Sink.faults c.write_header.new.sink) reports in
    let err = c.in-Err.ensures.err in
    record {
      opens = λ input is. unwritten (encode_answer h input) (blocks_answer h 4096 0 input) (header_text h) 0 err.0 old new refl (header_some h) err.1 (adds_none report)
          (let ahead = one_ahead h 4096 0 input in omega (arith, ahead)) ([], takes_none old.left, omega arith);
      causes = c.in-Err.ensures.cause.failed;
      moved = record {
        left = takes_no_bytes old.left;
        out = (_, err.1);
        report = adds_no_bytes report;
        reads = omega arith;
        outs = c.write_header.ensures.cause.later;
        reports = omega arith;
      };
    }

pub returns-clause-opens : goal.returns-clause-opens
returns-clause-opens g c report reports =
    let h = header_of c.args.self.header in
    let old = told (g.S.Source.left c.args._source.now) (g.D.Sink.held c.args.out.now) report (g.S.Source.faults c.args._source.now) (g.D.Sink.faults c.args.out.now) reports in
    let new = told (g.S.Source.left c.args._source.now) (g.D.Sink.held c.write_header.new.sink) report (g.S.Source.faults c.args._source.now) (g.D.Sink.faults c.write_header.new.sink) reports in
    record {
      opens = λ input is. opened (encode_answer h input) (blocks_answer h 4096 0) (header_text h) [] input old new is is refl c.in_default.ensures.ok (adds_none report);
      causes = tt;
      moved = record {
        left = takes_no_bytes old.left;
        out = (_, c.in_default.ensures.ok);
        report = adds_no_bytes report;
        reads = omega arith;
        outs = c.write_header.ensures.cause.later;
        reports = omega arith;
      };
    }
