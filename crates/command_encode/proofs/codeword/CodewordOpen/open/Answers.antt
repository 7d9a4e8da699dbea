use Rattle.std.proofs.Common.{[], refl, arith}
use Rattle.edge_io.proofs.Known.{adds_no_bytes, adds_none, takes_no_bytes}
use Rattle.run_loop.specs.Edges.{told}
use Rattle.run_loop.proofs.Opening.{opened}
use Rattle.command_encode.specs.Codeword.{block_answer, codeword_answer}
use Rattle.command_encode.proofs.codeword.CodewordOpen.open.Goals as goal

pub returns-clause-opens : goal.returns-clause-opens
returns-clause-opens g c report reports =
    let s = c.args.self in
    let old = told (g.S.Source.left c.args._source.now) (g.D.Sink.held c.args._out.now) report (g.S.Source.faults c.args._source.now) (g.D.Sink.faults c.args._out.now) reports in
    record {
      opens = λ input is. opened (codeword_answer s.m s.rv input) (block_answer s.m s.rv) [] [] input old old is is refl (adds_none old.out) (adds_none report);
      causes = tt;
      moved = record {
        left = takes_no_bytes old.left;
        out = adds_no_bytes old.out;
        report = adds_no_bytes report;
        reads = omega arith;
        outs = omega arith;
        reports = omega arith;
      };
    }
