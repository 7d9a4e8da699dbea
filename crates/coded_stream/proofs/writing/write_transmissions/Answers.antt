use Rattle.std.proofs.Common.{ℕ, List, ◌++◌, take, flat_map, sym, subst, arith}
use Rattle.edge_io.specs.Edge.{Adds}
use Rattle.edge_io.proofs.Known.{adds_then}
use Rattle.rate_match.specs.declared.sends.Sending.{Sending}
use Rattle.coded_stream.specs.Header.{transmission_text}
use Rattle.coded_stream.proofs.Written.{front_of, part_added, transmission-split}
use Rattle.coded_stream.proofs.writing.write_transmissions.Goals as goal

pub returns-in-Err-clause-err : goal.returns-in-Err-clause-err
returns-in-Err-clause-err g c =
    let h = c.args.header.now in
    let s : Sending = record { m = c.at-m.result.0; rv = c.at-m.result.1 } in
    let n = transmission-split h.version h.sends c.loop-index.index s c.at-m.ensures.value in
    let before : List ℕ = flat_map (transmission_text h.version) (take c.loop-index.index h.sends) in
    let part = part_added _ _ _ before (transmission_text h.version s) c.loop-index.invariant.added c.in-Err.ensures.err in
    let all = front_of _ _ (before ++ transmission_text h.version s) n.rest part.0 part.1 in
    let P : List ℕ → Type 0 = λ xs. Adds (g.D.Sink.held c.args.sink.now) (g.D.Sink.held c.write_transmission.new.sink) (take all.0 xs) in
    (all.0, subst P (sym n.all) all.1)

pub loop-index-preserved : goal.loop-index-preserved
loop-index-preserved g c =
    let h = c.args.header.now in
    let s : Sending = record { m = c.at-m.result.0; rv = c.at-m.result.1 } in
    let n = transmission-split h.version h.sends c.loop-index.index s c.at-m.ensures.value in
    let before : List ℕ = flat_map (transmission_text h.version) (take c.loop-index.index h.sends) in
    let P : List ℕ → Type 0 = λ xs. Adds (g.D.Sink.held c.args.sink.now) (g.D.Sink.held c.write_transmission.new.sink) xs in
    record {
      added = subst P (sym n.front) (adds_then _ _ _ before (transmission_text h.version s) c.loop-index.invariant.added c.in_default.ensures.ok);
      later = omega (arith, c.loop-index.invariant.later, c.write_transmission.ensures.cause.later);
    }
