use Rattle.std.proofs.Common.{◌≡◌, ℕ, ◌++◌, ◌<◌, List, length, take, map, ap, sym, subst, ◌∙◌, arith}
use Rattle.std.proofs.Math.Seq.{take-length}
use Rattle.std.proofs.Math.ListN.{get_or-map}
use Rattle.std.proofs.lemmas.List.{length-map}
use Rattle.edge_io.specs.Edge.{Adds}
use Rattle.edge_io.proofs.Known.{adds_then}
use Rattle.run_loop.specs.FaultLine.{joined}
use Rattle.run_loop.proofs.LineParts.{front_of, more_of, line_all, line_part}
use Rattle.run_loop.proofs.Rises.{rose_since}
use Rattle.run_loop.proofs.fault_line.write_each.Goals as goal

pub returns-in-Err-clause-told : goal.returns-in-Err-clause-told
returns-in-Err-clause-told g c =
    let texts : List (List ℕ) = map (λ p. p.now) c.args.pieces.now in
    let i = c.loop-piece.piece-index in
    let err = c.in-Err.ensures.err in
    let P : List ℕ → Type 0 = λ t. Adds (g.R.Sink.held c.args.report.now) (g.R.Sink.held c.write_all.new.sink) t in
    let Q : List ℕ → Type 0 = λ t. P (joined (take i texts) ++ take err.0 t) in
    let at : i < length texts = omega (arith, c.loop-piece-test.true, length-map c.args.pieces.now (λ p. p.now)) in
    let added = adds_then _ _ _ _ _ c.loop-piece.invariant.added err.1 in
    let front = front_of texts i err.0 at in
    line_part _ _ (joined texts) _ _ front.0 (subst P front.1 (subst Q (sym (get_or-map (λ p. p.now) c.args.pieces.now i _)) added))
    (rose_since _ _ _ c.loop-piece.invariant.later c.in-Err.ensures.cause.failed)

pub returns-clause-told : goal.returns-clause-told
returns-clause-told g c =
    let texts : List (List ℕ) = map (λ p. p.now) c.args.pieces.now in
    let i = c.loop-piece.piece-index in
    let P : List (List ℕ) → Type 0 = λ t. Adds (g.R.Sink.held c.args.report.now) (g.R.Sink.held c.loop-piece.report) (joined t) in
    let all : i ≡ length texts = omega (arith, c.loop-piece.auto.piece-index-end, c.loop-piece-test.false, length-map c.args.pieces.now (λ p. p.now)) in
    line_all _ _ _ _ _ (subst P (ap (λ (k : ℕ). take k texts) all ∙ take-length texts) c.loop-piece.invariant.added)

pub loop-piece-preserved : goal.loop-piece-preserved
loop-piece-preserved g c =
    let texts : List (List ℕ) = map (λ p. p.now) c.args.pieces.now in
    let i = c.loop-piece.piece-index in
    let P : List ℕ → Type 0 = λ t. Adds (g.R.Sink.held c.args.report.now) (g.R.Sink.held c.write_all.new.sink) t in
    let Q : List ℕ → Type 0 = λ t. P (joined (take i texts) ++ t) in
    let at : i < length texts = omega (arith, c.loop-piece-test.true, length-map c.args.pieces.now (λ p. p.now)) in
    let added = adds_then _ _ _ _ _ c.loop-piece.invariant.added c.in_default.ensures.ok in
    record {
      added = subst P (sym (more_of texts i at)) (subst Q (sym (get_or-map (λ p. p.now) c.args.pieces.now i _)) added);
      later = omega (arith, c.loop-piece.invariant.later, c.in_default.ensures.cause.later);
    }
