use Rattle.std.proofs.Common.{ℕ, set, ap, ◌∙◌}
use Rattle.std.proofs.lemmas.List.{length-map}
use Rattle.serial_decode.specs.Strips.{cells_at, elsewhere}
use Rattle.serial_decode.proofs.StripCells.{write-in_window, write-elsewhere}
use Rattle.serial_decode.proofs.strip.ListStripStrip.set_cell.Goals as goal

pub returns-clause-cells : goal.returns-clause-cells
returns-clause-cells c =
    let s = c.args.self.now in
    ap (λ (n : ℕ). cells_at s.places.now (set s.cells.items n c.args.v)) c.from-place.ensures
    ∙ write-in_window s.places.now s.cells.items c.args.j c.args.v s.below s.apart (simp length-map at c.requires)

pub returns-clause-rest : goal.returns-clause-rest
returns-clause-rest c =
    let s = c.args.self.now in
    ap (λ xs. (s.places.now, xs))
    (ap (λ (n : ℕ). elsewhere s.places.now (set s.cells.items n c.args.v)) c.from-place.ensures
    ∙ write-elsewhere s.places.now s.cells.items c.args.j c.args.v (simp length-map at c.requires))
