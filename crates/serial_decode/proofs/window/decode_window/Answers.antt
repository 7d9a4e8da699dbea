use Rattle.std.proofs.Common.{ap, ◌∙◌, arith}
use Rattle.std.proofs.lemmas.List.{length-map}
use Rattle.model_receiver.specs.Windows.{cell_at, new_cells, forward_left, backward_left}
use Rattle.model_receiver.specs.HalfIteration.{order}
use Rattle.serial_decode.specs.Strips.{elsewhere}
use Rattle.half_iteration.proofs.WindowParts.{length-part}
use Rattle.serial_decode.proofs.WindowRuns.{strip_window-is, replaced}
use Rattle.serial_decode.proofs.window.decode_window.Goals as goal

pub run_window-forward-requires-clause-least : goal.run_window-forward-requires-clause-least
run_window-forward-requires-clause-least c =
    let s = c.strip_of-strip.result in let shape = c.args.views.now.shape in
    omega (
      arith,
      length-map s.places.now (cell_at s.cells.items),
      length-part
          (order shape.k c.args.h) shape c.args.t s.places.now c.strip_of-strip.ensures.places,
      c.strip_of-strip.ensures.whole.wide,
    )

pub run_window-forward-requires-clause-room : goal.run_window-forward-requires-clause-room
run_window-forward-requires-clause-room c =
    let s = c.strip_of-strip.result in let shape = c.args.views.now.shape in
    omega (arith, length-map s.places.now (cell_at s.cells.items), length-part (order shape.k c.args.h) shape c.args.t s.places.now c.strip_of-strip.ensures.places, c.requires.room)

pub returns-clause-left : goal.returns-clause-left
returns-clause-left c =
    let s = c.strip_of-strip.result in let v = c.args.views.now in let run = c.run_window-forward.ensures in
    let e = strip_window-is v.streams.now v.shape c.args.h c.args.t c.args.start.now c.args.end.now s.systematic.now s.parity.now s.places.now
    c.args.cells.items s.cells.items c.strip_of-strip.ensures.systematic c.strip_of-strip.ensures.parity c.strip_of-strip.ensures.places c.strip_of-strip.ensures.cells in
    let f = run.forward ∙ ap forward_left e in
    let b = run.backward ∙ ap backward_left e in
    cc

pub returns-clause-cells : goal.returns-clause-cells
returns-clause-cells c =
    let s = c.strip_of-strip.result in let n = c.run_window-forward.new.strip in let v = c.args.views.now in let run = c.run_window-forward.ensures in
    let e = strip_window-is v.streams.now v.shape c.args.h c.args.t c.args.start.now c.args.end.now s.systematic.now s.parity.now s.places.now
    c.args.cells.items s.cells.items c.strip_of-strip.ensures.systematic c.strip_of-strip.ensures.parity c.strip_of-strip.ensures.places c.strip_of-strip.ensures.cells in
    replaced v.shape c.args.h c.args.t _ s.places.now n.places.now c.args.cells.items n.cells.items
    c.strip_of-strip.ensures.whole
    c.requires.window c.strip_of-strip.ensures.places c.requires.cells
    (ap (λ p. p.0) run.rest)
    (run.cells ∙ ap new_cells e)
    (ap (λ p. p.1) run.rest ∙ ap (λ cells. elsewhere s.places.now cells) c.strip_of-strip.ensures.cells)
