use Rattle.std.proofs.Common.{sym, ap, ◌∙◌, subst, arith}
use Rattle.model_receiver.specs.Windows.{new_cells}
use Rattle.cell_shares.specs.Shares.{share_number}
use Rattle.half_iteration.specs.Runs.{left_of}
use Rattle.window_workers.specs.Orders.{IsOrderIn}
use Rattle.window_workers.specs.Pieces.{job_of_piece}
use Rattle.window_workers.proofs.HalfCells.{cells-left}
use Rattle.window_workers.proofs.ReadyWindows.{whole, share-long, systematic-long, parity-long, places-are, window-is}
use Rattle.window_workers.proofs.window.run_piece.Goals as goal

pub run_share-share-requires-clause-least : goal.run_share-share-requires-clause-least
run_share-share-requires-clause-least c =
    let p = c.args.piece in let job = job_of_piece p in let t = share_number p.share in
    omega (arith, share-long job c.args.half t p c.requires.ready c.requires.window, (whole job c.args.half t p c.requires.ready c.requires.window).wide)

pub run_share-share-requires-clause-room : goal.run_share-share-requires-clause-room
run_share-share-requires-clause-room c =
    let p = c.args.piece in let job = job_of_piece p in let t = share_number p.share in
    omega (arith, share-long job c.args.half t p c.requires.ready c.requires.window, c.requires.ready.held.tools.room)

pub run_share-share-requires-clause-systematic : goal.run_share-share-requires-clause-systematic
run_share-share-requires-clause-systematic c =
    let p = c.args.piece in
    systematic-long (job_of_piece p) c.args.half (share_number p.share) p c.requires.ready c.requires.window c.of_half-view.result.now c.of_half-view.ensures

pub run_share-share-requires-clause-parity : goal.run_share-share-requires-clause-parity
run_share-share-requires-clause-parity c =
    let p = c.args.piece in
    parity-long (job_of_piece p) c.args.half (share_number p.share) p c.requires.ready c.requires.window c.of_half-view.result.now c.of_half-view.ensures

pub run_share-share-requires-clause-places : goal.run_share-share-requires-clause-places
run_share-share-requires-clause-places c =
    let p = c.args.piece in
    places-are (job_of_piece p) c.args.half (share_number p.share) p c.requires.ready c.requires.window c.of_half-view.result.now c.of_half-view.ensures

pub returns : goal.returns
returns c =
    let p = c.args.piece in let job = job_of_piece p in let t = share_number p.share in let h = c.args.half in
    let ready = c.requires.ready in let held = ready.held in let run = c.run_share-share.ensures in
    let w = window-is job h t p ready c.of_half-view.result.now c.of_half-view.ensures in
    record {
      held = record {
        lawful = held.lawful;
        tools = record {
          streams = held.tools.streams;
          shape = held.tools.shape;
          natural = held.tools.natural;
          interleaved = held.tools.interleaved;
          room = omega (arith, held.tools.room, run.room);
        };
        name = ap (λ l. l.0) run.label ∙ held.name;
        number = ap (λ l. l.1.1) run.label ∙ held.number;
        order = subst (IsOrderIn job.shape.k h) (sym (ap (λ l. l.1.0) run.label)) held.order;
      };
      cells = run.cells ∙ (ap new_cells w ∙ sym (cells-left job.streams job.shape h t (whole job h t p ready c.requires.window) c.requires.window));
      left = run.left ∙ ap left_of w;
    }
