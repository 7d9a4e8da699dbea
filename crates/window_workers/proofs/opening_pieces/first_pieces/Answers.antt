use Rattle.std.proofs.Common.{ℕ, length, refl, sym, ap, ◌∙◌, subst, arith}
use Rattle.std.proofs.lemmas.List.{length-reverse}
use Rattle.model_sender.specs.Interleaver.{row_of}
use Rattle.model_receiver.specs.HalfIteration.{Shape}
use Rattle.cell_shares.specs.Shares.{name_of}
use Rattle.window_workers.specs.declared.job.DecodingJob.{DecodingJob}
use Rattle.window_workers.specs.Orders.{IsOrderIn}
use Rattle.window_workers.specs.Jobs.{IsJob}
use Rattle.window_workers.specs.Commons.{HasRooms}
use Rattle.window_workers.proofs.HalfCells.{left-long}
use Rattle.window_workers.proofs.ReadyPieces.{long-of_job}
use Rattle.window_workers.proofs.OpenedBoards.{new_job, first-ready}
use Rattle.window_workers.proofs.opening_pieces.first_pieces.Goals as goal

pub put_together-rooms-requires-clause-room : goal.put_together-rooms-requires-clause-room
put_together-rooms-requires-clause-room c =
    let shape = c.args.shape.now in let cells = c.in_ok-cells.cells in let made = c.in_ok-cells.ensures in let seen = c.in_ok-views.ensures in
    let job : DecodingJob = new_job c.args.streams.now shape cells in
    let lawful : IsJob job = record { shape = c.windows.ensures.lawful; streams = c.requires; count = made.count; windows = made.windows } in
    let order = c.order_of.result in let is : IsOrderIn shape.k 0 order = c.order_of.ensures shape.k (c.in_ok-progress.ensures.interleaver ∙ ap (λ (s : Shape). row_of s.k) seen.shape) in
    let was = c.in_ok-progress.ensures.progress job (sym seen.streams) (sym seen.shape) in
    let long = long-of_job job (name_of cells) order c.split-shares.result.items lawful refl c.split-shares.ensures.shares in
    (let w = c.windows.ensures.value in let room = c.in_ok-pieces.ensures.capacity in omega (arith, long, w, room))

pub put_together-rooms-requires-clause-tools : goal.put_together-rooms-requires-clause-tools
put_together-rooms-requires-clause-tools c =
    let shape = c.args.shape.now in let cells = c.in_ok-cells.cells in let made = c.in_ok-cells.ensures in let seen = c.in_ok-views.ensures in
    let job : DecodingJob = new_job c.args.streams.now shape cells in
    let lawful : IsJob job = record { shape = c.windows.ensures.lawful; streams = c.requires; count = made.count; windows = made.windows } in
    let order = c.order_of.result in let is : IsOrderIn shape.k 0 order = c.order_of.ensures shape.k (c.in_ok-progress.ensures.interleaver ∙ ap (λ (s : Shape). row_of s.k) seen.shape) in
    let was = c.in_ok-progress.ensures.progress job (sym seen.streams) (sym seen.shape) in
    let long = long-of_job job (name_of cells) order c.split-shares.result.items lawful refl c.split-shares.ensures.shares in
    sym (length-reverse c.in_ok-tools.tools.items) ∙ ((c.in_ok-tools.ensures job (sym seen.streams) (sym seen.shape)).0 ∙ sym long)

pub put_together-rooms-requires-clause-left : goal.put_together-rooms-requires-clause-left
put_together-rooms-requires-clause-left c =
    let shape = c.args.shape.now in let cells = c.in_ok-cells.cells in let made = c.in_ok-cells.ensures in let seen = c.in_ok-views.ensures in
    let job : DecodingJob = new_job c.args.streams.now shape cells in
    let lawful : IsJob job = record { shape = c.windows.ensures.lawful; streams = c.requires; count = made.count; windows = made.windows } in
    let order = c.order_of.result in let is : IsOrderIn shape.k 0 order = c.order_of.ensures shape.k (c.in_ok-progress.ensures.interleaver ∙ ap (λ (s : Shape). row_of s.k) seen.shape) in
    let was = c.in_ok-progress.ensures.progress job (sym seen.streams) (sym seen.shape) in
    let long = long-of_job job (name_of cells) order c.split-shares.result.items lawful refl c.split-shares.ensures.shares in
    ap length (c.as_slice-left.ensures.value ∙ was.left) ∙ (left-long c.args.streams.now shape 0 ∙ sym long)

pub returns : goal.returns
returns c =
    let shape = c.args.shape.now in let cells = c.in_ok-cells.cells in let made = c.in_ok-cells.ensures in let seen = c.in_ok-views.ensures in
    let job : DecodingJob = new_job c.args.streams.now shape cells in
    let lawful : IsJob job = record { shape = c.windows.ensures.lawful; streams = c.requires; count = made.count; windows = made.windows } in
    let order = c.order_of.result in let is : IsOrderIn shape.k 0 order = c.order_of.ensures shape.k (c.in_ok-progress.ensures.interleaver ∙ ap (λ (s : Shape). row_of s.k) seen.shape) in
    let was = c.in_ok-progress.ensures.progress job (sym seen.streams) (sym seen.shape) in
    let long = long-of_job job (name_of cells) order c.split-shares.result.items lawful refl c.split-shares.ensures.shares in
    let e = c.put_together-rooms.ensures in
    record {
      job = job;
      streams = refl;
      shape = refl;
      lawful = lawful;
      ready = first-ready job order cells c.split-shares.result.items c.in_ok-tools.tools.items c.put_together-rooms.new.pieces.items c.as_slice-left.result.now c.tail.result
          c.in_ok-progress.progress lawful is refl made.values c.split-shares.ensures.shares c.split-shares.ensures.values e.shares e.tools
          (c.in_ok-tools.ensures job (sym seen.streams) (sym seen.shape)) e.borders
          c.as_slice-left.ensures.value was c.tail.ensures;
      running = (was, subst (λ (n : ℕ). HasRooms n c.put_together-rooms.result) long e.rooms);
    }
