use Rattle.std.proofs.Common.{◌≡◌, ℕ, suc, ◌+◌, length, map, reverse, sym, ap, ◌∙◌, subst, arith}
use Rattle.std.proofs.lemmas.List.{length-reverse}
use Rattle.cell_shares.specs.Deal.{deal}
use Rattle.cell_shares.specs.Orders.{IsOrderOf}
use Rattle.cell_shares.specs.Shares.{name_of, cell_values, AreAllOf}
use Rattle.window_workers.specs.Commons.{HasRooms}
use Rattle.window_workers.specs.Pieces.{job_of_piece, share_of, left_of_piece}
use Rattle.window_workers.specs.Orders.{IsOrderIn}
use Rattle.window_workers.proofs.HalfCells.{left-long, left-earlier}
use Rattle.window_workers.proofs.OrdersOfHalves.{order-is_of}
use Rattle.half_iteration.proofs.Parts.{written}
use Rattle.window_workers.proofs.DonePieces.{long-map}
use Rattle.window_workers.proofs.ReadyPieces.{tail-is, long-of_job, ready-pieces, left-of_pieces}
use Rattle.model_receiver.specs.HalfIteration.{tail_border}
use Rattle.window_workers.proofs.half_end.next_half.Goals as goal

pub overflow_add-half : goal.overflow_add-half
overflow_add-half c = let a = c.requires.progress.within in let b = c.requires.job.shape.few_iterations in record { fits = omega (arith, a, b) }

pub split-shares-requires : goal.split-shares-requires
split-shares-requires c =
    let job = job_of_piece c.args.about.now.value in
    record {
      order = subst (λ (n : ℕ). IsOrderOf n c.order_of.result) (sym (ap (λ n. n.count) c.requires.name ∙ c.requires.job.count))
          (order-is_of job.shape.k (c.args.half + 1) c.order_of.result c.requires.job.shape.size (c.order_of.ensures job.shape.k c.requires.progress.interleaver));
    }

pub put_together-rooms-requires-clause-room : goal.put_together-rooms-requires-clause-room
put_together-rooms-requires-clause-room c =
    let job = job_of_piece c.args.about.now.value in
    let long = long-of_job job (name_of c.args.cells) c.order_of.result c.split-shares.result.items c.requires.job c.requires.name c.split-shares.ensures.shares in
    omega (arith, long, c.requires.room)

pub put_together-rooms-requires-clause-tools : goal.put_together-rooms-requires-clause-tools
put_together-rooms-requires-clause-tools c =
    let job = job_of_piece c.args.about.now.value in
    let long = long-of_job job (name_of c.args.cells) c.order_of.result c.split-shares.result.items c.requires.job c.requires.name c.split-shares.ensures.shares in
    sym (length-reverse c.args.tools.items) ∙ (c.requires.tools.0 ∙ sym long)

pub put_together-rooms-requires-clause-left : goal.put_together-rooms-requires-clause-left
put_together-rooms-requires-clause-left c =
    let job = job_of_piece c.args.about.now.value in
    let long = long-of_job job (name_of c.args.cells) c.order_of.result c.split-shares.result.items c.requires.job c.requires.name c.split-shares.ensures.shares in
    ap length (c.as_slice.ensures.value ∙ c.requires.progress.left) ∙ (left-long job.streams job.shape c.args.half ∙ sym long)

pub take_left-requires : goal.take_left-requires
take_left-requires c =
    let job = job_of_piece c.args.about.now.value in
    let long = long-of_job job (name_of c.args.cells) c.order_of.result c.split-shares.result.items c.requires.job c.requires.name c.split-shares.ensures.shares in
    let pieces : length c.put_together-rooms.new.pieces.items ≡ job.shape.windows = sym (long-map share_of c.put_together-rooms.new.pieces.items)
    ∙ (ap length c.put_together-rooms.ensures.shares ∙ long) in
    ap length (c.as_mut_slice.ensures.value ∙ c.requires.progress.left) ∙ (left-long job.streams job.shape c.args.half ∙ (sym pieces ∙ ap length (sym c.as_slice-2.ensures.value)))

pub returns-clause-pieces : goal.returns-clause-pieces
returns-clause-pieces c =
    let job = job_of_piece c.args.about.now.value in let h : ℕ = c.args.half in
    let next : h + 1 ≡ suc h = omega arith in
    let order = c.order_of.result in
    let is : IsOrderIn job.shape.k (suc h) order = subst (λ (n : ℕ). IsOrderIn job.shape.k n order) next (c.order_of.ensures job.shape.k c.requires.progress.interleaver) in
    let cut = c.split-shares.ensures in let e = c.put_together-rooms.ensures in
    let all = subst (λ n. AreAllOf n order c.split-shares.result.items) c.requires.name cut.shares in
    ready-pieces job (suc h) order c.requires.job is c.put_together-rooms.new.pieces.items c.split-shares.result.items all e.shares (reverse c.args.tools.items)
    c.as_slice.result.now c.tail-tail.result
    (cut.values ∙ (ap (λ n. deal order n.windows (cell_values c.args.cells)) c.requires.name
    ∙ (ap (λ (m : ℕ). deal order m (cell_values c.args.cells)) c.requires.job.windows ∙ ap (deal order job.shape.windows) c.requires.cells)))
    e.tools c.requires.tools e.borders
    (c.as_slice.ensures.value ∙ (c.requires.progress.left ∙ sym (left-earlier job.streams job.shape h)))
    (c.tail-tail.ensures ∙ (tail-is job.streams job.shape.k (h + 1) _ _ c.requires.progress.even_tail c.requires.progress.odd_tail
    ∙ ap (tail_border job.streams job.shape.k) next))

pub returns-clause-rooms : goal.returns-clause-rooms
returns-clause-rooms c =
    let job = job_of_piece c.args.about.now.value in
    let long = long-of_job job (name_of c.args.cells) c.order_of.result c.split-shares.result.items c.requires.job c.requires.name c.split-shares.ensures.shares in
    subst (λ (n : ℕ). HasRooms n c.put_together-rooms.result) long c.put_together-rooms.ensures.rooms

pub returns-clause-progress : goal.returns-clause-progress
returns-clause-progress c =
    let job = job_of_piece c.args.about.now.value in let was = c.requires.progress in record {
      shape = was.shape;
      interleaver = was.interleaver;
      even_tail = was.even_tail;
      odd_tail = was.odd_tail;
      bits = was.bits;
      left = written c.args.progress.now.left.len c.take_left.new.left c.args.progress.now.left.items
          (c.take_left.auto.left ∙ (ap length c.as_mut_slice.ensures.value ∙ sym c.args.progress.now.left.ok.0))
          ∙ (c.take_left.ensures ∙ (ap (map left_of_piece) c.as_slice-2.ensures.value
          ∙ left-of_pieces job c.args.half c.put_together-rooms.new.pieces.items (reverse c.args.tools.items) c.put_together-rooms.ensures.tools c.requires.left));
      within = was.within;
      none_checked = was.none_checked;
    }
