use Rattle.std.proofs.Common.{ℕ, map, sym, ap, ◌∙◌, subst, arith}
use Rattle.cell_shares.specs.Shares.{share_values, AreAllOf}
use Rattle.window_workers.specs.Commons.{HasRooms}
use Rattle.window_workers.specs.Pieces.{job_of_piece}
use Rattle.window_workers.proofs.OrdersOfHalves.{half_order, half_order-is}
use Rattle.window_workers.proofs.DonePieces.{shares-of_done, values-of_done}
use Rattle.window_workers.proofs.HalfSteps.{joined-cells, tools-of_done, left-of_done}
use Rattle.window_workers.proofs.half_end.after_half.Goals as goal

pub take_apart-shares-requires : goal.take_apart-shares-requires
take_apart-shares-requires c = record { rooms = subst (λ (n : ℕ). HasRooms n c.args.rooms) (sym c.requires.pieces.0) c.requires.rooms }

pub join-cells-requires : goal.join-cells-requires
join-cells-requires c =
    let job = job_of_piece c.args.about.now.value in let h = c.args.half in let order = half_order h c.args.progress.interleaver in
    let is = half_order-is job.shape.k h c.args.progress.interleaver c.requires.progress.interleaver in
    record { shares = (job.name, order, subst (AreAllOf job.name order) (sym c.take_apart-shares.ensures.shares) (shares-of_done job h order c.requires.job is _ c.requires.pieces)) }

pub decided-requires-clause-cells : goal.decided-requires-clause-cells
decided-requires-clause-cells c =
    let job = job_of_piece c.args.about.now.value in let h = c.args.half in let order = half_order h c.args.progress.interleaver in
    let is = half_order-is job.shape.k h c.args.progress.interleaver c.requires.progress.interleaver in
    let all = subst (AreAllOf job.name order) (sym c.take_apart-shares.ensures.shares) (shares-of_done job h order c.requires.job is _ c.requires.pieces) in
    joined-cells job h order c.join-cells.result c.requires.job is (c.join-cells.ensures.name job.name order all)
    (c.join-cells.ensures.values job.name order all ∙ (ap (map share_values) c.take_apart-shares.ensures.shares ∙ values-of_done job h order c.requires.job is _ c.requires.pieces))

pub next_half-rooms-requires-clause-room : goal.next_half-rooms-requires-clause-room
next_half-rooms-requires-clause-room c = omega (arith, c.requires.pieces.0, c.take_apart-shares.ensures.room)

pub next_half-rooms-requires-clause-name : goal.next_half-rooms-requires-clause-name
next_half-rooms-requires-clause-name c =
    let job = job_of_piece c.args.about.now.value in let h = c.args.half in let order = half_order h c.args.progress.interleaver in
    let is = half_order-is job.shape.k h c.args.progress.interleaver c.requires.progress.interleaver in
    let all = subst (AreAllOf job.name order) (sym c.take_apart-shares.ensures.shares) (shares-of_done job h order c.requires.job is _ c.requires.pieces) in
    c.join-cells.ensures.name job.name order all

pub next_half-rooms-requires-clause-cells : goal.next_half-rooms-requires-clause-cells
next_half-rooms-requires-clause-cells c =
    let job = job_of_piece c.args.about.now.value in let h = c.args.half in let order = half_order h c.args.progress.interleaver in
    let is = half_order-is job.shape.k h c.args.progress.interleaver c.requires.progress.interleaver in
    let all = subst (AreAllOf job.name order) (sym c.take_apart-shares.ensures.shares) (shares-of_done job h order c.requires.job is _ c.requires.pieces) in
    joined-cells job h order c.join-cells.result c.requires.job is (c.join-cells.ensures.name job.name order all)
    (c.join-cells.ensures.values job.name order all ∙ (ap (map share_values) c.take_apart-shares.ensures.shares ∙ values-of_done job h order c.requires.job is _ c.requires.pieces))

pub next_half-rooms-requires-clause-tools : goal.next_half-rooms-requires-clause-tools
next_half-rooms-requires-clause-tools c = tools-of_done (job_of_piece c.args.about.now.value) c.args.half _ _ c.take_apart-shares.ensures.tools c.requires.pieces

pub next_half-rooms-requires-clause-left : goal.next_half-rooms-requires-clause-left
next_half-rooms-requires-clause-left c = left-of_done (job_of_piece c.args.about.now.value) c.args.half _ _ c.take_apart-shares.ensures.tools c.requires.pieces
