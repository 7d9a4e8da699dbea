use Rattle.std.proofs.Common.{refl, sym, subst}
use Rattle.cell_shares.specs.declared.order.Order.TheVariants.{Natural}
use Rattle.cell_shares.specs.Shares.{AreAllOf}
use Rattle.window_workers.specs.Pieces.{job_of_piece, IsHeld, IsReady}
use Rattle.window_workers.proofs.DonePieces.{first-of_all, weaker, shares-of_held}
use Rattle.window_workers.proofs.opening.discard.Goals as goal

pub join-requires : goal.join-requires
join-requires c =
    let job = job_of_piece c.args.about.now.value in let ps = c.args.refused.pieces.items in
    let first = first-of_all job.shape.windows (λ t p. IsReady job 0 t p) ps c.requires.windows c.requires.pieces in
    record {
      shares = (
        job.name,
        Natural,
        subst (AreAllOf job.name Natural) (sym c.take_apart-shares.ensures.shares)
            (shares-of_held job 0 Natural first.1.held.lawful refl ps
            (weaker job.shape.windows (λ t p. IsReady job 0 t p) (λ t p. IsHeld job 0 t p) ps (λ t p lt r. r.held) c.requires.pieces)),
      );
    }
