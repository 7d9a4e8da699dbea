-- A ready piece is the window of its half.
use Rattle.std.proofs.Common.{◌≡◌, ℕ, ◌*◌, ◌%◌, ◌==◌, ◌<◌, Bool, true, false, cond, List, length, map, sym, ap, ◌∙◌}
use Rattle.std.specs.Prelude.{ℤ}
use Rattle.std.proofs.lemmas.List.FromFn.{length-map-range_with_len}
use Rattle.model_sender.specs.Interleaver.{place}
use Rattle.model_receiver.specs.Borders.{Border, at}
use Rattle.model_receiver.specs.Windows.{Extrinsic, window_between}
use Rattle.model_receiver.specs.HalfIteration.{window_width, positions, systematic_at, parity_at, window}
use Rattle.half_iteration.specs.Views.{AreWhole}
use Rattle.half_iteration.proofs.Wholes.{are-whole}
use Rattle.cell_shares.specs.Deal.{share_places}
use Rattle.cell_shares.specs.Shares.{share_values, share_number, share_order}
use Rattle.window_workers.specs.declared.job.DecodingJob.{DecodingJob}
use Rattle.window_workers.specs.declared.view.WindowView.{WindowView}
use Rattle.window_workers.specs.declared.piece.WindowPiece.{WindowPiece}
use Rattle.window_workers.specs.Jobs.{before_half}
use Rattle.window_workers.specs.Pieces.{IsViewOf, IsReady}
use Rattle.window_workers.proofs.HalfCells.{cells_in-long}
use Rattle.window_workers.proofs.OrdersOfHalves.{place-of_order}

-- the view of half h is that of the half of 0 and 1 that has its order
pub view-of_half : (job : DecodingJob) (h t : ℕ) (natural interleaved : WindowView) → IsViewOf job 0 t natural → IsViewOf job 1 t interleaved
    → IsViewOf job h t (cond (h % 2 == 0) natural interleaved)
view-of_half job h t natural interleaved n i = record {
  systematic = systematic (h % 2 == 0);
  parity = parity (h % 2 == 0);
  places = places (h % 2 == 0);
}
  where
    systematic : (b : Bool) → (cond b natural interleaved).systematic.items
        ≡ map (λ j. at job.streams.d0 (cond b j (place job.shape.k j))) (positions job.shape t)
    systematic true = n.systematic
    systematic false = i.systematic

    parity : (b : Bool) → (cond b natural interleaved).parity.items
        ≡ map (λ j. cond b (at job.streams.d1 j) (at job.streams.d2 j)) (positions job.shape t)
    parity true = n.parity
    parity false = i.parity

    places : (b : Bool) → (cond b natural interleaved).places.items ≡ map (λ j. cond b j (place job.shape.k j)) (positions job.shape t)
    places true = n.places
    places false = i.places

same-window : (s s' e e' : Border) (x x' y y' : List ℤ) (c c' : List Extrinsic) → s ≡ s' → e ≡ e' → x ≡ x' → y ≡ y' → c ≡ c'
    → window_between s e x y c ≡ window_between s' e' x' y' c'
same-window s s' e e' x x' y y' c c' hs he hx hy hc = λ i. window_between (hs i) (he i) (hx i) (hy i) (hc i)

module _ (job : DecodingJob) (h t : ℕ) (p : WindowPiece) (ready : IsReady job h t p) where
  pub view-is : IsViewOf job h t (cond (h % 2 == 0) p.tools.natural p.tools.interleaved)
  view-is = view-of_half job h t p.tools.natural p.tools.interleaved ready.held.tools.natural ready.held.tools.interleaved

  pub window-is : (view : WindowView) → view ≡ cond (h % 2 == 0) p.tools.natural p.tools.interleaved
      → window_between p.start p.end view.systematic.items view.parity.items (share_values p.share) ≡ window job.streams job.shape h (before_half job h) t
  window-is view e =
      same-window p.start _ p.end _ view.systematic.items _ view.parity.items _ (share_values p.share) _ ready.start ready.end
      (ap (λ (v : WindowView). v.systematic.items) e ∙ view-is.systematic) (ap (λ (v : WindowView). v.parity.items) e ∙ view-is.parity) ready.cells

  module _ (lt : t < job.shape.windows) where
    pub whole : AreWhole job.shape
    whole = are-whole job.shape ready.held.lawful.shape

    pub share-long : length (share_values p.share) ≡ window_width job.shape
    share-long = ap length ready.cells ∙ cells_in-long job.streams job.shape h t whole lt (before_half job h) h

    pub systematic-long : (view : WindowView) → view ≡ cond (h % 2 == 0) p.tools.natural p.tools.interleaved → length view.systematic.items ≡ length (share_values p.share)
    systematic-long view e =
        ap (λ (v : WindowView). length v.systematic.items) e ∙ (ap length view-is.systematic
        ∙ (length-map-range_with_len (systematic_at job.streams job.shape.k h) (t * window_width job.shape) (window_width job.shape) ∙ sym share-long))

    pub parity-long : (view : WindowView) → view ≡ cond (h % 2 == 0) p.tools.natural p.tools.interleaved → length view.parity.items ≡ length (share_values p.share)
    parity-long view e =
        ap (λ (v : WindowView). length v.parity.items) e ∙ (ap length view-is.parity
        ∙ (length-map-range_with_len (parity_at job.streams h) (t * window_width job.shape) (window_width job.shape) ∙ sym share-long))

    -- the places of the view are those of the share
    pub places-are : (view : WindowView) → view ≡ cond (h % 2 == 0) p.tools.natural p.tools.interleaved
        → view.places.items ≡ share_places (share_order p.share) (length (share_values p.share)) (share_number p.share)
    places-are view e =
        ap (λ (v : WindowView). v.places.items) e ∙ (view-is.places
        ∙ (sym (λ i. map (λ j. place-of_order job.shape.k h (share_order p.share) whole.size ready.held.order j i) (positions job.shape t))
        ∙ (sym (λ i. share_places (share_order p.share) (share-long i) t) ∙ sym (λ i. share_places (share_order p.share) (length (share_values p.share)) (ready.held.number i)))))
