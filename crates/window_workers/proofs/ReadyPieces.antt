-- Pieces that are put together for a half are ready.
use Rattle.std.proofs.Common.{◌≡◌, ℕ, suc, ◌+◌, ◌%◌, ◌==◌, Bool, true, false, cond, List, [], ◌∷◌, length, map, sym, ap, ◌∙◌}
use Rattle.std.specs.List.{range_with_len}
use Rattle.lte_bits.specs.declared.block.SoftStreams.{SoftStreams}
use Rattle.model_receiver.specs.Borders.{Border, at, tail}
use Rattle.model_receiver.specs.Windows.{Extrinsic}
use Rattle.model_receiver.specs.HalfIteration.{BordersLeft, tail_border, cells_in, left_after, start_by, end_by}
use Rattle.cell_shares.specs.declared.order.Order.{Order}
use Rattle.cell_shares.specs.declared.share.Share.{Share}
use Rattle.cell_shares.specs.Names.{Name}
use Rattle.cell_shares.specs.Deal.{deal}
use Rattle.cell_shares.specs.Shares.{share_label, share_values, AreAllOf}
use Rattle.phase_board.specs.Slots.{AllPieces}
use Rattle.window_workers.specs.declared.job.DecodingJob.{DecodingJob}
use Rattle.window_workers.specs.declared.piece.Tools.{Tools}
use Rattle.window_workers.specs.declared.piece.WindowPiece.{WindowPiece}
use Rattle.window_workers.specs.Orders.{row_for, IsOrderIn}
use Rattle.window_workers.specs.Jobs.{IsJob, before_half}
use Rattle.window_workers.specs.Pieces.{share_of, tools_of, left_of_piece, AreTools}
use Rattle.window_workers.specs.HalfEnds.{AreBordered, AreAllReady}
use Rattle.window_workers.proofs.HalfCells.{cells-long, left-is}
use Rattle.window_workers.proofs.DonePieces.{label, dealt-is, mapped, told, to_mapped}

-- the tail border of a half, of those of the halves 0 and 1
pub tail-is : (soft : SoftStreams) (k g : ℕ) (even odd : Border) → even ≡ tail_border soft k 0 → odd ≡ tail_border soft k 1
    → cond (g % 2 == 0) even odd ≡ tail_border soft k g
tail-is soft k g even odd e o = by_test (g % 2 == 0)
  where
    by_test : (b : Bool) → cond b even odd
        ≡ tail (cond b (at soft.d0 k ∷ at soft.d2 k ∷ at soft.d1 (k + 1) ∷ []) (at soft.d0 (k + 2) ∷ at soft.d2 (k + 2) ∷ at soft.d1 (k + 3) ∷ []))
        (cond b (at soft.d1 k ∷ at soft.d0 (k + 1) ∷ at soft.d2 (k + 1) ∷ []) (at soft.d1 (k + 2) ∷ at soft.d0 (k + 3) ∷ at soft.d2 (k + 3) ∷ []))
    by_test true = e
    by_test false = o

pub long-shares : (name : Name) (order : Order) (shares : List (Share Extrinsic)) → AreAllOf name order shares → length shares ≡ name.windows
long-shares name order shares all = (told share_label (λ t. (name, (order, t))) name.windows shares all.1).0

pub long-of_job : (job : DecodingJob) (name : Name) (order : Order) (shares : List (Share Extrinsic)) → IsJob job → name ≡ job.name → AreAllOf name order shares
    → length shares ≡ job.shape.windows
long-of_job job name order shares lawful e all = long-shares name order shares all ∙ (ap (λ n. n.windows) e ∙ lawful.windows)

module _ (job : DecodingJob) (h : ℕ) (order : Order) (lawful : IsJob job) (is : IsOrderIn job.shape.k h order) (ps : List WindowPiece) (shares : List (Share Extrinsic))
    (all : AreAllOf job.name order shares) (mine : map share_of ps ≡ shares) where
  labels-are : AllPieces job.shape.windows (λ t p. share_label p.share ≡ label job h order lawful is t) ps
  labels-are =
      to_mapped share_of job.shape.windows (λ t s. share_label s ≡ label job h order lawful is t) ps shares mine
      (told share_label (label job h order lawful is) job.shape.windows shares (all.1 ∙ ap (λ (n : ℕ). map (label job h order lawful is) (range_with_len 0 n)) lawful.windows))

  cells-are : map share_values shares ≡ deal order job.shape.windows (before_half job h).cells
      → AllPieces job.shape.windows (λ t p. share_values p.share ≡ cells_in job.shape h (before_half job h) t) ps
  cells-are e =
      to_mapped share_of job.shape.windows (λ t s. share_values s ≡ cells_in job.shape h (before_half job h) t) ps shares mine
      (told share_values (cells_in job.shape h (before_half job h)) job.shape.windows shares
      (e ∙ dealt-is job h order lawful is (before_half job h) (cells-long job.streams job.shape h)))

  pub ready-pieces : (tools : List Tools) (left : List BordersLeft) (last : Border) → map share_values shares ≡ deal order job.shape.windows (before_half job h).cells
      → map tools_of ps ≡ tools → AllPieces job.shape.windows (λ t x. AreTools job t x) tools → AreBordered left last ps
      → left ≡ (before_half job h).left_before_last → last ≡ tail_border job.streams job.shape.k h → AreAllReady job h ps
  ready-pieces tools left last values et all_tools bordered el elast = (
    labels-are.0,
    λ t p at. let l = labels-are.1 t p at in let b = bordered t p at in
        record {
          held = record {
            lawful = lawful;
            tools = (to_mapped tools_of job.shape.windows (λ t x. AreTools job t x) ps tools et all_tools).1 t p at;
            name = ap (λ x. x.0) l;
            number = ap (λ x. x.1.1) l;
            order = ap (λ x. row_for x.1.0) l ∙ is;
          };
          cells = (cells-are values).1 t p at;
          start = b.0 ∙ ap (λ (ls : List BordersLeft). start_by ls t) el;
          end = b.1 ∙ (ap (λ (n : ℕ). end_by n left last t) labels-are.0
              ∙ (ap (λ (ls : List BordersLeft). end_by job.shape.windows ls last t) el ∙ ap (λ (x : Border). end_by job.shape.windows (before_half job h).left_before_last x t) elast));
        },
  )

-- the borders that pieces left, of the tools
pub left-of_pieces : (job : DecodingJob) (h : ℕ) (ps : List WindowPiece) (tools : List Tools) → map tools_of ps ≡ tools
    → AllPieces job.shape.windows (λ t (x : Tools). x.left ≡ left_after job.streams job.shape h (before_half job h) t) tools
    → map left_of_piece ps ≡ (before_half job (suc h)).left
left-of_pieces job h ps tools e all =
    mapped left_of_piece (left_after job.streams job.shape h (before_half job h)) job.shape.windows ps
    (to_mapped tools_of job.shape.windows (λ t (x : Tools). x.left ≡ left_after job.streams job.shape h (before_half job h) t) ps tools e all)
    ∙ sym (left-is job.streams job.shape h)
