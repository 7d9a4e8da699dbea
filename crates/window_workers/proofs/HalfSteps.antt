-- From one half to the next.
use Rattle.std.proofs.Common.{◌≡◌, ℕ, suc, List, length, map, reverse, sym, ap, ◌∙◌, subst}
use Prim.Native.Nat.{◌∣◌}
use Rattle.std.proofs.lemmas.List.{reverse-reverse}
use Rattle.model_receiver.specs.Windows.{Extrinsic}
use Rattle.model_receiver.specs.HalfIteration.{left_after}
use Rattle.cell_shares.specs.declared.cells.Cells.{Cells}
use Rattle.cell_shares.specs.declared.order.Order.{Order}
use Rattle.cell_shares.specs.Deal.{deal}
use Rattle.cell_shares.specs.Orders.{IsOrderOf}
use Rattle.cell_shares.specs.Shares.{name_of, cell_values}
use Rattle.cell_shares.proofs.Numbers.{values-long}
use Rattle.cell_shares.proofs.Undone.{undone}
use Rattle.phase_board.specs.Slots.{AllPieces}
use Rattle.window_workers.specs.declared.job.DecodingJob.{DecodingJob}
use Rattle.window_workers.specs.declared.piece.Tools.{Tools}
use Rattle.window_workers.specs.declared.piece.WindowPiece.{WindowPiece}
use Rattle.window_workers.specs.Orders.{IsOrderIn}
use Rattle.window_workers.specs.Jobs.{IsJob, before_half}
use Rattle.window_workers.specs.Pieces.{tools_of, AreTools, IsDone}
use Rattle.window_workers.specs.HalfEnds.{AreAllDone, AreAllTools, HaveLeft}
use Rattle.window_workers.proofs.HalfCells.{cells-long}
use Rattle.window_workers.proofs.OrdersOfHalves.{order-is_of}
use Rattle.window_workers.proofs.DonePieces.{weaker, of_mapped}

pub long-of_name : (job : DecodingJob) (cells : Cells Extrinsic) → IsJob job → name_of cells ≡ job.name → length (cell_values cells) ≡ job.shape.k
long-of_name job cells lawful name =
    sym (values-long 0 cells.count cells.part.cells cells.numbered) ∙ (cells.counted ∙ (ap (λ n. n.count) name ∙ lawful.count))

-- cells that are dealt as those of half h are those
pub joined-cells : (job : DecodingJob) (h : ℕ) (order : Order) (cells : Cells Extrinsic) → IsJob job → IsOrderIn job.shape.k h order → name_of cells ≡ job.name
    → deal order job.name.windows (cell_values cells) ≡ deal order job.shape.windows (before_half job (suc h)).cells
    → cell_values cells ≡ (before_half job (suc h)).cells
joined-cells job h order cells lawful is name e =
    let long = long-of_name job cells lawful name in
    undone order job.shape.windows (cell_values cells) (before_half job (suc h)).cells
    (subst (λ (n : ℕ). job.shape.windows ∣ n) (sym long) lawful.shape.divided)
    (cells-long job.streams job.shape (suc h) ∙ sym long)
    (subst (λ (n : ℕ). IsOrderOf n order) (sym long) (order-is_of job.shape.k h order lawful.shape.size is))
    (ap (λ (m : ℕ). deal order m (cell_values cells)) (sym lawful.windows) ∙ e)

-- the tools of done pieces
pub tools-of_done : (job : DecodingJob) (h : ℕ) (ps : List WindowPiece) (tools : List Tools) → tools ≡ reverse (map tools_of ps) → AreAllDone job h ps
    → AreAllTools job tools
tools-of_done job h ps tools e done =
    subst (AllPieces job.shape.windows (λ t x. AreTools job t x)) (sym (ap reverse e ∙ reverse-reverse (map tools_of ps)))
    (of_mapped tools_of job.shape.windows (λ t x. AreTools job t x) ps
    (weaker job.shape.windows (λ t p. IsDone job h t p) (λ t p. AreTools job t p.tools) ps (λ t p lt d. d.held.tools) done))

pub left-of_done : (job : DecodingJob) (h : ℕ) (ps : List WindowPiece) (tools : List Tools) → tools ≡ reverse (map tools_of ps) → AreAllDone job h ps
    → HaveLeft job h tools
left-of_done job h ps tools e done =
    let G = λ (t : ℕ) (x : Tools). x.left ≡ left_after job.streams job.shape h (before_half job h) t in
    subst (AllPieces job.shape.windows G) (sym (ap reverse e ∙ reverse-reverse (map tools_of ps)))
    (of_mapped tools_of job.shape.windows G ps
    (weaker job.shape.windows (λ t p. IsDone job h t p) (λ t p. p.tools.left ≡ left_after job.streams job.shape h (before_half job h) t) ps (λ t p lt d. d.left) done))
