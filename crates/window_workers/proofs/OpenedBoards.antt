-- The pieces and the common value with which a board is opened.
use Rattle.std.proofs.Common.{◌≡◌, ℕ, zero, suc, ◌+◌, ◌-◌, ◌<◌, List, [], ◌∷◌, ◌++◌, length, map, replicate, reverse, refl, sym, ap, ◌∙◌, subst, arith}
use Rattle.std.specs.Prelude.{IsSomeAnd, Option, Some, None}
use Rattle.std.proofs.lemmas.List.{length-reverse}
use Rattle.lte_bits.specs.declared.block.SoftStreams.{SoftStreams}
use Rattle.model_receiver.specs.Borders.{Border}
use Rattle.model_receiver.specs.Windows.{Extrinsic, zero_cell}
use Rattle.model_receiver.specs.HalfIteration.{Shape, Before, BordersLeft}
use Rattle.half_iteration.proofs.Stopping.{before-none}
use Rattle.cell_shares.specs.declared.cells.Cells.{Cells}
use Rattle.cell_shares.specs.declared.order.Order.{Order}
use Rattle.cell_shares.specs.declared.share.Share.{Share}
use Rattle.cell_shares.specs.Deal.{deal}
use Rattle.cell_shares.specs.Shares.{name_of, cell_values, share_values, AreAllOf}
use Rattle.phase_board.specs.Slots.{AllPieces}
use Rattle.phase_board.specs.Openings.{job_of, Opens}
use Rattle.window_workers.specs.declared.job.DecodingJob.{DecodingJob}
use Rattle.window_workers.specs.declared.piece.Tools.{Tools}
use Rattle.window_workers.specs.declared.piece.WindowPiece.{WindowPiece}
use Rattle.window_workers.specs.declared.common.Progress.{Progress}
use Rattle.window_workers.specs.declared.common.WindowCommon.{WindowCommon}
use Rattle.window_workers.specs.Jobs.{IsJob}
use Rattle.window_workers.specs.Pieces.{job_of_piece, share_of, tools_of, IsReady}
use Rattle.window_workers.specs.Commons.{IsCommonOf, IsProgress}
use Rattle.window_workers.specs.HalfEnds.{AreAllReady, AreAllTools, AreBordered}
use Rattle.window_workers.specs.Orders.{IsOrderIn}
use Rattle.window_workers.proofs.ReadyPieces.{ready-pieces}
use Rattle.window_workers.proofs.Somes.{some-same}
use Rattle.window_workers.proofs.OwnJobs.{job-of_held}
use Rattle.window_workers.proofs.DonePieces.{EachFrom}
use Rattle.window_workers.proofs.MovedOver.{reverse-pushed}

each-first : {X : Type 0} (F : ℕ → X → Type 0) (a : ℕ) (x : X) (xs : List X) → F a x → EachFrom F (a + 1) xs → EachFrom F a (x ∷ xs)
each-first F a x xs f each zero y e = subst (F (a + 0)) (some-same e) (subst (λ (n : ℕ). F n x) (let z : a ≡ a + 0 = omega arith in z) f)
each-first F a x xs f each (suc i) y e = subst (λ (n : ℕ). F n y) (let z : a + 1 + i ≡ a + suc i = omega arith in z) (each i y e)

-- one more of the tools, which are made from last to first
pub one_more_tools : (windows i : ℕ) (F : ℕ → Tools → Type 0) (tools : List Tools) (x : Tools) → i < windows → F (windows - 1 - i) x
    → EachFrom F (windows - i) (reverse tools) → EachFrom F (windows - (i + 1)) (reverse (tools ++ x ∷ []))
one_more_tools windows i F tools x lt f each =
    let a : ℕ = windows - (i + 1) in
    subst (EachFrom F a) (sym (reverse-pushed tools x))
    (each-first F a x (reverse tools) (subst (λ (n : ℕ). F n x) (let e : windows - 1 - i ≡ a = omega arith in e) f)
    (subst (λ (n : ℕ). EachFrom F n (reverse tools)) (let e : windows - i ≡ a + 1 = omega (arith, lt) in e) each))

pub all_made : (windows i : ℕ) (F : ℕ → Tools → Type 0) (tools : List Tools) → i ≡ windows → length tools ≡ i → EachFrom F (windows - i) (reverse tools)
    → AllPieces windows F (reverse tools)
all_made windows i F tools e long each =
    (length-reverse tools ∙ (long ∙ e), λ t x is. subst (λ (n : ℕ). F n x) (let z : windows - i + t ≡ t = omega (arith, e) in z) (each t x is))

-- the job of new cells
abbrev pub new_job : SoftStreams → Shape → Cells Extrinsic → DecodingJob
new_job soft shape cells = record { streams = soft; shape = shape; name = name_of cells }

-- what a board is opened with
pub opens : (job : DecodingJob) (ps : List WindowPiece) (c : WindowCommon) → IsJob job → AreAllReady job 0 ps → IsCommonOf job 0 c
    → IsSomeAnd (job_of job_of_piece ps) (λ j. Opens job_of_piece (λ (x : DecodingJob). x.shape.windows) (λ j h t p. IsReady j h t p) IsCommonOf j ps c)
opens job [] c lawful ready common = let a = ready.0 in let b = lawful.shape.some_windows in absurd (omega (arith, a, b))
opens job (p ∷ ps) c lawful ready common =
    subst (λ (j : DecodingJob). Opens job_of_piece (λ (x : DecodingJob). x.shape.windows) (λ j h t p. IsReady j h t p) IsCommonOf j (p ∷ ps) c)
    (sym (job-of_held job 0 0 p (ready.1 0 p refl).held))
    ((let b = lawful.shape.some_windows in omega (arith, b)), lawful.shape.few_windows, (ready.0, λ t q is. let r = ready.1 t q is in (job-of_held job 0 t q r.held, r)), common)

abbrev job_or : DecodingJob → Option DecodingJob → DecodingJob
job_or d None = d
job_or d (Some j) = j

-- the board's job is that of its pieces
pub opened-job : (job own : DecodingJob) (ps : List WindowPiece) → IsJob job → AreAllReady job 0 ps → job_of job_of_piece ps ≡ Some own → own ≡ job
opened-job job own [] lawful ready e = let a = ready.0 in let b = lawful.shape.some_windows in absurd (omega (arith, a, b))
opened-job job own (p ∷ ps) lawful ready e = sym (ap (job_or job) e) ∙ job-of_held job 0 0 p (ready.1 0 p refl).held

-- the pieces of a new decoding's cells, put together, are ready
pub first-ready : (job : DecodingJob) (order : Order) (cells : Cells Extrinsic) (shares : List (Share Extrinsic)) (tools : List Tools) (ps : List WindowPiece) (left : List BordersLeft) (last : Border)
    (p : Progress) → IsJob job → IsOrderIn job.shape.k 0 order → name_of cells ≡ job.name → cell_values cells ≡ replicate job.shape.k zero_cell
    → AreAllOf (name_of cells) order shares → map share_values shares ≡ deal order (name_of cells).windows (cell_values cells)
    → map share_of ps ≡ shares → map tools_of ps ≡ reverse tools → AreAllTools job tools → AreBordered left last ps → left ≡ p.left.items
    → IsProgress job 0 0 p → last ≡ p.even_tail → AreAllReady job 0 ps
first-ready job order cells shares tools ps left last p lawful is name zeros all values es et all_tools bordered el was elast =
    ready-pieces job 0 order lawful is ps shares (subst (λ n. AreAllOf n order shares) name all) es (reverse tools) left last
    (values ∙ (ap (λ n. deal order n.windows (cell_values cells)) name ∙ (ap (λ (m : ℕ). deal order m (cell_values cells)) lawful.windows
    ∙ ap (deal order job.shape.windows) (zeros ∙ sym (ap (λ (b : Before). b.cells) (before-none job.streams job.shape))))))
    et all_tools bordered
    (el ∙ (was.left ∙ (ap (λ (b : Before). b.left) (before-none job.streams job.shape) ∙ sym (ap (λ (b : Before). b.left_before_last) (before-none job.streams job.shape)))))
    (elast ∙ was.even_tail)
