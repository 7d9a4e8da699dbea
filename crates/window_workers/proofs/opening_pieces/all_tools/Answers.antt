use Rattle.std.proofs.Common.{◌≡◌, ℕ, ◌+◌, ◌-◌, ◌<◌, List, [], ◌∷◌, length, reverse, sym, ap, ◌∙◌, subst, arith, length-append}
use Rattle.model_receiver.specs.HalfIteration.{Shape}
use Rattle.phase_board.specs.Slots.{AllPieces}
use Rattle.window_workers.specs.declared.piece.Tools.{Tools}
use Rattle.window_workers.specs.Pieces.{AreTools}
use Rattle.window_workers.proofs.DonePieces.{EachFrom}
use Rattle.window_workers.proofs.OpenedBoards.{one_more_tools, all_made}
use Rattle.window_workers.proofs.opening_pieces.all_tools.Goals as goal

pub loop-i-preserved : goal.loop-i-preserved
loop-i-preserved c =
    let l = c.loop-i in let inv = l.invariant in let windows : ℕ = c.args.views.now.shape.windows in
    let more : l.i < windows = (let a = c.loop-i-test.true in let b = c.windows-windows.ensures.value in omega (arith, a, b)) in
    let pushed = c.in_ok-push.ensures.items in let x = c.in_ok-tools_of_window.field-0 in (
      ap length pushed ∙ (length-append l.tools.items (x ∷ []) ∙ ap (λ (n : ℕ). n + 1) inv.0),
      omega (arith, more),
      λ job es ek. let F : ℕ → Tools → Type 0 = λ t y. AreTools job t y in
          subst (λ (xs : List Tools). EachFrom F (windows - (l.i + 1)) (reverse xs)) (sym pushed)
          (one_more_tools windows l.i F l.tools.items x more
          (subst (λ (n : ℕ). F (n - 1 - l.i) x) c.windows-windows.ensures.value (c.in_ok-tools_of_window.ensures.tools job es ek)) (inv.2 job es ek)),
    )

pub returns : goal.returns
returns c = λ job es ek.
    let l = c.loop-i in let inv = l.invariant in let windows : ℕ = c.args.views.now.shape.windows in let F : ℕ → Tools → Type 0 = λ t y. AreTools job t y in
    let past : l.i ≡ windows = (let a = c.loop-i-test.false in let b = c.windows-windows.ensures.value in let d = inv.1 in omega (arith, a, b, d)) in
    subst (λ (n : ℕ). AllPieces n F (reverse l.tools.items)) (sym (ap (λ (s : Shape). s.windows) ek)) (all_made windows l.i F l.tools.items past inv.0 (inv.2 job es ek))
