-- How far apart the metrics of a window are.
use Rattle.std.proofs.Common.{◌≡◌, ℕ, suc, ◌+◌, ◌*◌, ◌-◌, ◌<◌, ◌≤◌, ℤ, ◌+ℤ◌, subst, arith}
use Rattle.std.proofs.lemmas.Int.{ints}
use Rattle.lte_bits.specs.Softs.{IsWithin}
use Rattle.model_sender.specs.ConstituentCoder.{State}
use Rattle.model_receiver.specs.Borders.{IsBorder, number_for, at}
use Rattle.model_receiver.specs.Paths.{Window, width, gain, best_to, best_from}
use Rattle.model_receiver.proofs.Maxima.{greatest_one}
use Rattle.window_decode.specs.Recursions.{AreNear, forward, backward}
use Rattle.window_decode.specs.Metrics.{IsForward, IsBackward}
use Rattle.window_decode.specs.Ranges.{IsSoft, part_before, part_from}
use Rattle.window_decode.proofs.ForwardMetrics.{forward_more}
use Rattle.window_decode.proofs.BackwardMetrics.{backward_more}
use Rattle.window_decode.proofs.Spread.{IsNarrow, lowest, step-least, step-most, forward-near, backward-near}
use Rattle.window_decode.proofs.Widening.{forward-wider, backward-wider, near-same, forward-by_width, backward-by_width, forward-spread, backward-spread}
use Rattle.window_decode.proofs.WindowParts.{best_to-forward, best_from-backward, best_to-before, best_from-from}

pub narrow : (w : Window) → IsSoft w → (j : ℕ) → IsNarrow (gain w) j
narrow w soft j =
    let x : ℤ = at w.sys j +ℤ at w.cells j in
    let p : ℤ = at w.par j in
    record {
      low = lowest x p;
      least = λ s u. step-least x p s u;
      most = λ s u. step-most x p s u (sum (at w.sys j) (at w.cells j) (soft.systematic j) (soft.cells j)) (soft.parity j);
    }
  where
    sum : (x c : ℤ) → IsWithin 127 x → IsWithin 511 c → IsWithin 638 (x +ℤ c)
    sum x c h k = (omega (arith, ints), omega (arith, ints))

-- ---- one position more

pub to-widens : (w : Window) (j n : ℕ) → IsSoft w → j < width w → AreNear n (best_to (part_before w j)) → AreNear (n + 765) (best_to (part_before w (j + 1)))
to-widens w j n soft lt near =
    let m : State → ℤ = best_to (part_before w j) in
    let next : State → ℤ = best_to (part_before w (j + 1)) in
    let e : suc j ≡ j + 1 = omega arith in
    let is : IsForward (number_for w.start) (gain w) (j + 1) (forward m (gain w j)) =
    subst (λ i. IsForward (number_for w.start) (gain w) i (forward m (gain w j))) e
    (forward_more (number_for w.start) (gain w) j m (best_to-before w j (omega (arith, lt)))) in
    near-same (n + 765) next (forward m (gain w j)) (λ s. greatest_one _ _ _ _ (best_to-before w (j + 1) (omega (arith, lt)) s) (is s))
    (forward-wider (gain w) j n m (narrow w soft j) near)

pub from-widens : (w : Window) (j n : ℕ) → IsSoft w → j < width w → AreNear n (best_from (part_from w (j + 1))) → AreNear (n + 765) (best_from (part_from w j))
from-widens w j n soft lt near =
    let m : State → ℤ = best_from (part_from w (j + 1)) in
    let next : State → ℤ = best_from (part_from w j) in
    let rest : ℕ = width w - 1 - j in
    let e : j + 1 ≡ suc j = omega arith in
    let after : IsBackward (number_for w.end) (gain w) (suc j) rest m =
    subst (λ i. IsBackward (number_for w.end) (gain w) i rest m) e (best_from-from w (j + 1) rest (omega (arith, lt))) in
    near-same (n + 765) next (backward m (gain w j))
    (λ s. greatest_one _ _ _ _ (best_from-from w j (suc rest) (omega (arith, lt)) s) (backward_more (number_for w.end) (gain w) j rest m after s))
    (backward-wider (gain w) j n m (narrow w soft j) near)

-- ---- over a window's width

pub to-by_width : (w : Window) → IsSoft w → IsBorder w.start → AreNear (4096 + 765 * width w) (best_to w)
to-by_width w soft border = forward-by_width (number_for w.start) (gain w) (width w) 4096 (best_to w) border.spread (λ i _. narrow w soft i) (best_to-forward w)

pub from-by_width : (w : Window) → IsSoft w → IsBorder w.end → AreNear (4096 + 765 * width w) (best_from w)
from-by_width w soft border =
    backward-by_width (number_for w.end) (gain w) 0 (width w) 4096 (best_from w) border.spread (λ i _. narrow w soft i) (best_from-backward w)

pub to-after_three : (w : Window) → IsSoft w → 3 ≤ width w → AreNear 2295 (best_to w)
to-after_three w soft wide =
    let e : width w ≡ (width w - 3) + 3 = omega (arith, wide) in
    forward-near (number_for w.start) (gain w) (width w - 3) (best_to w) (λ i _. narrow w soft i)
    (subst (λ n. IsForward (number_for w.start) (gain w) n (best_to w)) e (best_to-forward w))

pub from-after_three : (w : Window) → IsSoft w → 3 ≤ width w → AreNear 2295 (best_from w)
from-after_three w soft wide =
    let e : width w ≡ 3 + (width w - 3) = omega (arith, wide) in
    backward-near (number_for w.end) (gain w) 0 (width w - 3) (best_from w) (λ i _. narrow w soft i)
    (subst (λ n. IsBackward (number_for w.end) (gain w) 0 n (best_from w)) e (best_from-backward w))

pub to-at_any_width : (w : Window) → IsSoft w → IsBorder w.start → AreNear 6391 (best_to w)
to-at_any_width w soft border = forward-spread (number_for w.start) (gain w) (width w) (best_to w) border.spread (λ i _. narrow w soft i) (best_to-forward w)

pub from-at_any_width : (w : Window) → IsSoft w → IsBorder w.end → AreNear 6391 (best_from w)
from-at_any_width w soft border =
    backward-spread (number_for w.end) (gain w) 0 (width w) (best_from w) border.spread (λ i _. narrow w soft i) (best_from-backward w)
