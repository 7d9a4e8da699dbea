-- The metrics of each lane stay near one another, as the law of a window's metrics says.
use Rattle.std.proofs.Common.{◌≡◌, ℕ, ◌+◌, ◌≤◌, List, ℤ, subst, arith}
use Rattle.model_receiver.specs.Borders.{IsBorder, number_for}
use Rattle.model_receiver.specs.Paths.{Window, width, gain, best_to, best_from}
use Rattle.model_receiver.proofs.Maxima.{greatest_one}
use Rattle.window_decode.specs.Lanes.{IsRelative}
use Rattle.window_decode.specs.Recursions.{AreNear}
use Rattle.window_decode.specs.Metrics.{IsForwardRow, IsBackwardRow, IsForward, IsBackward}
use Rattle.window_decode.specs.Ranges.{IsSoft, part_before, part_from}
use Rattle.window_decode.proofs.Widening.{near-same}
use Rattle.window_decode.proofs.WindowParts.{soft-before, soft-from, best_to-forward, best_from-backward, best_to-before, best_from-from}
use Rattle.window_decode.proofs.WindowSteps.{row-relative}
use Rattle.window_decode.proofs.WindowSweep.{border_from_near}

-- at any width, by the law's clauses `to_at_any_width` and `from_at_any_width`
pub forward-relative : ((v : Window) → IsSoft v → IsBorder v.start → AreNear 6391 (best_to v)) → (w : Window) (j : ℕ) (row : List ℤ) → j ≤ width w → IsSoft w → IsBorder w.start
    → IsForwardRow w.start (gain w) j row → IsRelative row
forward-relative law w j row le soft border h =
    row-relative row h.metrics h.is
    (near-same 6391 h.metrics (best_to (part_before w j)) (λ s. greatest_one _ _ _ _ (h.greatest s) (best_to-before w j le s)) (law (part_before w j) (soft-before w j soft) border))

pub backward-relative : ((v : Window) → IsSoft v → IsBorder v.end → AreNear 6391 (best_from v)) → (w : Window) (j n : ℕ) (row : List ℤ) → j + n ≡ width w → IsSoft w → IsBorder w.end
    → IsBackwardRow w.end (gain w) j n row → IsRelative row
backward-relative law w j n row place soft border h =
    row-relative row h.metrics h.is
    (near-same 6391 h.metrics (best_from (part_from w j)) (λ s. greatest_one _ _ _ _ (h.greatest s) (best_from-from w j n place s)) (law (part_from w j) (soft-from w j soft) border))

-- after three positions, by its clauses `to_after_three` and `from_after_three`
pub forward-border : ((v : Window) → IsSoft v → 3 ≤ width v → AreNear 2295 (best_to v)) → (w : Window) (n : ℕ) (row : List ℤ) → n ≡ width w → 8 ≤ n → IsSoft w
    → IsForwardRow w.start (gain w) n row → IsBorder row
forward-border law w n row e least soft h =
    border_from_near row h.metrics h.is
    (near-same 2295 h.metrics (best_to w) (λ s. greatest_one _ _ _ _ (subst (λ i. IsForward (number_for w.start) (gain w) i h.metrics) e h.greatest s) (best_to-forward w s))
    (law w soft (omega (arith, e, least))))

pub backward-border : ((v : Window) → IsSoft v → 3 ≤ width v → AreNear 2295 (best_from v)) → (w : Window) (n : ℕ) (row : List ℤ) → n ≡ width w → 8 ≤ n → IsSoft w
    → IsBackwardRow w.end (gain w) 0 n row → IsBorder row
backward-border law w n row e least soft h =
    border_from_near row h.metrics h.is
    (near-same 2295 h.metrics (best_from w) (λ s. greatest_one _ _ _ _ (subst (λ i. IsBackward (number_for w.end) (gain w) 0 i h.metrics) e h.greatest s) (best_from-backward w s))
    (law w soft (omega (arith, e, least))))
