-- Forward and backward metrics join at a position to the best scores, and at the ends they are the borders.
use Rattle.std.proofs.Common.{◌≡◌, ℕ, suc, ◌+◌, List, ◌∷◌, ◌++◌, length, ℤ, ◌+ℤ◌, ◌-ℤ◌, ◌≤ℤ◌, refl, sym, ap, ◌∙◌, subst, arith, length-append}
use Rattle.std.proofs.lemmas.Int.{ints}
use Rattle.lte_bits.specs.declared.bit.Bit.{Bit}
use Rattle.model_sender.specs.Bits as bits
use Rattle.model_sender.specs.ConstituentCoder.{State, next, parity}
use Rattle.model_sender.specs.Tail.{reached}
use Rattle.model_receiver.specs.Borders.{number_for, border_of, relative, at, if_zero}
use Rattle.model_receiver.specs.Paths.{Window, width, path, end_state, own_gain, gain, earned, score_without, greatest, IsBest, IsBestFrom, best, best_to, best_from}
use Rattle.model_receiver.specs.Windows.{forward_left, backward_left}
use Rattle.model_receiver.proofs.Maxima.{greatest_one}
use Rattle.model_receiver.proofs.GreatestPaths.{best-is, best_to-is, best_from-is}
use Rattle.window_decode.specs.Recursions.{joined}
use Rattle.window_decode.specs.Metrics.{IsForward, IsBackward}
use Rattle.window_decode.proofs.EightStates.{states-bound, states-attained, relative-same}
use Rattle.window_decode.proofs.PathSteps.{reached-append, earned-append, Around, around, at-middle}

-- the score of a path that is split at position j, without what its bit there earns
score-split : (w : Window) (j : ℕ) (s : State) (front : List Bit) (b : Bit) (rest : List Bit) → length front ≡ j
    → score_without w j (path s (front ++ b ∷ rest))
    ≡ (number_for w.start s +ℤ earned (gain w) 0 s front) +ℤ if_zero (parity (reached s front) b) (at w.par j)
    +ℤ (earned (gain w) (suc j) (next (reached s front) b) rest +ℤ number_for w.end (reached (next (reached s front) b) rest))
score-split w j s front b rest h =
    let t : State = reached s front in
    let a : earned (gain w) 0 s (front ++ b ∷ rest) ≡ earned (gain w) 0 s front +ℤ (gain w (0 + j) t b +ℤ earned (gain w) (suc (0 + j)) (next t b) rest) =
    earned-append (gain w) 0 s front (b ∷ rest) j h in
    let z : 0 + j ≡ j = omega arith in
    let e : gain w (0 + j) t b +ℤ earned (gain w) (suc (0 + j)) (next t b) rest ≡ gain w j t b +ℤ earned (gain w) (suc j) (next t b) rest =
    ap (λ i. gain w i t b +ℤ earned (gain w) (suc i) (next t b) rest) z in
    let l : number_for w.end (reached s (front ++ b ∷ rest)) ≡ number_for w.end (reached (next t b) rest) = ap (number_for w.end) (reached-append s front (b ∷ rest)) in
    let o : own_gain w j (bits.at (front ++ b ∷ rest) j) ≡ own_gain w j b = ap (own_gain w j) (at-middle front rest b j h) in
    by_sum (number_for w.start s) (earned (gain w) 0 s front) (own_gain w j b) (if_zero (parity t b) (at w.par j)) (earned (gain w) (suc j) (next t b) rest)
    (number_for w.end (reached (next t b) rest)) _ _ _ (a ∙ ap (λ x. earned (gain w) 0 s front +ℤ x) e) l o
  where
    by_sum : (f g o p r l whole last own : ℤ) → whole ≡ g +ℤ ((o +ℤ p) +ℤ r) → last ≡ l → own ≡ o → ((f +ℤ whole) +ℤ last) -ℤ own ≡ (f +ℤ g) +ℤ p +ℤ (r +ℤ l)
    by_sum f g o p r l whole last own h i k = omega (arith, ints)

joined-is : (w : Window) (j n : ℕ) (b : Bit) (m k : State → ℤ) → width w ≡ j + suc n → IsForward (number_for w.start) (gain w) j m → IsBackward (number_for w.end) (gain w) (suc j) n k
    → IsBest w b j (greatest (border_of (joined m k (at w.par j) b)))
joined-is w j n b m k long h g = record {
  attained =
      let q = states-attained (joined m k (at w.par j) b) in
      let x = (h q.0).attained in let y = (g (next q.0 b)).attained in
      let a = score-split w j x.0.start x.0.bits b y.0 x.1.0 in
      let c : if_zero (parity (end_state x.0) b) (at w.par j) ≡ if_zero (parity q.0 b) (at w.par j) = ap (λ t. if_zero (parity t b) (at w.par j)) x.1.1 in
      let d : earned (gain w) (suc j) (next (end_state x.0) b) y.0 +ℤ number_for w.end (reached (next (end_state x.0) b) y.0) ≡ k (next q.0 b) =
      ap (λ t. earned (gain w) (suc j) (next t b) y.0 +ℤ number_for w.end (reached (next t b) y.0)) x.1.1 ∙ y.2 in (
        path x.0.start (x.0.bits ++ b ∷ y.0),
        (length-append x.0.bits (b ∷ y.0) ∙ (let l : length x.0.bits + length (b ∷ y.0) ≡ width w = omega (arith, x.1.0, y.1, long) in l), at-middle x.0.bits y.0 b j x.1.0),
        a ∙ (same_sum (number_for w.start x.0.start +ℤ earned (gain w) 0 x.0.start x.0.bits) (m q.0) (if_zero (parity (end_state x.0) b) (at w.par j)) (if_zero (parity q.0 b) (at w.par j))
            (earned (gain w) (suc j) (next (end_state x.0) b) y.0 +ℤ number_for w.end (reached (next (end_state x.0) b) y.0)) (k (next q.0 b)) x.2 c d ∙ sym q.1),
      );
  bound = λ p ok.
      let v : Around p.bits j n b = around p.bits j n b (ok.0 ∙ long) ok.1 in
      let t : State = reached p.start v.front in
      let a = score-split w j p.start v.front b v.rest v.front_long in
      let x = (h t).bound (path p.start v.front) (v.front_long, refl) in
      let y = (g (next t b)).bound v.rest v.rest_long in
      let z = states-bound (joined m k (at w.par j) b) t in
      subst (λ us. score_without w j (path p.start us) ≤ℤ greatest (border_of (joined m k (at w.par j) b))) (sym v.is)
      (by_sum _ (number_for w.start p.start +ℤ earned (gain w) 0 p.start v.front) (m t) (if_zero (parity t b) (at w.par j))
      (earned (gain w) (suc j) (next t b) v.rest +ℤ number_for w.end (reached (next t b) v.rest)) (k (next t b)) _ a x y z);
}
  where
    same_sum : (x m p q y k : ℤ) → x ≡ m → p ≡ q → y ≡ k → x +ℤ p +ℤ y ≡ m +ℤ q +ℤ k
    same_sum x m p q y k e f h = omega (arith, ints)

    by_sum : (s x m g y k f : ℤ) → s ≡ x +ℤ g +ℤ y → x ≤ℤ m → y ≤ℤ k → (m +ℤ g +ℤ k) ≤ℤ f → s ≤ℤ f
    by_sum s x m g y k f e p q r = omega (arith, ints)

-- the best score at a position
pub joined-best : (w : Window) (j n : ℕ) (b : Bit) (m k : State → ℤ) → width w ≡ j + suc n → IsForward (number_for w.start) (gain w) j m → IsBackward (number_for w.end) (gain w) (suc j) n k
    → greatest (border_of (joined m k (at w.par j) b)) ≡ best w b j
joined-best w j n b m k long h g =
    greatest_one _ _ _ _ (joined-is w j n b m k long h g) (best-is w b j (omega (arith, long)))

-- the borders left
pub forward-left : (w : Window) (m : State → ℤ) → IsForward (number_for w.start) (gain w) (width w) m → relative m ≡ forward_left w
unfolding forward_left
forward-left w m h = relative-same m (best_to w) (λ s. greatest_one _ _ _ _ (h s) (best_to-is w s))

pub backward-left : (w : Window) (m : State → ℤ) → IsBackward (number_for w.end) (gain w) 0 (width w) m → relative m ≡ backward_left w
unfolding backward_left
backward-left w m h = relative-same m (best_from w) (λ s. greatest_one _ _ _ _ (from s) (best_from-is w s))
  where
    from : (s : State) → IsBestFrom w s (m s)
    from s = record {
      attained = (path s (h s).attained.0, ((h s).attained.1, refl), (h s).attained.2);
      bound = λ p ok. subst (λ t. (earned (gain w) 0 p.start p.bits +ℤ number_for w.end (reached p.start p.bits)) ≤ℤ m t) ok.1 ((h p.start).bound p.bits ok.0);
    }
