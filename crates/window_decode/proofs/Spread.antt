-- From the third position on the metrics of all states are near one another.
use Rattle.std.proofs.Common.{◌≡◌, ℕ, suc, ◌+◌, ◌<◌, List, [], ◌∷◌, ◌++◌, length, ℤ, pos, ◌+ℤ◌, ◌-ℤ◌, ◌≤ℤ◌, sym, ap, ◌∙◌, subst, arith, length-append}
use Rattle.std.specs.Int.{int_min}
use Rattle.std.proofs.lemmas.Int.{ints, clamps}
use Rattle.lte_bits.specs.Softs.{IsWithin}
use Rattle.lte_bits.specs.declared.bit.Bit.{Bit}
use Rattle.lte_bits.specs.declared.bit.Bit.TheVariants.{Zero, One}
use Rattle.model_sender.specs.ConstituentCoder.{State, next, parity}
use Rattle.model_sender.specs.Tail.{reached}
use Rattle.rsc_trellis.proofs.TrellisSteps.{three_inputs}
use Rattle.model_receiver.specs.Borders.{if_zero}
use Rattle.model_receiver.specs.Paths.{path, Gain, earned}
use Rattle.window_decode.specs.Recursions.{AreNear, step_gain}
use Rattle.window_decode.specs.Metrics.{IsForward, IsBackward}
use Rattle.window_decode.proofs.PathSteps.{reached-append, earned-append, earned-from_zero, Cut, cut}

-- all steps of position j earn about the same: at least low, and at most 765 more
pub record IsNarrow (g : Gain) (j : ℕ) : Type 0 where
  pub low : ℤ
  pub least : (s : State) (u : Bit) → low ≤ℤ g j s u
  pub most : (s : State) (u : Bit) → g j s u ≤ℤ (low +ℤ pos 765)

pub lowest : ℤ → ℤ → ℤ
lowest x p = int_min x (pos 0) +ℤ int_min p (pos 0)

pub step-least : (x p : ℤ) (s : State) (u : Bit) → lowest x p ≤ℤ step_gain x p s u
unfolding lowest
step-least x p s u = by_bits u (parity s u)
  where
    by_bits : (a b : Bit) → (int_min x (pos 0) +ℤ int_min p (pos 0)) ≤ℤ (if_zero a x +ℤ if_zero b p)
    by_bits Zero Zero = omega (arith, ints, clamps)
    by_bits Zero One = omega (arith, ints, clamps)
    by_bits One Zero = omega (arith, ints, clamps)
    by_bits One One = omega (arith, ints, clamps)

pub step-most : (x p : ℤ) (s : State) (u : Bit) → IsWithin 638 x → IsWithin 127 p → step_gain x p s u ≤ℤ (lowest x p +ℤ pos 765)
unfolding lowest
step-most x p s u h k = by_bits u (parity s u)
  where
    by_bits : (a b : Bit) → (if_zero a x +ℤ if_zero b p) ≤ℤ (int_min x (pos 0) +ℤ int_min p (pos 0) +ℤ pos 765)
    by_bits Zero Zero = omega (arith, ints, clamps)
    by_bits Zero One = omega (arith, ints, clamps)
    by_bits One Zero = omega (arith, ints, clamps)
    by_bits One One = omega (arith, ints, clamps)

-- three steps earn the same but for 2295
record AreThree (g : Gain) (j : ℕ) : Type 0 where
  first : IsNarrow g j
  second : IsNarrow g (suc j)
  third : IsNarrow g (suc (suc j))

three_low : (g : Gain) (j : ℕ) → AreThree g j → ℤ
three_low g j h = h.first.low +ℤ h.second.low +ℤ h.third.low

three-near : (g : Gain) (j : ℕ) (h : AreThree g j) (s : State) (us : List Bit) → length us ≡ 3
    → (three_low g j h ≤ℤ earned g j s us) × (earned g j s us ≤ℤ (three_low g j h +ℤ pos 2295))
unfolding three_low
three-near g j h s [] l = absurd (omega (arith, l))
three-near g j h s (a ∷ []) l = absurd (omega (arith, l))
three-near g j h s (a ∷ b ∷ []) l = absurd (omega (arith, l))
three-near g j h s (a ∷ b ∷ c ∷ d ∷ us) l = absurd (omega (arith, l))
three-near g j h s (a ∷ b ∷ c ∷ []) l =
    let t : State = next s a in let v : State = next t b in (
      under h.first.low h.second.low h.third.low (g j s a) (g (suc j) t b) (g (suc (suc j)) v c) (h.first.least s a) (h.second.least t b) (h.third.least v c),
      over h.first.low h.second.low h.third.low (g j s a) (g (suc j) t b) (g (suc (suc j)) v c) (h.first.most s a) (h.second.most t b) (h.third.most v c),
    )
  where
    under : (x y z a b c : ℤ) → x ≤ℤ a → y ≤ℤ b → z ≤ℤ c → (x +ℤ y +ℤ z) ≤ℤ (a +ℤ (b +ℤ (c +ℤ pos 0)))
    under x y z a b c p q r = omega (arith, ints)

    over : (x y z a b c : ℤ) → a ≤ℤ (x +ℤ pos 765) → b ≤ℤ (y +ℤ pos 765) → c ≤ℤ (z +ℤ pos 765) → (a +ℤ (b +ℤ (c +ℤ pos 0))) ≤ℤ (x +ℤ y +ℤ z +ℤ pos 2295)
    over x y z a b c p q r = omega (arith, ints)

three_from : (g : Gain) (j n : ℕ) → suc (suc j) < n → ((i : ℕ) → i < n → IsNarrow g i) → AreThree g j
three_from g j n lt h = record { first = h j (omega (arith, lt)); second = h (suc j) (omega (arith, lt)); third = h (suc (suc j)) lt }

pub forward-near : (first : State → ℤ) (g : Gain) (j : ℕ) (m : State → ℤ) → ((i : ℕ) → i < j + 3 → IsNarrow g i) → IsForward first g (j + 3) m → AreNear 2295 m
forward-near first g j m narrow h s t =
    let three : AreThree g j = three_from g j (j + 3) (omega arith) narrow in
    let p = (h s).attained in
    let w : Cut p.0.bits j 3 = cut p.0.bits j 3 p.1.0 in
    let u : State = reached p.0.start w.front in
    let ws = three_inputs u t in
    let here : first p.0.start +ℤ earned g 0 p.0.start p.0.bits ≡ (first p.0.start +ℤ earned g 0 p.0.start w.front) +ℤ earned g j u w.rest =
    ap (λ us. first p.0.start +ℤ earned g 0 p.0.start us) w.is ∙ assoc (first p.0.start) _ (earned g 0 p.0.start w.front) (earned g j u w.rest)
    (earned-from_zero g p.0.start w.front w.rest j w.front_long) in
    let there : first p.0.start +ℤ earned g 0 p.0.start (w.front ++ ws.0) ≡ (first p.0.start +ℤ earned g 0 p.0.start w.front) +ℤ earned g j u ws.0 =
    assoc (first p.0.start) _ (earned g 0 p.0.start w.front) (earned g j u ws.0) (earned-from_zero g p.0.start w.front ws.0 j w.front_long) in
    let long : length (w.front ++ ws.0) ≡ j + 3 = length-append w.front ws.0 ∙ (let l : length w.front + length ws.0 ≡ j + 3 = omega (arith, w.front_long, ws.1) in l) in
    let b = (h t).bound (path p.0.start (w.front ++ ws.0)) (long, reached-append p.0.start w.front ws.0 ∙ ws.2) in
    let x = three-near g j three u w.rest w.rest_long in
    let y = three-near g j three u ws.0 ws.1 in
    differ (m s) (m t) _ (first p.0.start +ℤ earned g 0 p.0.start w.front) (earned g j u w.rest) _ (earned g j u ws.0) (three_low g j three) p.2 here b there x.1 y.0
  where
    assoc : (f a e r : ℤ) → a ≡ e +ℤ r → f +ℤ a ≡ (f +ℤ e) +ℤ r
    assoc f a e r h = omega (arith, ints)

    differ : (m k x a y z w l : ℤ) → x ≡ m → x ≡ a +ℤ y → z ≤ℤ k → z ≡ a +ℤ w → y ≤ℤ (l +ℤ pos 2295) → l ≤ℤ w → (m -ℤ k) ≤ℤ pos 2295
    differ m k x a y z w l p q r s t u = omega (arith, ints)

pub backward-near : (last : State → ℤ) (g : Gain) (j n : ℕ) (m : State → ℤ) → ((i : ℕ) → i < j + 3 → IsNarrow g i) → IsBackward last g j (3 + n) m → AreNear 2295 m
backward-near last g j n m narrow h s t =
    let three : AreThree g j = three_from g j (j + 3) (omega arith) narrow in
    let p = (h s).attained in
    let w : Cut p.0 3 n = cut p.0 3 n p.1 in
    let v : State = reached s w.front in
    let ws = three_inputs t v in
    let after : ℤ = earned g (j + 3) v w.rest +ℤ last (reached v w.rest) in
    let here : earned g j s p.0 +ℤ last (reached s p.0) ≡ earned g j s w.front +ℤ after =
    ap (λ us. earned g j s us +ℤ last (reached s us)) w.is
    ∙ (ap (λ z. earned g j s (w.front ++ w.rest) +ℤ last z) (reached-append s w.front w.rest)
    ∙ assoc _ (earned g j s w.front) (earned g (j + 3) v w.rest) (last (reached v w.rest)) (earned-append g j s w.front w.rest 3 w.front_long)) in
    let back : reached t ws.0 ≡ v = ws.2 in
    let there : earned g j t (ws.0 ++ w.rest) +ℤ last (reached t (ws.0 ++ w.rest)) ≡ earned g j t ws.0 +ℤ after =
    ap (λ z. earned g j t (ws.0 ++ w.rest) +ℤ last z) (reached-append t ws.0 w.rest ∙ ap (λ z. reached z w.rest) back)
    ∙ assoc _ (earned g j t ws.0) (earned g (j + 3) v w.rest) (last (reached v w.rest)) (earned-append g j t ws.0 w.rest 3 ws.1 ∙ ap (λ z. earned g j t ws.0 +ℤ earned g (j + 3) z w.rest) back) in
    let long : length (ws.0 ++ w.rest) ≡ 3 + n = length-append ws.0 w.rest ∙ (let l : length ws.0 + length w.rest ≡ 3 + n = omega (arith, ws.1, w.rest_long) in l) in
    let b = (h t).bound (ws.0 ++ w.rest) long in
    let x = three-near g j three s w.front w.front_long in
    let y = three-near g j three t ws.0 ws.1 in
    gap (m s) (m t) _ (earned g j s w.front) after _ (earned g j t ws.0) (three_low g j three) p.2 here b there x.1 y.0
  where
    assoc : (a e r l : ℤ) → a ≡ e +ℤ r → a +ℤ l ≡ e +ℤ (r +ℤ l)
    assoc a e r l h = omega (arith, ints)

    gap : (m k x y a z w l : ℤ) → x ≡ m → x ≡ y +ℤ a → z ≤ℤ k → z ≡ w +ℤ a → y ≤ℤ (l +ℤ pos 2295) → l ≤ℤ w → (m -ℤ k) ≤ℤ pos 2295
    gap m k x y a z w l p q r s t u = omega (arith, ints)

pub narrow-step : (g : Gain) (j : ℕ) (x p : ℤ) → ((s : State) (u : Bit) → g j s u ≡ step_gain x p s u) → IsWithin 638 x → IsWithin 127 p → IsNarrow g j
narrow-step g j x p e h k = record {
  low = lowest x p;
  least = λ s u. subst (λ (z : ℤ). lowest x p ≤ℤ z) (sym (e s u)) (step-least x p s u);
  most = λ s u. subst (λ (z : ℤ). z ≤ℤ (lowest x p +ℤ pos 765)) (sym (e s u)) (step-most x p s u h k);
}
