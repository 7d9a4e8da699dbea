-- The forward recursion gives the greatest numbers over all paths that end in a state.
use Rattle.std.proofs.Common.{◌≡◌, ℕ, suc, ◌+◌, List, [], ◌∷◌, ◌++◌, length, ℤ, pos, ◌+ℤ◌, ◌≤ℤ◌, refl, sym, ap, ◌∙◌, subst, inl, inr, arith, length-append}
use Rattle.std.specs.Int.{int_max}
use Rattle.std.proofs.lemmas.Int.{ints}
use Rattle.lte_bits.specs.declared.bit.Bit.{Bit}
use Rattle.lte_bits.specs.declared.bit.Bit.TheVariants.{Zero, One}
use Rattle.model_sender.specs.ConstituentCoder.{State, next}
use Rattle.model_sender.specs.Tail.{reached}
use Rattle.rsc_trellis.specs.Steps.{state_before, input_before}
use Rattle.rsc_trellis.proofs.TrellisSteps.{next-before, input-next}
use Rattle.model_receiver.specs.Paths.{Path, path, end_state, Gain, earned}
use Rattle.model_receiver.proofs.Maxima.{max-left, max-right, max_is}
use Rattle.window_decode.specs.Recursions.{way_in, forward}
use Rattle.window_decode.specs.Metrics.{IsForward}
use Rattle.window_decode.proofs.PathSteps.{reached-append, earned-append, Cut, cut}

-- a step into a state earns at most the greater way
forward-bound : (m : State → ℤ) (g : State → Bit → ℤ) (t : State) (u : Bit) → (m t +ℤ g t u) ≤ℤ forward m g (next t u)
forward-bound m g t u =
    subst (λ (z : ℤ). z ≤ℤ forward m g (next t u)) (ap (λ v. m t +ℤ g t v) (input-next t u)) (of_two (way_in m g (next t u)) t.a3)
  where
    of_two : (way : Bit → ℤ) (r : Bit) → way r ≤ℤ int_max (way Zero) (way One)
    of_two way Zero = max-left (way Zero) (way One)
    of_two way One = max-right (way Zero) (way One)

-- and the greater way is a step
pub forward-attained : (m : State → ℤ) (g : State → Bit → ℤ) (s : State) → (r : Bit) × (forward m g s ≡ way_in m g s r)
forward-attained m g s = elim (max_is (way_in m g s Zero) (way_in m g s One)) [ inl e ↦ (Zero, e) | inr e ↦ (One, e) ]

pub forward_none : (first : State → ℤ) (g : Gain) → IsForward first g 0 first
forward_none first g s = record {
  attained = (path s [], (refl, refl), (let e : first s +ℤ pos 0 ≡ first s = omega (arith, ints) in e));
  bound = λ p ok. nothing p.start p.bits ok.0 ok.1;
}
  where
    nothing : (t : State) (us : List Bit) → length us ≡ 0 → reached t us ≡ s → (first t +ℤ earned g 0 t us) ≤ℤ first s
    nothing t [] h e = let f : first t ≡ first s = ap first e in omega (arith, ints, f)
    nothing t (u ∷ us) h e = absurd (omega (arith, h))

-- what the path with one more bit earns
from_start-push : (first : State → ℤ) (g : Gain) (s : State) (us : List Bit) (u : Bit) (j : ℕ) → length us ≡ j
    → first s +ℤ earned g 0 s (us ++ u ∷ []) ≡ (first s +ℤ earned g 0 s us) +ℤ g j (reached s us) u
from_start-push first g s us u j h =
    let a : earned g 0 s (us ++ u ∷ []) ≡ earned g 0 s us +ℤ (g (0 + j) (reached s us) u +ℤ pos 0) = earned-append g 0 s us (u ∷ []) j h in
    let f : g (0 + j) (reached s us) u ≡ g j (reached s us) u = ap (λ n. g n (reached s us) u) (let e : 0 + j ≡ j = omega arith in e) in
    omega (arith, ints, a, f)

more_attained : (first : State → ℤ) (g : Gain) (j : ℕ) (m : State → ℤ) (s t : State) (u : Bit) (p : Path) → length p.bits ≡ j → end_state p ≡ t
    → first p.start +ℤ earned g 0 p.start p.bits ≡ m t → next t u ≡ s
    → (x : Path) × ((length x.bits ≡ suc j) × (end_state x ≡ s)) × (first x.start +ℤ earned g 0 x.start x.bits ≡ m t +ℤ g j t u)
more_attained first g j m s t u p long ends is e = (
  path p.start (p.bits ++ u ∷ []),
  (
    length-append p.bits (u ∷ []) ∙ (let l : length p.bits + 1 ≡ suc j = omega (arith, long) in l),
    reached-append p.start p.bits (u ∷ []) ∙ (ap (λ v. next v u) ends ∙ e),
  ),
  from_start-push first g p.start p.bits u j long ∙ (ap (λ z. z +ℤ g j (end_state p) u) is ∙ ap (λ v. m t +ℤ g j v u) ends),
)

more_bound : (first : State → ℤ) (g : Gain) (j : ℕ) (m : State → ℤ) → IsForward first g j m → (start : State) (front : List Bit) (u : Bit) → length front ≡ j
    → (first start +ℤ earned g 0 start (front ++ u ∷ [])) ≤ℤ forward m (g j) (next (reached start front) u)
more_bound first g j m h start front u long =
    let t : State = reached start front in
    by_sum _ (first start +ℤ earned g 0 start front) (m t) (g j t u) _ (from_start-push first g start front u j long) ((h t).bound (path start front) (long, refl)) (forward-bound m (g j) t u)
  where
    by_sum : (x y z g f : ℤ) → x ≡ y +ℤ g → y ≤ℤ z → (z +ℤ g) ≤ℤ f → x ≤ℤ f
    by_sum x y z g f e p q = omega (arith, ints)

one_bit : (us : List Bit) → length us ≡ 1 → (u : Bit) × (us ≡ u ∷ [])
one_bit [] h = absurd (omega (arith, h))
one_bit (u ∷ []) h = (u, refl)
one_bit (u ∷ v ∷ us) h = absurd (omega (arith, h))

pub forward_more : (first : State → ℤ) (g : Gain) (j : ℕ) (m : State → ℤ) → IsForward first g j m → IsForward first g (suc j) (forward m (g j))
forward_more first g j m h s = record {
  attained =
      let w = forward-attained m (g j) s in
      let p = (h (state_before s w.0)).attained in
      let q = more_attained first g j m s (state_before s w.0) (input_before s w.0) p.0 p.1.0 p.1.1 p.2 (next-before s w.0) in
      (q.0, q.1, q.2 ∙ sym w.1);
  bound = λ p ok.
      let w : Cut p.bits j 1 = cut p.bits j 1 (omega (arith, ok.0)) in
      let v = one_bit w.rest w.rest_long in
      let is : p.bits ≡ w.front ++ v.0 ∷ [] = w.is ∙ ap (λ us. w.front ++ us) v.1 in
      let e : next (reached p.start w.front) v.0 ≡ s = sym (reached-append p.start w.front (v.0 ∷ [])) ∙ (ap (reached p.start) (sym is) ∙ ok.1) in
      let b = more_bound first g j m h p.start w.front v.0 w.front_long in
      let f : first p.start +ℤ earned g 0 p.start p.bits ≡ first p.start +ℤ earned g 0 p.start (w.front ++ v.0 ∷ []) = ap (λ us. first p.start +ℤ earned g 0 p.start us) is in
      subst (λ (z : State). (first p.start +ℤ earned g 0 p.start p.bits) ≤ℤ forward m (g j) z) e
      (subst (λ (z : ℤ). z ≤ℤ forward m (g j) (next (reached p.start w.front) v.0)) (sym f) b);
}
