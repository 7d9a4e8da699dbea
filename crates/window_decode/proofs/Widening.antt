-- One position widens the spread of the metrics by at most 765, so that they are near one another at every position.
use Rattle.std.proofs.Common.{◌≡◌, ℕ, zero, suc, ◌+◌, ◌*◌, ◌-◌, ◌<◌, ◌≤◌, ℤ, pos, ◌+ℤ◌, ◌-ℤ◌, ◌≤ℤ◌, subst, inl, inr, arith}
use Rattle.std.proofs.lemmas.Bool.{cases_lt}
use Rattle.std.proofs.lemmas.Int.{ints}
use Rattle.model_sender.specs.ConstituentCoder.{State, next}
use Rattle.rsc_trellis.specs.Steps.{state_before, input_before}
use Rattle.model_receiver.specs.Paths.{Gain}
use Rattle.model_receiver.proofs.Maxima.{greatest_one}
use Rattle.window_decode.specs.Recursions.{AreNear, forward, backward}
use Rattle.window_decode.specs.Metrics.{IsForward, IsBackward}
use Rattle.window_decode.proofs.ForwardMetrics.{forward-attained, forward_none, forward_more}
use Rattle.window_decode.proofs.BackwardMetrics.{backward-attained, backward_none, backward_more}
use Rattle.window_decode.proofs.Spread.{IsNarrow, forward-near, backward-near}

pub forward-wider : (g : Gain) (j n : ℕ) (m : State → ℤ) → IsNarrow g j → AreNear n m → AreNear (n + 765) (forward m (g j))
forward-wider g j n m h near s t =
    let v = forward-attained m (g j) s in let w = forward-attained m (g j) t in
    let a : State = state_before s v.0 in let b : State = state_before t w.0 in
    by_sum _ _ (m a) (m b) (g j a (input_before s v.0)) (g j b (input_before t w.0)) h.low v.1 w.1 (near a b) (h.most a (input_before s v.0)) (h.least b (input_before t w.0))
  where
    by_sum : (f k x y u v l : ℤ) → f ≡ x +ℤ u → k ≡ y +ℤ v → (x -ℤ y) ≤ℤ pos n → u ≤ℤ (l +ℤ pos 765) → l ≤ℤ v → (f -ℤ k) ≤ℤ pos (n + 765)
    by_sum f k x y u v l e h p q r = omega (arith, ints)

pub backward-wider : (g : Gain) (j n : ℕ) (m : State → ℤ) → IsNarrow g j → AreNear n m → AreNear (n + 765) (backward m (g j))
backward-wider g j n m h near s t =
    let v = backward-attained m (g j) s in let w = backward-attained m (g j) t in
    by_sum _ _ (m (next s v.0)) (m (next t w.0)) (g j s v.0) (g j t w.0) h.low v.1 w.1 (near (next s v.0) (next t w.0)) (h.most s v.0) (h.least t w.0)
  where
    by_sum : (f k x y u v l : ℤ) → f ≡ u +ℤ x → k ≡ v +ℤ y → (x -ℤ y) ≤ℤ pos n → u ≤ℤ (l +ℤ pos 765) → l ≤ℤ v → (f -ℤ k) ≤ℤ pos (n + 765)
    by_sum f k x y u v l e h p q r = omega (arith, ints)

pub near-more : (n k : ℕ) (m : State → ℤ) → n ≤ k → AreNear n m → AreNear k m
near-more n k m le near s t = more (m s -ℤ m t) (near s t)
  where
    more : (x : ℤ) → x ≤ℤ pos n → x ≤ℤ pos k
    more x h = omega (arith, ints)

pub near-same : (n : ℕ) (f h : State → ℤ) → ((s : State) → f s ≡ h s) → AreNear n h → AreNear n f
near-same n f h e near s t = moved _ _ _ _ (e s) (e t) (near s t)
  where
    moved : (a b x y : ℤ) → a ≡ x → b ≡ y → (x -ℤ y) ≤ℤ pos n → (a -ℤ b) ≤ℤ pos n
    moved a b x y p q h = omega (arith, ints)

-- ---- the recursions over many positions

abbrev forwards : (State → ℤ) → Gain → ℕ → State → ℤ
forwards first g zero = first
forwards first g (suc j) = forward (forwards first g j) (g j)

forwards-are : (first : State → ℤ) (g : Gain) (j : ℕ) → IsForward first g j (forwards first g j)
forwards-are first g zero = forward_none first g
forwards-are first g (suc j) = forward_more first g j (forwards first g j) (forwards-are first g j)

forwards-near : (first : State → ℤ) (g : Gain) (j n : ℕ) → AreNear n first → ((i : ℕ) → i < j → IsNarrow g i) → AreNear (n + 765 * j) (forwards first g j)
forwards-near first g zero n near narrow = near-more n (n + 765 * 0) first (omega arith) near
forwards-near first g (suc j) n near narrow =
    near-more ((n + 765 * j) + 765) (n + 765 * suc j) (forward (forwards first g j) (g j)) (omega arith)
    (forward-wider g j (n + 765 * j) (forwards first g j) (narrow j (omega arith)) (forwards-near first g j n near (λ i lt. narrow i (omega (arith, lt)))))

pub forward-by_width : (first : State → ℤ) (g : Gain) (j n : ℕ) (m : State → ℤ) → AreNear n first → ((i : ℕ) → i < j → IsNarrow g i) → IsForward first g j m → AreNear (n + 765 * j) m
forward-by_width first g j n m near narrow h =
    near-same (n + 765 * j) m (forwards first g j) (λ s. greatest_one _ _ _ _ (h s) (forwards-are first g j s)) (forwards-near first g j n near narrow)

abbrev backwards : (State → ℤ) → Gain → ℕ → ℕ → State → ℤ
backwards last g j zero = last
backwards last g j (suc n) = backward (backwards last g (suc j) n) (g j)

backwards-are : (last : State → ℤ) (g : Gain) (j n : ℕ) → IsBackward last g j n (backwards last g j n)
backwards-are last g j zero = backward_none last g j
backwards-are last g j (suc n) = backward_more last g j n (backwards last g (suc j) n) (backwards-are last g (suc j) n)

backwards-near : (last : State → ℤ) (g : Gain) (j n k : ℕ) → AreNear k last → ((i : ℕ) → i < j + n → IsNarrow g i) → AreNear (k + 765 * n) (backwards last g j n)
backwards-near last g j zero k near narrow = near-more k (k + 765 * 0) last (omega arith) near
backwards-near last g j (suc n) k near narrow =
    near-more ((k + 765 * n) + 765) (k + 765 * suc n) (backward (backwards last g (suc j) n) (g j)) (omega arith)
    (backward-wider g j (k + 765 * n) (backwards last g (suc j) n) (narrow j (omega arith)) (backwards-near last g (suc j) n k near (λ i lt. narrow i (omega (arith, lt)))))

pub backward-by_width : (last : State → ℤ) (g : Gain) (j n k : ℕ) (m : State → ℤ) → AreNear k last → ((i : ℕ) → i < j + n → IsNarrow g i) → IsBackward last g j n m → AreNear (k + 765 * n) m
backward-by_width last g j n k m near narrow h =
    near-same (k + 765 * n) m (backwards last g j n) (λ s. greatest_one _ _ _ _ (h s) (backwards-are last g j n s)) (backwards-near last g j n k near narrow)

-- ---- at every position: below three by the width, and from three on whatever the border was

pub forward-spread : (first : State → ℤ) (g : Gain) (j : ℕ) (m : State → ℤ) → AreNear 4096 first → ((i : ℕ) → i < j → IsNarrow g i) → IsForward first g j m → AreNear 6391 m
forward-spread first g j m near narrow h =
    elim (cases_lt j 3) [
      | inl below ↦ near-more (4096 + 765 * j) 6391 m (omega (arith, below)) (forward-by_width first g j 4096 m near narrow h)
      | inr three ↦ (
          let e : j ≡ (j - 3) + 3 = omega (arith, three) in
          near-more 2295 6391 m (omega arith) (forward-near first g (j - 3) m (λ i lt. narrow i (omega (arith, lt, three))) (subst (λ n. IsForward first g n m) e h)))
    ]

pub backward-spread : (last : State → ℤ) (g : Gain) (j n : ℕ) (m : State → ℤ) → AreNear 4096 last → ((i : ℕ) → i < j + n → IsNarrow g i) → IsBackward last g j n m → AreNear 6391 m
backward-spread last g j n m near narrow h =
    elim (cases_lt n 3) [
      | inl below ↦ near-more (4096 + 765 * n) 6391 m (omega (arith, below)) (backward-by_width last g j n 4096 m near narrow h)
      | inr three ↦ (
          let e : n ≡ 3 + (n - 3) = omega (arith, three) in
          near-more 2295 6391 m (omega arith) (backward-near last g j (n - 3) m (λ i lt. narrow i (omega (arith, lt, three))) (subst (λ i. IsBackward last g j i m) e h)))
    ]
