-- Sums over the first whole numbers.
use Rattle.std.proofs.Common.{◌≡◌, ℕ, zero, suc, ◌+◌, ◌*◌, ◌<◌, ◌≤◌, Bool, true, false, cond, List, [], ◌∷◌, fold, refl, sym, ap, ◌∙◌, arith}
use Rattle.std.specs.List.{range_with_len, sum_by}
use Rattle.std.proofs.lemmas.List.Sums.{sum-map}
use Rattle.std.proofs.lemmas.List.FromFn.{sum_by-map-range_with_len_more}

-- one more
pub sum_by-range_more : (f : ℕ → ℕ) (n : ℕ) → sum_by f (range_with_len 0 (n + 1)) ≡ sum_by f (range_with_len 0 n) + f n
sum_by-range_more f n =
    sym (sum-map f (range_with_len 0 (n + 1)))
    ∙ sum_by-map-range_with_len_more (λ x. x) f 0 n n (omega arith)
    ∙ ap (λ (s : ℕ). s + f n) (sum-map f (range_with_len 0 n))

-- x at each of the first m, where the test holds, and y at each of the t after them
pub sum_by-two_values : (p : ℕ → Bool) (m t x y : ℕ) → ((r : ℕ) → r < m → p r ≡ true) → ((r : ℕ) → m ≤ r → p r ≡ false)
    → sum_by (λ r. cond (p r) x y) (range_with_len 0 (m + t)) ≡ m * x + t * y
sum_by-two_values p m t x y before after = second t
  where
    f : ℕ → ℕ
    f r = cond (p r) x y

    first : (n : ℕ) → n ≤ m → sum_by (λ r. cond (p r) x y) (range_with_len 0 n) ≡ n * x
    first zero le = let z : 0 ≡ 0 * x = omega arith in z
    first (suc n) le =
        let next : suc n ≡ n + 1 = omega arith in
        let here : cond (p n) x y ≡ x = ap (λ (b : Bool). cond b x y) (before n (omega (arith, le))) in
        let more : sum_by (λ r. cond (p r) x y) (range_with_len 0 (n + 1)) ≡ sum_by (λ r. cond (p r) x y) (range_with_len 0 n) + cond (p n) x y = sum_by-range_more (λ r. cond (p r) x y) n in
        let so_far = first n (omega (arith, le)) in
        ap (λ (k : ℕ). sum_by (λ r. cond (p r) x y) (range_with_len 0 k)) next ∙ omega (arith, here, more, so_far)

    second : (t : ℕ) → sum_by (λ r. cond (p r) x y) (range_with_len 0 (m + t)) ≡ m * x + t * y
    second zero = ap (λ (k : ℕ). sum_by (λ r. cond (p r) x y) (range_with_len 0 k)) (let e : m + 0 ≡ m = omega arith in e) ∙ first m (omega arith) ∙ (let e : m * x ≡ m * x + 0 * y = omega arith in e)
    second (suc t) =
        let next : m + suc t ≡ m + t + 1 = omega arith in
        let here : cond (p (m + t)) x y ≡ y = ap (λ (b : Bool). cond b x y) (after (m + t) (omega arith)) in
        let more : sum_by (λ r. cond (p r) x y) (range_with_len 0 (m + t + 1)) ≡ sum_by (λ r. cond (p r) x y) (range_with_len 0 (m + t))
        + cond (p (m + t)) x y = sum_by-range_more (λ r. cond (p r) x y) (m + t) in
        let so_far = second t in
        ap (λ (k : ℕ). sum_by (λ r. cond (p r) x y) (range_with_len 0 k)) next ∙ omega (arith, here, more, so_far)

-- terms that agree have one sum
pub same_sums : (f g : ℕ → ℕ) → ((r : ℕ) → f r ≡ g r) → (xs : List ℕ) → sum_by f xs ≡ sum_by g xs
same_sums f g same xs = from 0 xs
  where
    from : (a : ℕ) (xs : List ℕ) → fold (λ s x. s + f x) a xs ≡ fold (λ s x. s + g x) a xs
    from a [] = refl
    from a (x ∷ xs) = ap (λ (b : ℕ). fold (λ s x. s + f x) b xs) (ap (λ (y : ℕ). a + y) (same x)) ∙ from (a + g x) xs
