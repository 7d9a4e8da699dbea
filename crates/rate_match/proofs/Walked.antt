-- What a walk round a circle of places finds: those that are kept, over and over.
use Rattle.std.proofs.Common.{◌≡◌, ℕ, zero, suc, ◌+◌, ◌-◌, ◌*◌, ◌%◌, ◌<◌, ◌≤◌, Bool, List, ◌∷◌, ◌++◌, length, map, get_or, cond, true, false, [], refl, sym, ap, ◌∙◌, inl, inr, arith, filter}
use Rattle.std.specs.List.{range_with_len}
use Rattle.std.proofs.lemmas.Bool.{cases_lt}
use Rattle.std.proofs.lemmas.List.{map-append, length-append, get_or_append_left, get_or-append_right, append-nil}
use Rattle.std.proofs.lemmas.List.Elements.{filter-append}
use Rattle.std.proofs.lemmas.List.FromFn.{filter_of_map_range_with_len_more, fill_by_all, length-map-range_with_len}
use Rattle.std.proofs.Math.Nat.{add-mod_left, add-mod_right, add-mod-mod, mod-eq_of_lt, mul-le-mul_left}
use Rattle.model_sender.specs.Selection.{repeated}

-- what s steps from k on find
abbrev pub walked : (ℕ → Bool) → ℕ → ℕ → ℕ → List ℕ
walked keep k n s = filter keep (map (λ i. (k + i) % n) (range_with_len 0 s))

pub range-split : (a m s : ℕ) → range_with_len a (m + s) ≡ range_with_len a m ++ range_with_len (a + m) s
range-split a zero s = ap (λ n. range_with_len a n) (let e : 0 + s ≡ s = omega arith in e) ∙ ap (λ b. range_with_len b s) (let e : a ≡ a + 0 = omega arith in e)
range-split a (suc m) s =
    ap (λ n. range_with_len a n) (let e : suc m + s ≡ suc (m + s) = omega arith in e)
    ∙ ap (λ xs. a ∷ xs) (range-split (a + 1) m s ∙ ap (λ b. range_with_len (a + 1) m ++ range_with_len b s) (let e : a + 1 + m ≡ a + suc m = omega arith in e))

-- the same places, counted from elsewhere
moved : (k q n a b s : ℕ) → ((i : ℕ) → (k + (a + i)) % n ≡ (q + (b + i)) % n) → map (λ i. (k + i) % n) (range_with_len a s) ≡ map (λ i. (q + i) % n) (range_with_len b s)
moved k q n a b zero at = refl
moved k q n a b (suc s) at =
    let first : (k + a) % n ≡ (q + b) % n = ap (λ m. (k + m) % n) (let e : a ≡ a + 0 = omega arith in e) ∙ at 0 ∙ ap (λ m. (q + m) % n) (let e : b + 0 ≡ b = omega arith in e) in
    ap (λ x. x ∷ map (λ i. (k + i) % n) (range_with_len (a + 1) s)) first
    ∙ ap (λ xs. (q + b) % n ∷ xs) (moved k q n (a + 1) (b + 1) s
    (λ i. ap (λ m. (k + m) % n) (let e : a + 1 + i ≡ a + suc i = omega arith in e) ∙ at (suc i) ∙ ap (λ m. (q + m) % n) (let e : b + suc i ≡ b + 1 + i = omega arith in e)))

-- a place that is reduced
reduced : (k n i : ℕ) → (k % n + i) % n ≡ (k + i) % n
reduced k n i =
    ap (λ m. m % n) (let e : k % n + i ≡ i + k % n = omega arith in e) ∙ add-mod-mod i k n ∙ ap (λ m. m % n) (let e : i + k ≡ k + i = omega arith in e)

-- a round further the places are the same
shifted : (k n a s : ℕ) → map (λ i. (k + i) % n) (range_with_len (a + n) s) ≡ map (λ i. (k + i) % n) (range_with_len a s)
shifted k n a s = moved k k n (a + n) a s (λ i. ap (λ m. m % n) (let e : k + (a + n + i) ≡ k + (a + i) + n = omega arith in e) ∙ add-mod_right (k + (a + i)) n)

-- steps after steps
walked-split : (keep : ℕ → Bool) (k n m s : ℕ) → walked keep k n (m + s) ≡ walked keep k n m ++ filter keep (map (λ i. (k + i) % n) (range_with_len (0 + m) s))
walked-split keep k n m s =
    ap (λ xs. filter keep (map (λ i. (k + i) % n) xs)) (range-split 0 m s)
    ∙ (ap (filter keep) (map-append (λ i. (k + i) % n) (range_with_len 0 m) (range_with_len (0 + m) s))
    ∙ filter-append keep (map (λ i. (k + i) % n) (range_with_len 0 m)) (map (λ i. (k + i) % n) (range_with_len (0 + m) s)))

-- a first round, and then the rest
round : (keep : ℕ → Bool) (k n s : ℕ) → walked keep k n (n + s) ≡ walked keep k n n ++ walked keep k n s
round keep k n s = walked-split keep k n n s ∙ ap (λ xs. walked keep k n n ++ filter keep xs) (shifted k n 0 s)

rounds-long : (keep : ℕ → Bool) (k n q : ℕ) → length (walked keep k n (q * n)) ≡ q * length (walked keep k n n)
rounds-long keep k n zero = ap (λ m. length (walked keep k n m)) (let e : 0 * n ≡ 0 = omega arith in e) ∙ (let f : 0 ≡ 0 * length (walked keep k n n) = omega arith in f)
rounds-long keep k n (suc q) =
    let e : suc q * n ≡ n + q * n = omega arith in
    let a : length (walked keep k n (suc q * n)) ≡ length (walked keep k n n ++ walked keep k n (q * n)) = ap length (ap (walked keep k n) e ∙ round keep k n (q * n)) in
    omega (arith, a, length-append (walked keep k n n) (walked keep k n (q * n)), rounds-long keep k n q)

walked-cyclic : (keep : ℕ → Bool) (k n q s i : ℕ) → s ≤ q * n → i < length (walked keep k n s) → get_or (walked keep k n s) i 0 ≡ get_or (walked keep k n n) (i % length (walked keep k n n)) 0
walked-cyclic keep k n zero s i le lt =
    let e : s ≡ 0 = omega (arith, le) in
    absurd (let h : length (walked keep k n s) ≡ 0 = ap (λ m. length (walked keep k n m)) e in omega (arith, h, lt))
walked-cyclic keep k n (suc q) s i le lt =
    let v : List ℕ = walked keep k n n in
    elim (cases_lt n s) [
      | inl more ↦
          let t : ℕ = s - n in
          let e : walked keep k n s ≡ v ++ walked keep k n t = ap (walked keep k n) (let f : s ≡ n + t = omega (arith, more) in f) ∙ round keep k n t in
          let r : ℕ = length v in
          let l : length (v ++ walked keep k n t) ≡ r + length (walked keep k n t) = length-append v (walked keep k n t) in
          let le' : t ≤ q * n = omega (arith, le, more) in
          ap (λ xs. get_or xs i 0) e ∙ elim (cases_lt i r) [
            | inl small ↦ get_or_append_left v (walked keep k n t) 0 i small ∙ ap (λ j. get_or v j 0) (sym (mod-eq_of_lt small))
            | inr large ↦
                let lt' : i - r < length (walked keep k n t) = omega (arith, large, lt, l, ap length e) in
                let m : (i - r) % r ≡ i % r = sym (ap (λ j. j % r) (let f : i ≡ r + (i - r) = omega (arith, large) in f) ∙ add-mod_left r (i - r)) in
                get_or-append_right v (walked keep k n t) r i 0 refl large ∙ (walked-cyclic keep k n q t (i - r) le' lt' ∙ ap (λ j. get_or v j 0) m)
          ]
      | inr few ↦
          let u : ℕ = n - s in
          let rest : List ℕ = filter keep (map (λ j. (k + j) % n) (range_with_len (0 + s) u)) in
          let e : v ≡ walked keep k n s ++ rest = ap (walked keep k n) (let f : n ≡ s + u = omega (arith, few) in f) ∙ walked-split keep k n s u in
          let w : List ℕ = walked keep k n s in
          let in_v : i < length v = omega (arith, lt, ap length e, length-append w rest) in
          sym (ap (λ j. get_or v j 0) (mod-eq_of_lt in_v) ∙ (ap (λ xs. get_or xs i 0) e ∙ get_or_append_left w rest 0 i lt))
    ]

-- as many as were wanted are the places of one round, over and over
walked-again : (keep : ℕ → Bool) (k n q e s : ℕ) → s ≤ q * n → length (walked keep k n s) ≡ e → walked keep k n s ≡ repeated (walked keep k n n) e
walked-again keep k n q e s le long =
    let v : List ℕ = walked keep k n n in
    fill_by_all (λ i. get_or v (i % length v) 0) (walked keep k n s) e 0 long (λ i lt. walked-cyclic keep k n q s i le (omega (arith, lt, long)))

-- one more step
stepped : (keep : ℕ → Bool) (k n s p : ℕ) → p ≡ (k + s) % n → walked keep k n (s + 1) ≡ walked keep k n s ++ cond (keep p) (p ∷ []) []
stepped keep k n s p e = filter_of_map_range_with_len_more keep (λ i. (k + i) % n) 0 s s (let z : 0 + s ≡ s = omega arith in z) ∙ ap (λ q. walked keep k n s ++ cond (keep q) (q ∷ []) []) (sym e)

pub step_left : (keep : ℕ → Bool) (k n s p : ℕ) → p ≡ (k + s) % n → keep p ≡ false → walked keep k n (s + 1) ≡ walked keep k n s
step_left keep k n s p e t = stepped keep k n s p e ∙ (ap (λ b. walked keep k n s ++ cond b (p ∷ []) []) t ∙ append-nil (walked keep k n s))

-- the place of the next step
pub next_place : (k s n p : ℕ) → p ≡ (k + s) % n → (p + 1) % n ≡ (k + (s + 1)) % n
next_place k s n p is =
    ap (λ (q : ℕ). (q + 1) % n) is
    ∙ (ap (λ (m : ℕ). m % n) (let e : (k + s) % n + 1 ≡ 1 + (k + s) % n = omega arith in e)
    ∙ (add-mod-mod 1 (k + s) n ∙ ap (λ (m : ℕ). m % n) (let e : 1 + (k + s) ≡ k + (s + 1) = omega arith in e)))

-- ---- a run of places that are all kept

run-found : (keep : ℕ → Bool) (k n p a b m : ℕ) → ((i : ℕ) → i < m → (k + (a + i)) % n ≡ p + (b + i)) → ((i : ℕ) → i < m → keep (p + (b + i)) ≡ true)
    → filter keep (map (λ i. (k + i) % n) (range_with_len a m)) ≡ map (λ i. p + i) (range_with_len b m)
run-found keep k n p a b zero at kept = refl
run-found keep k n p a b (suc m) at kept =
    let rest : List ℕ = map (λ i. (k + i) % n) (range_with_len (a + 1) m) in
    let first : (k + a) % n ≡ p + b = ap (λ q. (k + q) % n) (let e : a ≡ a + 0 = omega arith in e) ∙ at 0 (omega arith) ∙ (let e : p + (b + 0) ≡ p + b = omega arith in e) in
    let is : keep (p + b) ≡ true = ap keep (let e : p + b ≡ p + (b + 0) = omega arith in e) ∙ kept 0 (omega arith) in
    ap (λ q. filter keep (q ∷ rest)) first
    ∙ ap (λ t. cond t ((p + b) ∷ filter keep rest) (filter keep rest)) is
    ∙ ap (λ xs. (p + b) ∷ xs) (run-found keep k n p (a + 1) (b + 1) m
    (λ i h. ap (λ q. (k + q) % n) (let e : a + 1 + i ≡ a + suc i = omega arith in e) ∙ at (suc i) (omega (arith, h)) ∙ (let e : p + (b + suc i) ≡ p + (b + 1 + i) = omega arith in e))
    (λ i h. ap keep (let e : p + (b + 1 + i) ≡ p + (b + suc i) = omega arith in e) ∙ kept (suc i) (omega (arith, h))))

run_kept : (keep : ℕ → Bool) (k n s p m : ℕ) → p ≡ (k + s) % n → p + m ≤ n → ((i : ℕ) → i < m → keep (p + i) ≡ true)
    → walked keep k n (s + m) ≡ walked keep k n s ++ map (λ i. p + i) (range_with_len 0 m)
run_kept keep k n s p m is within kept =
    let at : (i : ℕ) → i < m → (k + (0 + s + i)) % n ≡ p + (0 + i) = λ i h. (
    ap (λ q. q % n) (let e : k + (0 + s + i) ≡ i + (k + s) = omega arith in e)
    ∙ sym (add-mod-mod i (k + s) n)
    ∙ ap (λ q. (i + q) % n) (sym is)
    ∙ mod-eq_of_lt (let below : i + p < n = omega (arith, h, within) in below)
    ∙ (let e : i + p ≡ p + (0 + i) = omega arith in e)) in
    walked-split keep k n s m
    ∙ ap (λ xs. walked keep k n s ++ xs) (run-found keep k n p (0 + s) 0 m at (λ i h. ap keep (let e : p + (0 + i) ≡ p + i = omega arith in e) ∙ kept i h))

-- the place after a run that ends at q
pub place_after : (k s n p q m : ℕ) → p ≡ (k + s) % n → 0 < m → q ≡ p + (m - 1) → (q + 1) % n ≡ (k + (s + m)) % n
place_after k s n p q m is some end =
    ap (λ (m : ℕ). m % n) (let e : q + 1 ≡ m + p = omega (arith, end, some) in e)
    ∙ ap (λ (q : ℕ). (m + q) % n) is
    ∙ add-mod-mod m (k + s) n
    ∙ ap (λ (m : ℕ). m % n) (let e : m + (k + s) ≡ k + (s + m) = omega arith in e)

-- ---- from place to place

-- it does not matter how often a walk has gone round before it begins
pub walked-reduced : (keep : ℕ → Bool) (k n s : ℕ) → walked keep (k % n) n s ≡ walked keep k n s
walked-reduced keep k n s = ap (filter keep) (moved (k % n) k n 0 0 s (λ i. reduced k n (0 + i)))

-- the steps after some are those from the place that they come to
walked-after : (keep : ℕ → Bool) (k n m q s : ℕ) → q ≡ (k + m) % n → walked keep k n (m + s) ≡ walked keep k n m ++ walked keep q n s
walked-after keep k n m q s is =
    walked-split keep k n m s
    ∙ ap (λ xs. walked keep k n m ++ filter keep xs)
    (moved k q n (0 + m) 0 s (λ i. ap (λ p. p % n) (let e : k + (0 + m + i) ≡ k + m + (0 + i) = omega arith in e) ∙ sym (reduced (k + m) n (0 + i)) ∙ ap (λ p. (p + (0 + i)) % n) (sym is)))

one-more : (keep : ℕ → Bool) (k n s : ℕ) → length (walked keep k n (s + 1)) ≤ length (walked keep k n s) + 1
one-more keep k n s =
    let p : ℕ = (k + s) % n in
    let few : (b : Bool) → length (walked keep k n s ++ cond b (p ∷ []) []) ≤ length (walked keep k n s) + 1 =
    λ b. elim b as (λ b. length (walked keep k n s ++ cond b (p ∷ []) []) ≤ length (walked keep k n s) + 1) [
      | true ↦ omega (arith, length-append (walked keep k n s) (p ∷ []))
      | false ↦ omega (arith, length-append (walked keep k n s) [])
    ] in
    omega (arith, ap length (stepped keep k n s p refl), few (keep p))

-- some number of steps finds just so many
steps_for : (keep : ℕ → Bool) (k n e s : ℕ) → e ≤ length (walked keep k n s) → (t : ℕ) × (length (walked keep k n t) ≡ e)
steps_for keep k n e zero enough = (0, omega (arith, enough))
steps_for keep k n e (suc s) enough =
    elim (cases_lt (length (walked keep k n s)) e) [
      | inl fewer ↦ (
        s + 1,
        (let same : length (walked keep k n (suc s)) ≡ length (walked keep k n (s + 1)) = ap (λ m. length (walked keep k n m)) (let e : suc s ≡ s + 1 = omega arith in e) in
            omega (arith, enough, fewer, same, one-more keep k n s)),
      )
      | inr more ↦ steps_for keep k n e s more
    ]

-- as many places as are wanted, in a round and round of those that are kept
found : (keep : ℕ → Bool) (k n s e : ℕ) → 0 < n → length (walked keep k n s) ≡ e → walked keep k n s ≡ repeated (walked keep k n n) e
found keep k n s e some long = walked-again keep k n s e s (let within : s * 1 ≤ s * n = mul-le-mul_left s some in omega (arith, within)) long

-- Steps that find nothing come to a run of places that are all kept: first come those, and then what comes from
-- the place after the run on.
pub run-next : (keep : ℕ → Bool) (k n s p m q e : ℕ) → 0 < n → walked keep k n s ≡ [] → p ≡ (k + s) % n → p + m ≤ n → ((i : ℕ) → i < m → keep (p + i) ≡ true)
    → q ≡ (k + (s + m)) % n → 0 < length (walked keep q n n) → repeated (walked keep k n n) (m + e) ≡ map (λ i. p + i) (range_with_len 0 m) ++ repeated (walked keep q n n) e
run-next keep k n s p m q e some none is within kept next bit =
    let places : List ℕ = map (λ i. p + i) (range_with_len 0 m) in
    let enough : e * 1 ≤ e * length (walked keep q n n) = mul-le-mul_left e bit in
    let steps = steps_for keep q n e (e * n) (omega (arith, enough, rounds-long keep q n e)) in
    let run : walked keep k n (s + m) ≡ places = run_kept keep k n s p m is within kept ∙ ap (λ xs. xs ++ places) none in
    let all : walked keep k n (s + m + steps.0) ≡ places ++ walked keep q n steps.0 = walked-after keep k n (s + m) q steps.0 next ∙ ap (λ xs. xs ++ walked keep q n steps.0) run in
    let long : length (walked keep k n (s + m + steps.0)) ≡ m + e =
    omega (arith, ap length all, length-append places (walked keep q n steps.0), length-map-range_with_len (λ i. p + i) 0 m, steps.1) in
    sym (found keep k n (s + m + steps.0) (m + e) some long) ∙ all ∙ ap (λ xs. places ++ xs) (found keep q n steps.0 e some steps.1)
