-- Some bit of a buffer that keeps v0 is sent, and the pieces add up.
use Rattle.std.proofs.Common.{None, Some, Option, ◌≡◌, ℕ, zero, suc, ◌+◌, ◌-◌, ◌*◌, ◌/◌, ◌%◌, ◌<◌, ◌≤◌, Bool, true, false, List, [], ◌∷◌, length, filter, get_or, slice_index_or, cond, ap, ◌∙◌, arith}
use Rattle.std.proofs.lemmas.Grind.{common_steps}
use Rattle.std.proofs.lemmas.Bool.{lt-ltb, le-ltb}
use Rattle.std.proofs.lemmas.List.FromFn.{get_or-map-range_with_len, length-map-range_with_len}
use Rattle.std.proofs.lemmas.Nat.{div-mul-add, mod-mul-add, mod_below}
use Rattle.std.proofs.Math.Nat.{add-mod-mod, add-mod_right, mod-eq_of_lt, div-add-mod, add-mul-mod_self_left}
use Rattle.model_sender.specs.CircularBuffer.{column_order, rows_of, padding, Stream, padded, read_place, spot, Match, Fits, FitsIn, buffer_length}
use Rattle.std.specs.Prelude.{is_some}
use Rattle.model_sender.specs.Segmentation.{Plan, size, fill}
use Rattle.model_sender.specs.Selection.{holds_bit, rotation, bits_from}

-- ---- the last place of v0

-- the last place by columns is the last by rows
last_read : (r : ℕ) → 0 < r → read_place r (32 * r - 1) ≡ 32 * r - 1
last_read zero some = absurd (omega (arith, some))
last_read (suc q) some =
    let split : 32 * suc q - 1 ≡ 31 * suc q + q = omega arith in
    let below : q < suc q = omega arith in
    let quotient : (32 * suc q - 1) / suc q ≡ 31 = ap (λ (n : ℕ). n / suc q) split ∙ div-mul-add 31 (suc q) q below in
    let rest : (32 * suc q - 1) % suc q ≡ q = ap (λ (n : ℕ). n % suc q) split ∙ mod-mul-add 31 (suc q) q below in
    let column : slice_index_or column_order ((32 * suc q - 1) / suc q) 0 ≡ 31 = ap (λ (n : ℕ). slice_index_or column_order n 0) quotient in
    omega (arith, column, rest, split)

pub rows-bounds : (k : ℕ) → (0 < rows_of k) × (k + 4 ≤ 32 * rows_of k)
rows-bounds k =
    let divided : 32 * ((k + 4) / 32) + (k + 4) % 32 ≡ k + 4 = div-add-mod (k + 4) 32 in
    (omega (arith, divided), omega (arith, divided))

-- the last place of v0 holds the last bit of d0
last_of_first : (k fill : ℕ) → fill ≤ k → holds_bit k fill (32 * rows_of k - 1) ≡ true
last_of_first k fill fills =
    let r : ℕ = rows_of k in
    let bounds = rows-bounds k in
    let inside : 32 * r - 1 < 32 * r = omega (arith, bounds.0) in
    let d0 : Stream = record { k = k; number = 0; nulls = fill } in
    let first : spot k fill (32 * r - 1) ≡ padded d0 (read_place r (32 * r - 1)) = grind (arith, common_steps, lt-ltb (32 * r - 1) (32 * r) inside) in
    let above : padding k + fill ≤ 32 * r - 1 = omega (arith, fills, bounds.1) in
    let last : is_some (padded d0 (32 * r - 1)) ≡ true = grind (arith, common_steps, le-ltb (32 * r - 1) (padding k + fill) above) in
    ap is_some (first ∙ ap (padded d0) (last_read r bounds.0)) ∙ last

-- ---- a place that is kept

some_pass : {X : Type 0} (p : X → Bool) (xs : List X) (i : ℕ) (d : X) → i < length xs → p (get_or xs i d) ≡ true → 0 < length (filter p xs)
some_pass p [] i d within pass = absurd (omega (arith, within))
some_pass p (x ∷ xs) zero d within pass = grind (arith, common_steps, pass)
some_pass p (x ∷ xs) (suc i) d within pass =
    let later : 0 < length (filter p xs) = some_pass p xs i d (omega (arith, within)) pass in
    more (p x) later
  where
    more : (b : Bool) → 0 < length (filter p xs) → 0 < length (cond b (x ∷ filter p xs) (filter p xs))
    more true later = omega arith
    more false later = later

-- each place below n is met by a rotation
met : (k n p : ℕ) → p < n → (i : ℕ) × (i < n) × ((k + i) % n ≡ p)
met k n p within =
    let some : 0 < n = omega (arith, within) in
    let small : k % n < n = mod_below k n some in
    let whole : n * (k / n) + k % n ≡ k = div-add-mod k n in
    let i : ℕ = (p + (n - k % n)) % n in
    let sum : k + (p + (n - k % n)) ≡ p + n + n * (k / n) = omega (arith, whole, small) in (
      i,
      mod_below (p + (n - k % n)) n some,
      add-mod-mod k (p + (n - k % n)) n
          ∙ ap (λ (m : ℕ). m % n) sum
          ∙ multiple (p + n) n (k / n)
          ∙ add-mod_right p n
          ∙ mod-eq_of_lt within,
    )
  where
    multiple : (a n q : ℕ) → (a + n * q) % n ≡ a % n
    multiple a n q = add-mul-mod_self_left a n q

kept_where_bit : (holds : ℕ → Bool) (k n p : ℕ) → p < n → holds p ≡ true → 0 < length (bits_from holds k n)
kept_where_bit holds k n p within bit =
    let found = met k n p within in
    let at : get_or (rotation k n) found.0 0 ≡ p = get_or-map-range_with_len (λ i. (k + i) % n) 0 n found.0 found.0 0 found.1 (omega arith) ∙ found.2 in
    some_pass holds (rotation k n) found.0 0 (omega (arith, found.1, length-map-range_with_len (λ i. (k + i) % n) 0 n)) (ap holds at ∙ bit)

-- a buffer that keeps all of v0 sends some bit
pub some_bit : (k fill n start : ℕ) → fill ≤ k → 32 * rows_of k ≤ n → 0 < length (bits_from (holds_bit k fill) start n)
some_bit k fill n start fills keeps =
    kept_where_bit (holds_bit k fill) start n (32 * rows_of k - 1) (omega (arith, (rows-bounds k).0, keeps)) (last_of_first k fill fills)

-- ---- under `Fits`

rows-grow : (k m : ℕ) → k ≤ m → rows_of k ≤ rows_of m
rows-grow k m below =
    let a : 32 * ((k + 4) / 32) + (k + 4) % 32 ≡ k + 4 = div-add-mod (k + 4) 32 in
    let b : 32 * ((m + 4) / 32) + (m + 4) % 32 ≡ m + 4 = div-add-mod (m + 4) 32 in
    omega (arith, a, b, below, mod_below (k + 4) 32 (omega arith), mod_below (m + 4) 32 (omega arith))

-- a buffer that fits the largest block keeps all of v0 of each
fit_keeps : (limit : Option ℕ) (c k m : ℕ) → k ≤ m → FitsIn limit c m → 32 * rows_of k ≤ buffer_length limit c k
fit_keeps None c k m below fits = omega arith
fit_keeps (Some limit) c k m below fits = omega (arith, rows-grow k m below, fits)

pub fitting_bit : (plan : Plan) (m : Match) (r start : ℕ) → fill plan r ≤ size plan r → size plan r ≤ plan.k_plus → Fits m plan →
    0 < length (bits_from (holds_bit (size plan r) (fill plan r)) start (buffer_length m.limit plan.c (size plan r)))
fitting_bit plan m r start fills below fits =
    some_bit (size plan r) (fill plan r) (buffer_length m.limit plan.c (size plan r)) start fills (fit_keeps m.limit plan.c (size plan r) plan.k_plus below fits)
