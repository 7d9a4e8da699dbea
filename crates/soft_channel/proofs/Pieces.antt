-- A list of a function of the index, chunk after chunk.
use Rattle.std.proofs.Common.{◌≡◌, ℕ, zero, suc, ◌+◌, ◌*◌, ◌<◌, ◌≤◌, List, [], ◌∷◌, ◌++◌, length, map, take, drop, get_or, append_assoc, sym, ap, ◌∙◌, arith}
use Rattle.std.specs.List.{range_with_len}
use Rattle.std.specs.Simd.{first_chunks}
use Rattle.std.proofs.lemmas.List.{append-nil, ext_get_or, get_or-map, get_or-take, get_or-drop, length-drop, length-map, length-take-le}
use Rattle.lte_bits.proofs.Chunks.{chunk-at}
use Rattle.std.proofs.lemmas.Simd.{map-map}
use Rattle.std.proofs.lemmas.List.FromFn.{fill_by_all, map-range_with_len_more}

joined : {X : Type 0} (f g : ℕ → X) (a n : ℕ) → ((k : ℕ) → k < n → g k ≡ f (a + k)) → map f (range_with_len 0 a) ++ map g (range_with_len 0 n) ≡ map f (range_with_len 0 (a + n))
joined f g a zero h = append-nil _ ∙ ap (λ m. map f (range_with_len 0 m)) (let e : a ≡ a + 0 = omega arith in e)
joined {X} f g a (suc n) h =
    ap (λ m. map f (range_with_len 0 a) ++ map g (range_with_len 0 m)) (let e : suc n ≡ n + 1 = omega arith in e)
    ∙ ap (λ ys. map f (range_with_len 0 a) ++ ys) (map-range_with_len_more g 0 n n (omega arith))
    ∙ sym (append_assoc (map f (range_with_len 0 a)) (map g (range_with_len 0 n)) (g n ∷ []))
    ∙ ap (λ (ys : List X). ys ++ g n ∷ []) (joined f g a n (λ k b. h k (omega (arith, b))))
    ∙ ap (λ (x : X). map f (range_with_len 0 (a + n)) ++ x ∷ []) (h n (omega arith))
    ∙ sym (map-range_with_len_more f 0 (a + n) (a + n) (omega arith))
    ∙ ap (λ m. map f (range_with_len 0 m)) (let e : a + n + 1 ≡ a + suc n = omega arith in e)

-- a chunk more
pub chunk_more : {X : Type 0} (f g : ℕ → X) (old new : List X) (a n b : ℕ) → old ≡ map f (range_with_len 0 a)
    → new ≡ old ++ map g (range_with_len 0 n) → a + n ≡ b → ((k : ℕ) → k < n → g k ≡ f (a + k)) → new ≡ map f (range_with_len 0 b)
chunk_more {X} f g old new a n b is push sum same =
    push ∙ ap (λ (xs : List X). xs ++ map g (range_with_len 0 n)) is
    ∙ joined f g a n same
    ∙ ap (λ m. map f (range_with_len 0 m)) sum

-- a function of each value of a chunk
pub chunk_mapped : {X Y : Type 0} (f : X → Y) (g : ℕ → X) (n : ℕ) (xs : List X) (ys : List Y) → xs ≡ map g (range_with_len 0 n) → ys ≡ map f xs → ys ≡ map (λ k. f (g k)) (range_with_len 0 n)
chunk_mapped f g n xs ys are maps = maps ∙ ap (map f) are ∙ map-map f g (range_with_len 0 n)

-- the i-th of k chunks of n values each
chunk_is : {X : Type 0} (n k i : ℕ) (xs : List X) (chunks : List (List X)) → chunks ≡ first_chunks n k xs → i < k → get_or chunks i [] ≡ take n (drop (i * n) xs)
chunk_is {X} n k i xs chunks are below = ap (λ (cs : List (List X)). get_or cs i []) are ∙ chunk-at n k i xs [] below

pub length-chunk : {X : Type 0} (n k i : ℕ) (xs : List X) (chunks : List (List X)) → chunks ≡ first_chunks n k xs → i < k → i * n + n ≤ length xs → length (get_or chunks i []) ≡ n
length-chunk {X} n k i xs chunks are below inside =
    ap (λ (ys : List X). length ys) (chunk_is n k i xs chunks are below)
    ∙ length-take-le n (drop (i * n) xs) (omega (arith, length-drop (i * n) xs, inside))

pub chunk_value : {X : Type 0} (n k i j : ℕ) (xs : List X) (chunks : List (List X)) (d : X) → chunks ≡ first_chunks n k xs → i < k → j < n → get_or (get_or chunks i []) j d ≡ get_or xs (n * i + j) d
chunk_value {X} n k i j xs chunks d are below inside =
    ap (λ (ys : List X). get_or ys j d) (chunk_is n k i xs chunks are below)
    ∙ get_or-take n (drop (i * n) xs) j d inside
    ∙ get_or-drop (i * n) xs j d
    ∙ ap (λ m. get_or xs m d) (let e : i * n + j ≡ n * i + j = omega arith in e)

-- a function of each value, written place by place
pub mapped : {X Y : Type 0} (f : X → Y) (xs : List X) (ys : List Y) (n : ℕ) (d : X) (e : Y) → length xs ≡ n → length ys ≡ n → ((k : ℕ) → k < n → get_or ys k e ≡ f (get_or xs k d)) → ys ≡ map f xs
mapped {X} {Y} f xs ys n d e long same is =
    ext_get_or e ys (map f xs) (same ∙ sym (length-map {B = Y} xs f ∙ long))
    (λ k h. is k (omega (arith, h, same)) ∙ sym (get_or-map f xs k d e (omega (arith, h, same, long))))

-- the front of a list whose places are written one by one
pub front_filled : {X : Type 0} (f : ℕ → X) (xs : List X) (n : ℕ) (d : X) → n ≤ length xs → ((k : ℕ) → k < n → get_or xs k d ≡ f k) → take n xs ≡ map f (range_with_len 0 n)
front_filled f xs n d inside is =
    fill_by_all f (take n xs) n d (length-take-le n xs inside) (λ k h. get_or-take n xs k d h ∙ is k h)
