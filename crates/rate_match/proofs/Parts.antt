-- Parts of a list that are written.
use Rattle.std.proofs.Common.{◌≡◌, ℕ, zero, suc, ◌+◌, ◌-◌, ◌<◌, ◌≤◌, List, ◌∷◌, ◌++◌, length, map, take, drop, refl, sym, ap, ◌∙◌, arith}
use Rattle.std.specs.List.{range_with_len}
use Rattle.std.proofs.lemmas.Simd.{map-map}
use Rattle.std.proofs.lemmas.List.{length-drop, length-take-le}
use Rattle.std.proofs.Math.Seq.{take-append-add, take-append_seam}
use borrow.Rule.Slice.PartMut.{put_mid, post_of}

pub part-long : {X : Type 0} (done run : ℕ) (out : List X) → done + run ≤ length out → length (take (done + run - done) (drop done out)) ≡ run
part-long done run out fits =
    length-take-le (done + run - done) (drop done out) (omega (arith, length-drop done out, fits)) ∙ omega arith

-- the part after those that are done is written
pub part_written : {X : Type 0} (done run n : ℕ) (out new : List X) → done + run ≤ length out → length new ≡ run → take (done + run) (put_mid done n out new) ≡ take done out ++ new
part_written done run n out new fits long =
    let front = take done out in
    let after = post_of done n out in
    ap (λ m. take m (front ++ (new ++ after))) (let e : done + run ≡ length front + length new = omega (arith, length-take-le done out (omega (arith, fits)), long) in e)
    ∙ take-append-add front (new ++ after) (length new)
    ∙ ap (λ xs. front ++ xs) (take-append_seam new after)

-- what is made of each of so many numbers, in two ways
pub map-alike : {X : Type 0} (g : ℕ → X) (p : ℕ → ℕ) (f : ℕ → X) (n : ℕ) → ((i : ℕ) → i < n → g i ≡ f (p i)) → map g (range_with_len 0 n) ≡ map f (map p (range_with_len 0 n))
map-alike {X} g p f n alike = from 0 n (λ i h. at i alike h) ∙ sym (map-map f p (range_with_len 0 n))
  where
    at : (i : ℕ) → ((i : ℕ) → i < n → g i ≡ f (p i)) → i < n → g (0 + i) ≡ f (p (0 + i))
    at i alike h = ap g (let e : 0 + i ≡ i = omega arith in e) ∙ alike i h ∙ ap (λ j. f (p j)) (let e : i ≡ 0 + i = omega arith in e)

    from : (a m : ℕ) → ((i : ℕ) → i < m → g (a + i) ≡ f (p (a + i))) → map g (range_with_len a m) ≡ map (λ i. f (p i)) (range_with_len a m)
    from a zero alike = refl
    from a (suc m) alike =
        ap (λ (x : X). x ∷ map g (range_with_len (a + 1) m)) (ap g (let e : a ≡ a + 0 = omega arith in e) ∙ alike 0 (omega arith) ∙ ap (λ j. f (p j)) (let e : a + 0 ≡ a = omega arith in e))
        ∙ ap (λ (xs : List X). f (p a) ∷ xs) (from (a + 1) m
        (λ i h. ap g (let e : a + 1 + i ≡ a + suc i = omega arith in e) ∙ alike (suc i) (omega (arith, h)) ∙ ap (λ j. f (p j)) (let e : a + suc i ≡ a + 1 + i = omega arith in e)))
