-- Lists that stand in one list, one after the other.
use Rattle.std.proofs.Common.{◌≡◌, ℕ, zero, suc, ◌+◌, ◌-◌, ◌*◌, ◌<◌, ◌≤◌, List, [], ◌++◌, length, take, drop, map, flat_map, refl, sym, ap, ◌∙◌, append_assoc, inl, inr, arith}
use Rattle.std.specs.List.{range_with_len}
use Rattle.std.proofs.Math.Seq.{drop-append_seam, take-append_seam}
use Rattle.std.proofs.lemmas.Bool.{cases_lt}
use Rattle.std.proofs.lemmas.List.{drop-drop, length-append}
use Rattle.std.proofs.lemmas.List.FromFn.{fill_by_all, get_or-map-range_with_len, length-map-range_with_len}
use Rattle.model_sender.proofs.RangeSums.{sum_by-range_more}
use Rattle.rate_match.proofs.BlockStreams.{flat_map-more}
use Rattle.soft_buffers.specs.Parts.{before, part, parts}

pub before-more : (long : ℕ → ℕ) (r : ℕ) → before long (r + 1) ≡ before long r + long r
before-more long r = sum_by-range_more long r

before-rises : (long : ℕ → ℕ) (n a : ℕ) → before long a ≤ before long (a + n)
before-rises long zero a = omega (arith, ap (before long) (let e : a + 0 ≡ a = omega arith in e))
before-rises long (suc n) a = omega (arith, before-rises long n a, before-more long (a + n), ap (before long) (let e : a + suc n ≡ a + n + 1 = omega arith in e))

-- a part and those before it are no more than all
pub before-within : (long : ℕ → ℕ) (r count : ℕ) → r < count → before long r + long r ≤ before long count
before-within long r count below =
    omega (arith, before-more long r, before-rises long (count - (r + 1)) (r + 1), ap (before long) (let e : r + 1 + (count - (r + 1)) ≡ count = omega (arith, below) in e))

-- what is left after one part more
pub left-more : {X : Type 0} (long : ℕ → ℕ) (r n : ℕ) (all rest back : List X) → rest ≡ drop (before long r) all → n ≡ long r → back ≡ drop n rest
    → back ≡ drop (before long (r + 1)) all
left-more {X} long r n all rest back is own drops =
    drops ∙ ap (drop n) is ∙ drop-drop n (before long r) all
    ∙ ap (λ (m : ℕ). drop m all) (let sum : before long r + n ≡ before long (r + 1) = omega (arith, own, before-more long r) in sum)

-- and the part itself
pub front-is : {X : Type 0} (long : ℕ → ℕ) (r n : ℕ) (all rest front : List X) → rest ≡ drop (before long r) all → n ≡ long r → front ≡ take n rest
    → front ≡ part long all r
front-is {X} long r n all rest front is own takes = takes ∙ ap (take n) is ∙ ap (λ (m : ℕ). take m (drop (before long r) all)) own

-- ---- lists that are put one after the other

abbrev AreLong : {X : Type 0} → (ℕ → ℕ) → (ℕ → List X) → ℕ → Type 0
AreLong long g count = (r : ℕ) → r < count → length (g r) ≡ long r

pub flat-long : {X : Type 0} (long : ℕ → ℕ) (g : ℕ → List X) (count : ℕ) → AreLong long g count → length (flat_map g (range_with_len 0 count)) ≡ before long count
flat-long {X} long g zero are = refl
flat-long {X} long g (suc n) are =
    let next : suc n ≡ n + 1 = omega arith in
    ap (λ (m : ℕ). length (flat_map g (range_with_len 0 m))) next
    ∙ ap length (flat_map-more g n)
    ∙ omega (arith, length-append (flat_map g (range_with_len 0 n)) (g n), flat-long long g n (λ r below. are r (omega (arith, below))), are n (omega arith), before-more long n)
    ∙ ap (before long) (sym next)

-- each part is its list again, whatever comes after all
pub part-is : {X : Type 0} (long : ℕ → ℕ) (g : ℕ → List X) (count : ℕ) (tail : List X) → AreLong long g count → (r : ℕ) → r < count
    → part long (flat_map g (range_with_len 0 count) ++ tail) r ≡ g r
part-is {X} long g zero tail are r below = absurd (let no : ⊥ = omega (arith, below) in no)
part-is {X} long g (suc n) tail are r below =
    let next : suc n ≡ n + 1 = omega arith in
    let front : List X = flat_map g (range_with_len 0 n) in
    let fewer : AreLong long g n = λ q less. are q (omega (arith, less)) in
    let split : flat_map g (range_with_len 0 (suc n)) ++ tail ≡ front ++ (g n ++ tail) =
    ap (λ (m : ℕ). flat_map g (range_with_len 0 m) ++ tail) next ∙ ap (λ (xs : List X). xs ++ tail) (flat_map-more g n) ∙ append_assoc front (g n) tail in
    ap (λ (xs : List X). part long xs r) split
    ∙ elim (cases_lt r n) [
      | inl less ↦ part-is long g n (g n ++ tail) fewer r less
      | inr most ↦
          let same : r ≡ n = omega (arith, below, most) in
          let left : drop (before long n) (front ++ (g n ++ tail)) ≡ g n ++ tail =
          ap (λ (m : ℕ). drop m (front ++ (g n ++ tail))) (sym (flat-long long g n fewer)) ∙ drop-append_seam front (g n ++ tail) in
          ap (part long (front ++ (g n ++ tail))) same
          ∙ ap (take (long n)) left
          ∙ ap (λ (m : ℕ). take m (g n ++ tail)) (sym (are n (omega arith)))
          ∙ take-append_seam (g n) tail
          ∙ ap g (sym same)
    ]

pub parts-are : {X : Type 0} (long : ℕ → ℕ) (g : ℕ → List X) (count : ℕ) (tail : List X) → AreLong long g count
    → parts long count (flat_map g (range_with_len 0 count) ++ tail) ≡ map g (range_with_len 0 count)
parts-are {X} long g count tail are =
    let all : List X = flat_map g (range_with_len 0 count) ++ tail in
    fill_by_all g (parts long count all) count [] (length-map-range_with_len (part long all) 0 count)
    (λ r below. get_or-map-range_with_len (part long all) 0 count r r [] below (omega arith) ∙ part-is long g count tail are r below)
