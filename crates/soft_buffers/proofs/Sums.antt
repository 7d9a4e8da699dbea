-- Values beside places: a pair more adds to a cell exactly where its place passes the test.
use Rattle.std.proofs.Common.{◌≡◌, ℕ, ◌<◌, Bool, true, false, cond, ℤ, List, [], ◌∷◌, ◌++◌, length, map, filter, fold, get_or, refl, ap, ◌∙◌, arith}
use Rattle.std.specs.List.{zip}
use Rattle.std.proofs.lemmas.List.{map-append}
use Rattle.std.proofs.lemmas.List.Elements.{filter-append}
use Rattle.std.proofs.lemmas.List.Sums.{fold-append}
use Rattle.model_receiver.specs.SoftCells.{added, values_where}

abbrev value : ℕ × ℤ → ℤ
value p = p.1

abbrev pub sum_of : (ℕ → Bool) → List (ℕ × ℤ) → ℤ → ℤ
sum_of test pairs c = fold added c (values_where test pairs)

-- the sum over pairs after others
pub sum-append : (test : ℕ → Bool) (pairs more : List (ℕ × ℤ)) (c : ℤ) → sum_of test (pairs ++ more) c ≡ sum_of test more (sum_of test pairs c)
sum-append test pairs more c =
    ap (fold added c) (ap (map value) (filter-append (λ (p : ℕ × ℤ). test p.0) pairs more)
    ∙ map-append value (filter (λ (p : ℕ × ℤ). test p.0) pairs) (filter (λ (p : ℕ × ℤ). test p.0) more))
    ∙ fold-append added c (values_where test pairs) (values_where test more)

pub sum-hit : (test : ℕ → Bool) (pairs : List (ℕ × ℤ)) (c : ℤ) (n : ℕ) (v : ℤ) → test n ≡ true
    → sum_of test (pairs ++ (n, v) ∷ []) c ≡ added (sum_of test pairs c) v
sum-hit test pairs c n v hit =
    sum-append test pairs ((n, v) ∷ []) c ∙ ap (λ (b : Bool). fold added (sum_of test pairs c) (map value (cond b ((n, v) ∷ []) []))) hit

pub sum-miss : (test : ℕ → Bool) (pairs : List (ℕ × ℤ)) (c : ℤ) (n : ℕ) (v : ℤ) → test n ≡ false
    → sum_of test (pairs ++ (n, v) ∷ []) c ≡ sum_of test pairs c
sum-miss test pairs c n v miss =
    sum-append test pairs ((n, v) ∷ []) c ∙ ap (λ (b : Bool). fold added (sum_of test pairs c) (map value (cond b ((n, v) ∷ []) []))) miss

-- one more place is beside the next value
pub zip-more : (xs : List ℕ) (vs : List ℤ) (n : ℕ) (d : ℤ) → length xs < length vs → zip (xs ++ n ∷ []) vs ≡ zip xs vs ++ (n, get_or vs (length xs) d) ∷ []
zip-more [] [] n d within = absurd (omega (arith, within))
zip-more [] (v ∷ vs) n d within = refl
zip-more (x ∷ xs) [] n d within = absurd (omega (arith, within))
zip-more (x ∷ xs) (v ∷ vs) n d within = ap (λ ps. (x, v) ∷ ps) (zip-more xs vs n d (omega (arith, within)))

pub zip-append : (xs ys : List ℕ) (vs ws : List ℤ) → length xs ≡ length vs → zip (xs ++ ys) (vs ++ ws) ≡ zip xs vs ++ zip ys ws
zip-append [] ys [] ws same = refl
zip-append [] ys (v ∷ vs) ws same = absurd (omega (arith, same))
zip-append (x ∷ xs) ys [] ws same = absurd (omega (arith, same))
zip-append (x ∷ xs) ys (v ∷ vs) ws same = ap (λ ps. (x, v) ∷ ps) (zip-append xs ys vs ws (omega (arith, same)))
