-- Parts of lists that have a value for each position.
use Rattle.std.proofs.Common.{◌≡◌, ℕ, ◌+◌, ◌<◌, ◌≤◌, List, ◌++◌, length, get_or, map, take, drop, sym, ap, ◌∙◌, arith}
use Rattle.std.specs.List.{range_with_len}
use Rattle.std.proofs.Math.Seq.{take-length}
use Rattle.std.proofs.lemmas.List.{take-append-le, ext_get_or, get_or-take, get_or-drop, length-take-le, length-drop}
use Rattle.std.proofs.lemmas.List.FromFn.{fill_by_all, length-map-range_with_len, get_or-map-range_with_len}

-- the first k values, by position
pub front-by_position : {X : Type 0} (f : ℕ → X) (xs : List X) (k : ℕ) (d : X) → k ≤ length xs → ((i : ℕ) → i < k → get_or xs i d ≡ f i)
    → take k xs ≡ map f (range_with_len 0 k)
front-by_position f xs k d long same =
    fill_by_all f (take k xs) k d (length-take-le k xs long) (λ i h. get_or-take k xs i d h ∙ same i h)

-- the values of some positions among those of all
pub part-by_position : {X : Type 0} (f : ℕ → X) (n from w : ℕ) (d : X) → from + w ≤ n
    → take w (drop from (map f (range_with_len 0 n))) ≡ map f (range_with_len from w)
part-by_position f n from w d fits =
    let all : length (map f (range_with_len 0 n)) ≡ n = length-map-range_with_len f 0 n in
    let long : length (take w (drop from (map f (range_with_len 0 n)))) ≡ w =
    length-take-le w (drop from (map f (range_with_len 0 n))) (omega (arith, length-drop from (map f (range_with_len 0 n)), all)) in
    ext_get_or d _ _ (long ∙ sym (length-map-range_with_len f from w))
    (λ i lt. let h : i < w = omega (arith, long) in
    get_or-take w (drop from (map f (range_with_len 0 n))) i d h
    ∙ (get_or-drop from (map f (range_with_len 0 n)) i d
    ∙ (get_or-map-range_with_len f 0 n (from + i) (from + i) d (omega arith) (omega arith)
    ∙ sym (get_or-map-range_with_len f from w i (from + i) d h (omega arith)))))

-- a vector whose values were all written has what was written
pub written : {X : Type 0} (n : ℕ) (new items : List X) → length new ≡ n → take n (new ++ drop (length new) items) ≡ new
written n new items e =
    ap (λ (m : ℕ). take m (new ++ drop (length new) items)) (sym e)
    ∙ (take-append-le (length new) new (drop (length new) items) (omega arith) ∙ take-length new)
