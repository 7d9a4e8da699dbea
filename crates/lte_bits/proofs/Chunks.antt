-- A list by chunks of one length.
use Rattle.std.proofs.Common.{◌≡◌, ℕ, zero, suc, ◌+◌, ◌*◌, ◌<◌, List, ◌++◌, take, drop, get_or, ap, sym, ◌∙◌, arith}
use Rattle.std.specs.Simd.{first_chunks}
use Rattle.std.proofs.lemmas.List.{drop-drop}
use Rattle.std.proofs.Math.Seq.{take-add}

pub chunk-at : {X : Type 0} (n k i : ℕ) (xs d : List X) → i < k → get_or (first_chunks n k xs) i d ≡ take n (drop (i * n) xs)
chunk-at n zero i xs d h = absurd (omega (arith, h))
chunk-at n (suc k) zero xs d h = ap (λ m. take n (drop m xs)) (let e : 0 ≡ 0 * n = omega arith in e)
chunk-at n (suc k) (suc i) xs d h =
    chunk-at n k i (drop n xs) d (omega (arith, h))
    ∙ ap (take n) (drop-drop (i * n) n xs ∙ ap (λ m. drop m xs) (let e : n + i * n ≡ suc i * n = omega arith in e))

-- a chunk more
pub take-chunk : {X : Type 0} (n k i : ℕ) (xs d : List X) (chunks : List (List X)) → i < k → chunks ≡ first_chunks n k xs → take ((i + 1) * n) xs ≡ take (i * n) xs ++ get_or chunks i d
take-chunk n k i xs d chunks h are =
    ap (λ m. take m xs) (let e : (i + 1) * n ≡ i * n + n = omega arith in e)
    ∙ take-add (i * n) n xs
    ∙ ap (λ ys. take (i * n) xs ++ ys) (sym (ap (λ cs. get_or cs i d) are ∙ chunk-at n k i xs d h))
