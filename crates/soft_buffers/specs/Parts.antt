-- Lists that stand in one list, one after the other.
use Rattle.std.specs.Prelude.{ℕ, List, map, take, drop, sum_by}
use Rattle.std.specs.List.{range_with_len}

-- how many elements the parts before part r have, where part r has `long r`
abbrev pub before : (ℕ → ℕ) → ℕ → ℕ
before long r = sum_by long (range_with_len 0 r)

-- part r
abbrev pub part : {X : Type 0} → (ℕ → ℕ) → List X → ℕ → List X
part long xs r = take (long r) (drop (before long r) xs)

-- the first `count` parts
abbrev pub parts : {X : Type 0} → (ℕ → ℕ) → ℕ → List X → List (List X)
parts long count xs = map (part long xs) (range_with_len 0 count)
