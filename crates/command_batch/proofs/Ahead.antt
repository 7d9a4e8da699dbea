-- How far may be read before memory runs out, where several blocks are read ahead.
use Rattle.std.proofs.Common.{◌≡◌, ℕ, zero, suc, ◌+◌, ◌<◌, ◌≤◌, List, [], ◌∷◌, ◌++◌, length, take, refl, ap, arith}
use Rattle.std.proofs.lemmas.Grind.{common_steps}
use Rattle.std.proofs.lemmas.Bool.{lt-ltb}
use Rattle.run_loop.specs.Answer.{Part, Answer, preceded_by, size_of}
use Rattle.run_loop.specs.Due.{most_ahead}
use Rattle.command_batch.specs.Batch.{reading_ahead}

-- so many bytes may be read beyond the parts in front: those of the next part, or where there is none those of the ending
abbrev pub IsSpare : List Part → (tail m : ℕ) → Type 0
IsSpare [] tail m = m ≤ tail
IsSpare (p ∷ parts) tail m = m ≤ p.size

-- parts in front take no more than the first k
front_within : (front parts : List Part) (k : ℕ) → length front ≤ k → size_of front ≤ size_of (take k (front ++ parts))
front_within [] parts k few = omega arith
front_within (p ∷ front) parts zero few = absurd (omega (arith, few))
front_within (p ∷ front) parts (suc k) few =
    let rest = front_within front parts k (omega (arith, few)) in grind (arith, common_steps, rest)

-- and with the next part too
next_within : (front parts : List Part) (p : Part) (k : ℕ) → length front < k → size_of front + p.size ≤ size_of (take k (front ++ p ∷ parts))
next_within [] parts p zero few = absurd (omega (arith, few))
next_within [] parts p (suc k) few = grind (arith, common_steps)
next_within (q ∷ front) parts p zero few = absurd (omega (arith, few))
next_within (q ∷ front) parts p (suc k) few =
    let rest = next_within front parts p k (omega (arith, few)) in grind (arith, common_steps, rest)

tail_within : (a : Answer) (k : ℕ) → 1 < k → length a.parts < k → size_of (take k a.parts) + a.tail ≤ most_ahead (reading_ahead k a)
tail_within a k some few = rw (lt-ltb 1 k some, lt-ltb (length a.parts) k few) (omega arith)

-- the parts in front alone
pub whole_within : (b : Answer) (front : List Part) (k : ℕ) → length front ≤ k → size_of front ≤ most_ahead (preceded_by front (reading_ahead k b))
whole_within b front k few =
    let within = front_within front b.parts k few in omega (arith, within)

-- and a little more
pub spare_within : (b : Answer) (front : List Part) (k m : ℕ) → 1 < k → length front < k → IsSpare b.parts b.tail m → size_of front + m ≤ most_ahead (preceded_by front (reading_ahead k b))
spare_within b front k m some few spare = of b.parts refl spare
  where
    of : (parts : List Part) → b.parts ≡ parts → IsSpare parts b.tail m → size_of front + m ≤ most_ahead (preceded_by front (reading_ahead k b))
    of [] is spare =
        let within = front_within front b.parts k (omega (arith, few)) in
        let at : length (front ++ b.parts) < k = rw is (grind (arith, common_steps, few)) in
        let end = tail_within (preceded_by front b) k some at in
        omega (arith, within, end, spare)
    of (p ∷ parts) is spare =
        let within = next_within front parts p k few in
        let same : size_of (take k (front ++ b.parts)) ≡ size_of (take k (front ++ p ∷ parts)) = ap (λ ps. size_of (take k (front ++ ps))) is in
        omega (arith, within, same, spare)
