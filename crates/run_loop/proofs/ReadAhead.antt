-- How much may be read before a part is written, seen from a part before it.
use Rattle.std.proofs.Common.{◌≡◌, ℕ, zero, suc, inl, inr, ◌+◌, ◌<◌, ◌≤◌, List, [], ◌∷◌, ◌++◌, length, take, nat_lt, ◌&&◌, if◌then◌else◌, Bool, true, false, ap, sym, subst, ◌∙◌, append_assoc, arith}
use Rattle.std.proofs.lemmas.Bool.{cases_lt, lt-ltb}
use Rattle.std.proofs.lemmas.Grind.{common_steps}
use Rattle.std.proofs.lemmas.List.{length-append}
use Rattle.std.specs.declared.option.Option.{Option}
use Rattle.edge_io.proofs.Known.{takes_then}
use Rattle.run_loop.specs.Answer.{Part, Answer, preceded_by, size_of}
use Rattle.run_loop.specs.Due.{IsWithin, TakesSome, most_ahead, most_read}

-- one more of them
take_up : (parts : List Part) (k : ℕ) → size_of (take k parts) ≤ size_of (take (suc k) parts)
take_up [] zero = omega arith
take_up [] (suc k) = omega arith
take_up (p ∷ parts) zero = grind (arith, common_steps)
take_up (p ∷ parts) (suc k) = let rest = take_up parts k in grind (arith, common_steps, rest)

within_take : (front after : List Part) (k : ℕ) → size_of (take k (front ++ after)) ≤ size_of front + size_of (take k after)
within_take [] after k = grind (arith, common_steps)
within_take (p ∷ front) after zero = grind (arith, common_steps)
within_take (p ∷ front) after (suc k) =
    let rest = within_take front after k in let up = take_up after k in grind (arith, common_steps, rest, up)

-- the ending is read where fewer parts are left than are read ahead
abbrev spare_tail : (long k tail : ℕ) → ℕ
spare_tail long k tail = if nat_lt long k then tail else 0

spare_more : (long more k tail : ℕ) → long ≤ more → spare_tail more k tail ≤ spare_tail long k tail
spare_more long more k tail within = elim (cases_lt more k) [
  | inl less ↦ rw (lt-ltb more k less, lt-ltb long k (omega (arith, within, less))) (omega arith)
  | inr all ↦ grind (arith, common_steps, all)
]

-- parts in front are read too
pub most_read_before : (a : Answer) (front after : List Part) → most_read a (front ++ after) ≤ size_of front + most_read a after
most_read_before a front after =
    let parts = within_take front after a.ahead in
    let long : length after ≤ length (front ++ after) = omega (arith, length-append front after) in
    let tail = spare_more (length after) (length (front ++ after)) a.ahead a.tail long in
    omega (arith, parts, tail)

-- one part is always read
pub one_read : (b : Answer) (p : Part) (n : ℕ) → 0 < b.ahead → n ≤ p.size → n ≤ most_read b (p ∷ b.parts)
one_read b p n some few = of b.ahead some where
  of : (k : ℕ) → 0 < k → n ≤ size_of (take k (p ∷ b.parts)) + spare_tail (length (p ∷ b.parts)) k b.tail
  of zero none = absurd (omega (arith, none))
  of (suc k) some_k = let first : p.size ≤ size_of (take (suc k) (p ∷ b.parts)) = grind (arith, common_steps) in omega (arith, first, few)

-- what may be read before memory runs out may be read before a write
and_less : (c d : Bool) (tail : ℕ) → (if c && d then tail else 0) ≤ (if d then tail else 0)
and_less true d tail = omega arith
and_less false true tail = omega arith
and_less false false tail = omega arith

pub ahead_read : (a : Answer) → most_ahead a ≤ most_read a a.parts
ahead_read a = let tail = and_less (nat_lt 1 a.ahead) (nat_lt (length a.parts) a.ahead) a.tail in omega (arith, tail)

pub starved_read : (a : Answer) (old new : Option (List ℕ)) → TakesSome old new (IsWithin a) → TakesSome old new (λ n. n ≤ most_read a a.parts)
starved_read a old new (bytes, took, within) = (bytes, took, (let few = within.0 in omega (arith, few, ahead_read a)))

-- so many bytes, and then at most so many
pub took_within : (old mid new : Option (List ℕ)) (size most all : ℕ) → TakesSome old mid (λ n. n ≡ size) → TakesSome mid new (λ n. n ≤ most) → size + most ≤ all →
    TakesSome old new (λ n. n ≤ all)
took_within old mid new size most all (xs, first, long) (ys, second, few) within =
    (xs ++ ys, takes_then old mid new xs ys first second, omega (arith, length-append xs ys, long, few, within))

-- a round of these parts, before one of which something couldn't be written
pub read_before : (b : Answer) (parts f after : List Part) → parts ≡ f ++ after → most_read b (parts ++ b.parts) ≤ size_of f + most_read b (after ++ b.parts)
read_before b parts f after e =
    let P : List Part → Type 0 = λ ps. most_read b ps ≤ size_of f + most_read b (after ++ b.parts) in
    subst P (sym (ap (λ (ps : List Part). ps ++ b.parts) e ∙ append_assoc f after b.parts)) (most_read_before b f (after ++ b.parts))
