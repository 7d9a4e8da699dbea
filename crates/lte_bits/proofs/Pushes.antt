-- A list that is pushed value by value, or made longer and then written.
use Rattle.std.proofs.Common.{◌≡◌, ℕ, ◌+◌, ◌-◌, List, [], ◌∷◌, ◌++◌, length, map, take, drop, append_assoc, ap, sym, ◌∙◌, arith}
use Rattle.std.specs.Prelude.{replicate}
use Rattle.std.specs.List.{range_with_len}
use Rattle.std.proofs.lemmas.List.{length-append, length-drop, length-take-le, take_all}
use Rattle.std.proofs.lemmas.List.FromFn.{map-range_with_len_more}
use Rattle.std.proofs.Math.Seq.{take-append_seam}

-- one more value of a function of the index
pub pushed_next : {X : Type 0} (f : ℕ → X) (old new : List X) (i : ℕ) (v : X) → old ≡ map f (range_with_len 0 i) → new ≡ old ++ v ∷ [] → v ≡ f i → new ≡ map f (range_with_len 0 (i + 1))
pushed_next {X} f old new i v is push value =
    push ∙ ap (λ (xs : List X). xs ++ v ∷ []) is
    ∙ ap (λ (x : X). map f (range_with_len 0 i) ++ x ∷ []) value
    ∙ sym (map-range_with_len_more f 0 i i (omega arith))

-- ---- made longer, and written from there on

-- what stands after a list that got longer is written
pub rest_written : {X : Type 0} (from n len : ℕ) (old now new post rest : List X) → from ≡ length old → len ≡ from + n → length new ≡ n → take from now ≡ old
    → take len ((take from now ++ (new ++ post)) ++ rest) ≡ old ++ new
rest_written {X} from n len old now new post rest first all long kept =
    ap (λ (xs : List X). take len ((xs ++ (new ++ post)) ++ rest)) kept
    ∙ ap (take len) regroup
    ∙ ap (λ m. take m ((old ++ new) ++ (post ++ rest))) (let e : len ≡ length (old ++ new) = omega (arith, length-append old new, first, all, long) in e)
    ∙ take-append_seam (old ++ new) (post ++ rest)
  where
    regroup : (old ++ (new ++ post)) ++ rest ≡ (old ++ new) ++ (post ++ rest)
    regroup = simp append_assoc

pub longer-kept : {X : Type 0} (from n : ℕ) (x : X) (old now items : List X) → from ≡ length old → now ≡ items → items ≡ take (from + n) old ++ replicate (from + n - from) x → take from now ≡ old
longer-kept {X} from n x old now items first same is =
    ap (take from) (same ∙ is ∙ ap (λ (xs : List X). xs ++ replicate (from + n - from) x) (take_all (from + n) old (omega (arith, first))))
    ∙ ap (λ m. take m (old ++ replicate (from + n - from) x)) first
    ∙ take-append_seam old (replicate (from + n - from) x)

pub rest-long : {X : Type 0} (from n : ℕ) (now : List X) → length now ≡ from + n → length (take (length now - from) (drop from now)) ≡ n
rest-long from n now long = length-take-le (length now - from) (drop from now) (omega (arith, length-drop from now)) ∙ omega (arith, long)
