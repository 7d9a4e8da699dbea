-- Scrambling and turning undo themselves.
use Rattle.std.proofs.Common.{◌≡◌, ℕ, ℤ, pos, ◌<◌, List, length, get_or, refl, ap, ◌∙◌, arith}
use Rattle.std.proofs.lemmas.Int.{ints}
use Rattle.std.proofs.lemmas.List.{ext_get_or}
use Rattle.std.proofs.lemmas.List.FromFn.{get_or-map-range_with_len, length-map-range_with_len}
use Rattle.lte_bits.specs.declared.bit.Bit.{Bit}
use Rattle.lte_bits.specs.declared.bit.Bit.TheVariants.{Zero, One}
use Rattle.gold_scramble.specs.Places.{plus}
use Rattle.gold_scramble.specs.Scrambling.{added, turned_by, turned_value}
use Rattle.gold_scramble.proofs.Keystream.{taken}

plus-same : (a b : Bit) → plus (plus a b) b ≡ a
plus-same Zero Zero = refl
plus-same Zero One = refl
plus-same One Zero = refl
plus-same One One = refl

turned_value-same : (b : Bit) (v : ℤ) → turned_value b (turned_value b v) ≡ v
turned_value-same Zero v = refl
turned_value-same One v = omega (arith, ints)

length-taken : {X : Type 0} (e : X → Bit → X) (d : X) (s : ℕ → Bit) (xs : List X) → length (taken e d s xs) ≡ length xs
length-taken e d s xs = length-map-range_with_len (λ i. e (get_or xs i d) (s i)) 0 (length xs)

element : {X : Type 0} (e : X → Bit → X) (d : X) (s : ℕ → Bit) (xs : List X) (k : ℕ) → k < length xs → get_or (taken e d s xs) k d ≡ e (get_or xs k d) (s k)
element e d s xs k h = get_or-map-range_with_len (λ i. e (get_or xs i d) (s i)) 0 (length xs) k k d h (omega arith)

-- what undoes itself at each element does so for the list
twice : {X : Type 0} (e : X → Bit → X) (d : X) (s : ℕ → Bit) (xs : List X) → ((x : X) (b : Bit) → e (e x b) b ≡ x) → taken e d s (taken e d s xs) ≡ xs
twice e d s xs undone =
    ext_get_or d (taken e d s (taken e d s xs)) xs (length-taken e d s (taken e d s xs) ∙ length-taken e d s xs)
    (λ k h.
    let long = length-taken e d s (taken e d s xs) in
    let same = length-taken e d s xs in
    element e d s (taken e d s xs) k (omega arith)
    ∙ (ap (λ x. e x (s k)) (element e d s xs k (omega arith)) ∙ undone (get_or xs k d) (s k)))

pub added-added : (s : ℕ → Bit) (bits : List Bit) → added s (added s bits) ≡ bits
unfolding added
added-added s bits = twice plus Zero s bits plus-same

pub turned_by-turned_by : (s : ℕ → Bit) (softs : List ℤ) → turned_by s (turned_by s softs) ≡ softs
unfolding turned_by
turned_by-turned_by s softs = twice (λ v b. turned_value b v) (pos 0) s softs (λ v b. turned_value-same b v)

pub length-added : (s : ℕ → Bit) (bits : List Bit) → length (added s bits) ≡ length bits
unfolding added
length-added s bits = length-taken plus Zero s bits

pub length-turned_by : (s : ℕ → Bit) (softs : List ℤ) → length (turned_by s softs) ≡ length softs
unfolding turned_by
length-turned_by s softs = length-taken (λ v b. turned_value b v) (pos 0) s softs
