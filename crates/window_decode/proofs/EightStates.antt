-- Numbers of the eight states as lists.
use Rattle.std.proofs.Common.{◌≡◌, ℕ, ◌≤◌, List, [], ◌∷◌, length, map, ℤ, pos, ◌-ℤ◌, ◌≤ℤ◌, refl, ap, ◌∙◌, arith}
use Rattle.std.proofs.lemmas.Int.{ints}
use Rattle.lte_bits.specs.Softs.{IsWithin}
use Rattle.lte_bits.specs.declared.bit.Bit.{Bit}
use Rattle.lte_bits.specs.declared.bit.Bit.TheVariants.{Zero, One}
use Rattle.model_sender.specs.ConstituentCoder.{State, zero_state}
use Rattle.model_receiver.specs.Borders.{state, states, number_for, border_of, relative, IsBorder}
use Rattle.model_receiver.specs.Paths.{greatest}
use Rattle.model_receiver.proofs.Members.{member-map, member-unmap}
use Rattle.model_receiver.proofs.Maxima.{greatest-bound, greatest-inside}
use Rattle.model_receiver.proofs.GreatestPaths.{states-all}
use Rattle.window_decode.specs.Recursions.{IsBounded, AreNear, IsMetrics}
use Rattle.window_decode.proofs.Within.{within-same, within-more}

-- a list of eight by its elements
pub by_eight : (P : List ℤ → Type 0) → ((a b c d e f g h : ℤ) → P (a ∷ b ∷ c ∷ d ∷ e ∷ f ∷ g ∷ h ∷ [])) → (xs : List ℤ) → length xs ≡ 8 → P xs
by_eight P each [] l = absurd (omega (arith, l))
by_eight P each (a ∷ []) l = absurd (omega (arith, l))
by_eight P each (a ∷ b ∷ []) l = absurd (omega (arith, l))
by_eight P each (a ∷ b ∷ c ∷ []) l = absurd (omega (arith, l))
by_eight P each (a ∷ b ∷ c ∷ d ∷ []) l = absurd (omega (arith, l))
by_eight P each (a ∷ b ∷ c ∷ d ∷ e ∷ []) l = absurd (omega (arith, l))
by_eight P each (a ∷ b ∷ c ∷ d ∷ e ∷ f ∷ []) l = absurd (omega (arith, l))
by_eight P each (a ∷ b ∷ c ∷ d ∷ e ∷ f ∷ g ∷ []) l = absurd (omega (arith, l))
by_eight P each (a ∷ b ∷ c ∷ d ∷ e ∷ f ∷ g ∷ h ∷ []) l = each a b c d e f g h
by_eight P each (a ∷ b ∷ c ∷ d ∷ e ∷ f ∷ g ∷ h ∷ i ∷ xs) l = absurd (omega (arith, l))

-- the list of a function's numbers has them
pub number-border_of : (f : State → ℤ) (s : State) → number_for (border_of f) s ≡ f s
number-border_of f s = by_bits s.a1 s.a2 s.a3
  where
    by_bits : (a b c : Bit) → number_for (border_of f) (state a b c) ≡ f (state a b c)
    by_bits Zero Zero Zero = refl
    by_bits Zero Zero One = refl
    by_bits Zero One Zero = refl
    by_bits Zero One One = refl
    by_bits One Zero Zero = refl
    by_bits One Zero One = refl
    by_bits One One Zero = refl
    by_bits One One One = refl

map-same : {X Y : Type 0} (f g : X → Y) (xs : List X) → ((x : X) → f x ≡ g x) → map f xs ≡ map g xs
map-same f g [] e = refl
map-same f g (x ∷ xs) e = ap (λ y. y ∷ map f xs) (e x) ∙ ap (λ ys. g x ∷ ys) (map-same f g xs e)

pub border-same : (f g : State → ℤ) → ((s : State) → f s ≡ g s) → border_of f ≡ border_of g
border-same f g e = map-same f g states e

pub relative-same : (f g : State → ℤ) → ((s : State) → f s ≡ g s) → relative f ≡ relative g
relative-same f g e = map-same (λ s. f s -ℤ f zero_state) (λ s. g s -ℤ g zero_state) states (λ s. ap (λ z. z -ℤ f zero_state) (e s) ∙ ap (λ z. g s -ℤ z) (e zero_state))

-- numbers that are near one another make a border
pub border_from : (f : State → ℤ) → AreNear 4096 f → IsBorder (relative f)
border_from f near = record {
  eight = refl;
  zero = itself (f zero_state);
  spread = λ s t. differ _ _ (f s) (f t) (f zero_state) (number-border_of (λ s. f s -ℤ f zero_state) s) (number-border_of (λ s. f s -ℤ f zero_state) t) (near s t);
}
  where
    itself : (x : ℤ) → x -ℤ x ≡ pos 0
    itself x = omega (arith, ints)

    differ : (a b x y z : ℤ) → a ≡ x -ℤ z → b ≡ y -ℤ z → (x -ℤ y) ≤ℤ pos 4096 → (a -ℤ b) ≤ℤ pos 4096
    differ a b x y z p q h = omega (arith, ints)

-- ---- the greatest of eight

pub states-bound : (f : State → ℤ) (s : State) → f s ≤ℤ greatest (border_of f)
states-bound f s = greatest-bound (map f states) (f s) (member-map f s states (states-all s))

pub states-attained : (f : State → ℤ) → (s : State) × (greatest (border_of f) ≡ f s)
states-attained f =
    let w = member-unmap f (greatest (map f states)) states (greatest-inside (map f states) (f zero_state) (member-map f zero_state states (states-all zero_state))) in
    (w.0, w.2)

-- a list that has a function's numbers
pub same_eight : (f : State → ℤ) (r0 r1 r2 r3 r4 r5 r6 r7 : ℤ)
    → r0 ≡ f (state Zero Zero Zero) → r1 ≡ f (state Zero Zero One) → r2 ≡ f (state Zero One Zero) → r3 ≡ f (state Zero One One)
    → r4 ≡ f (state One Zero Zero) → r5 ≡ f (state One Zero One) → r6 ≡ f (state One One Zero) → r7 ≡ f (state One One One)
    → r0 ∷ r1 ∷ r2 ∷ r3 ∷ r4 ∷ r5 ∷ r6 ∷ r7 ∷ [] ≡ border_of f
same_eight f r0 r1 r2 r3 r4 r5 r6 r7 e0 e1 e2 e3 e4 e5 e6 e7 = rw (e0, e1, e2, e3, e4, e5, e6, e7) refl

-- metrics that were made of a function
pub metrics_from : (xs : List ℤ) (f : State → ℤ) (n : ℕ) → xs ≡ border_of f → n ≤ 10000000 → IsBounded n f → IsMetrics xs
metrics_from xs f n e le h = record {
  eight = ap length e;
  bounded = λ s. within-more n 10000000 _ le (within-same n _ (f s) (ap (λ ys. number_for ys s) e ∙ number-border_of f s) (h s));
}

pub near_from : (xs : List ℤ) (f : State → ℤ) → xs ≡ border_of f → IsBounded 762 f → AreNear 4096 (number_for xs)
near_from xs f e h s t = near _ _ (within-same 762 _ (f s) (is s) (h s)) (within-same 762 _ (f t) (is t) (h t))
  where
    is : (s : State) → number_for xs s ≡ f s
    is s = ap (λ ys. number_for ys s) e ∙ number-border_of f s

    near : (x y : ℤ) → IsWithin 762 x → IsWithin 762 y → (x -ℤ y) ≤ℤ pos 4096
    near x y p q = omega (arith, ints)

pub greatest-within : (xs : List ℤ) (f : State → ℤ) (m : ℕ) → xs ≡ border_of f → IsBounded m f → IsWithin m (greatest xs)
greatest-within xs f m e h =
    let w = states-attained f in
    within-same m _ (f w.0) (ap greatest e ∙ w.1) (h w.0)
