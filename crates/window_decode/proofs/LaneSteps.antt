-- Operations on eight lanes of 16 bits, as they are computed and as they are.
use Rattle.std.proofs.Common.{◌≡◌, ℕ, List, [], ◌∷◌, ◌++◌, length, map, get_or, refl, sym, ap, ◌∙◌, arith, ℤ, ◌+ℤ◌, ◌-ℤ◌, w16, Bool, true, false, cond}
use Rattle.std.specs.Int.{int_max}
use Rattle.std.proofs.lemmas.Int.{to_z-of_z, ints}
use lib.Lanes.{pick_l, Each2, zip2, sel_l, top}
use lib.Signed.{lt_z}
use borrow.Rule.Simd.Lanes.{act2, Asks2}
use borrow.Table.Row.{s_int}
use mir.Syntax.{add, sub, signed, mask, lt}
use mir.Val.{to_z, of_z, SFits}
use Rattle.lte_bits.specs.Softs.{IsWithin}
use Rattle.lte_bits.specs.declared.bit.Bit.{Bit}
use Rattle.lte_bits.specs.declared.bit.Bit.TheVariants.{Zero, One}
use Rattle.model_sender.specs.ConstituentCoder.{State, state_number}
use Rattle.model_receiver.specs.Borders.{state, states, number_for, border_of}
use Rattle.window_decode.specs.Recursions.{IsBounded}
use Rattle.window_decode.specs.Lanes.{IsLanes}
use Rattle.window_decode.proofs.Within.{within-same}
use Rattle.window_decode.proofs.EightStates.{by_eight, same_eight}

-- lane by lane
pub zip2-border : (f : ℤ → ℤ → ℤ) (xs ys : List ℤ) → length xs ≡ 8 → length ys ≡ 8 → zip2 f xs ys ≡ border_of (λ s. f (number_for xs s) (number_for ys s))
zip2-border f xs ys lx ly =
    by_eight (λ us. zip2 f us ys ≡ border_of (λ s. f (number_for us s) (number_for ys s)))
    (λ a b c d e g h i. by_eight (λ vs. zip2 f (a ∷ b ∷ c ∷ d ∷ e ∷ g ∷ h ∷ i ∷ []) vs ≡ border_of (λ s. f (number_for (a ∷ b ∷ c ∷ d ∷ e ∷ g ∷ h ∷ i ∷ []) s) (number_for vs s)))
    (λ a' b' c' d' e' g' h' i'. refl) ys ly) xs lx

-- a relation of the states' numbers is one of the lanes
pub each_lane : (R : ℤ → ℤ → Type 0) (xs ys : List ℤ) → length xs ≡ 8 → length ys ≡ 8 → ((s : State) → R (number_for xs s) (number_for ys s)) → Each2 R xs ys
each_lane R xs ys lx ly =
    by_eight (λ us. ((s : State) → R (number_for us s) (number_for ys s)) → Each2 R us ys)
    (λ a b c d e g h i. by_eight (λ vs. ((s : State) → R (number_for (a ∷ b ∷ c ∷ d ∷ e ∷ g ∷ h ∷ i ∷ []) s) (number_for vs s)) → Each2 R (a ∷ b ∷ c ∷ d ∷ e ∷ g ∷ h ∷ i ∷ []) vs)
    (λ a' b' c' d' e' g' h' i' r. (
      r (state Zero Zero Zero),
      (
        r (state Zero Zero One),
        (
          r (state Zero One Zero),
          (r (state Zero One One), (r (state One Zero Zero), (r (state One Zero One), (r (state One One Zero), (r (state One One One), tt))))),
        ),
      ),
    )) ys ly) xs lx

pub fits-within : (x : ℤ) → IsWithin 32767 x → SFits w16 x
fits-within x h = search (arith, ints)

pub stored : (x : ℤ) → IsWithin 32767 x → to_z w16 (of_z w16 x) ≡ x
stored x h = to_z-of_z w16 x (fits-within x h)

-- the numbers of the states, as they are stored
pub stored-border : (g : State → ℤ) → ((s : State) → SFits w16 (g s)) → map (to_z w16) (map (of_z w16) (border_of g)) ≡ border_of g
stored-border g h =
    same_eight g _ _ _ _ _ _ _ _
    (to_z-of_z w16 _ (h (state Zero Zero Zero))) (to_z-of_z w16 _ (h (state Zero Zero One))) (to_z-of_z w16 _ (h (state Zero One Zero))) (to_z-of_z w16 _ (h (state Zero One One)))
    (to_z-of_z w16 _ (h (state One Zero Zero))) (to_z-of_z w16 _ (h (state One Zero One))) (to_z-of_z w16 _ (h (state One One Zero))) (to_z-of_z w16 _ (h (state One One One)))

-- the number of another state for each state
pub picked-border : (m : List ℤ) (f : State → State) → IsLanes m
    → map (to_z w16) (pick_l 0 (map (of_z w16) m ++ map (of_z w16) m) (map (λ s. state_number (f s)) states)) ≡ border_of (λ s. number_for m (f s))
picked-border m f h =
    by_eight (λ m. IsBounded 32767 (number_for m) → map (to_z w16) (pick_l 0 (map (of_z w16) m ++ map (of_z w16) m) (map (λ s. state_number (f s)) states)) ≡ border_of (λ s. number_for m (f s)))
    (λ a b c d e g i j bounded. same_eight (λ s. number_for (a ∷ b ∷ c ∷ d ∷ e ∷ g ∷ i ∷ j ∷ []) (f s)) _ _ _ _ _ _ _ _
    (lane a b c d e g i j bounded (f (state Zero Zero Zero))) (lane a b c d e g i j bounded (f (state Zero Zero One)))
    (lane a b c d e g i j bounded (f (state Zero One Zero))) (lane a b c d e g i j bounded (f (state Zero One One)))
    (lane a b c d e g i j bounded (f (state One Zero Zero))) (lane a b c d e g i j bounded (f (state One Zero One)))
    (lane a b c d e g i j bounded (f (state One One Zero))) (lane a b c d e g i j bounded (f (state One One One))))
    m h.eight h.bounded
  where
    lane : (a b c d e g i j : ℤ) → IsBounded 32767 (number_for (a ∷ b ∷ c ∷ d ∷ e ∷ g ∷ i ∷ j ∷ [])) → (s : State)
        → to_z w16 (get_or (map (of_z w16) (a ∷ b ∷ c ∷ d ∷ e ∷ g ∷ i ∷ j ∷ []) ++ map (of_z w16) (a ∷ b ∷ c ∷ d ∷ e ∷ g ∷ i ∷ j ∷ [])) (state_number s) 0)
        ≡ number_for (a ∷ b ∷ c ∷ d ∷ e ∷ g ∷ i ∷ j ∷ []) s
    lane a b c d e g i j bounded s = at s.a1 s.a2 s.a3
      where
        at : (x y z : Bit) → to_z w16 (get_or (map (of_z w16) (a ∷ b ∷ c ∷ d ∷ e ∷ g ∷ i ∷ j ∷ []) ++ map (of_z w16) (a ∷ b ∷ c ∷ d ∷ e ∷ g ∷ i ∷ j ∷ []))
            (state_number (state x y z)) 0) ≡ number_for (a ∷ b ∷ c ∷ d ∷ e ∷ g ∷ i ∷ j ∷ []) (state x y z)
        at Zero Zero Zero = stored a (bounded (state Zero Zero Zero))
        at Zero Zero One = stored b (bounded (state Zero Zero One))
        at Zero One Zero = stored c (bounded (state Zero One Zero))
        at Zero One One = stored d (bounded (state Zero One One))
        at One Zero Zero = stored e (bounded (state One Zero Zero))
        at One Zero One = stored g (bounded (state One Zero One))
        at One One Zero = stored i (bounded (state One One Zero))
        at One One One = stored j (bounded (state One One One))

-- and where a known bit says which state
pub picked-by : (m : List ℤ) (to : State → Bit → State) (u b : Bit) (r : List ℕ) → IsLanes m → u ≡ b
    → r ≡ pick_l 0 (map (of_z w16) m ++ map (of_z w16) m) (map (λ s. state_number (to s b)) states) → map (to_z w16) r ≡ border_of (λ s. number_for m (to s u))
picked-by m to u b r h e is = ap (map (to_z w16)) is ∙ (picked-border m (λ s. to s b) h ∙ ap (λ (c : Bit). border_of (λ s. number_for m (to s c))) (sym e))

-- ---- sums and differences

pub record IsSum (x y : ℤ) : Type 0 where
  pub first : IsWithin 32767 x
  pub second : IsWithin 32767 y
  pub sum : IsWithin 32767 (x +ℤ y)

pub record IsDifference (x y : ℤ) : Type 0 where
  pub first : IsWithin 32767 x
  pub second : IsWithin 32767 y
  pub difference : IsWithin 32767 (x -ℤ y)

pub difference-same : (x z y : ℤ) → y ≡ z → IsWithin 32767 x → IsWithin 32767 z → IsWithin 32767 (x -ℤ z) → IsDifference x y
difference-same x z y e h k l = record { first = h; second = within-same 32767 y z e k; difference = within-same 32767 (x -ℤ y) (x -ℤ z) (ap (λ v. x -ℤ v) e) l }

next_lane : (a b : ℤ) (xs ys : List ℤ) → a ≡ b → xs ≡ ys → a ∷ xs ≡ b ∷ ys
next_lane a b xs ys e f = cc

pub sums_fit : (xs ys : List ℤ) → Each2 IsSum xs ys → Each2 (Asks2 (add signed) (s_int w16) (s_int w16)) (map (of_z w16) xs) (map (of_z w16) ys)
sums_fit [] ys h = tt
sums_fit (x ∷ xs) [] h = tt
sums_fit (x ∷ xs) (y ∷ ys) h = (let a = h.0.first in let b = h.0.second in let c = h.0.sum in search (arith, ints), sums_fit xs ys h.1)

pub sums_stored : (xs ys : List ℤ) → Each2 IsSum xs ys → map (to_z w16) (zip2 (act2 (add signed) (s_int w16) (s_int w16) (s_int w16)) (map (of_z w16) xs) (map (of_z w16) ys)) ≡ zip2 ◌+ℤ◌ xs ys
sums_stored [] ys h = refl
sums_stored (x ∷ xs) [] h = refl
sums_stored (x ∷ xs) (y ∷ ys) h = next_lane _ _ _ _ (let a = h.0.first in let b = h.0.second in let c = h.0.sum in omega (arith, ints)) (sums_stored xs ys h.1)

pub differences_fit : (xs ys : List ℤ) → Each2 IsDifference xs ys → Each2 (Asks2 (sub signed) (s_int w16) (s_int w16)) (map (of_z w16) xs) (map (of_z w16) ys)
differences_fit [] ys h = tt
differences_fit (x ∷ xs) [] h = tt
differences_fit (x ∷ xs) (y ∷ ys) h = (let a = h.0.first in let b = h.0.second in let c = h.0.difference in search (arith, ints), differences_fit xs ys h.1)

pub differences_stored : (xs ys : List ℤ) → Each2 IsDifference xs ys → map (to_z w16)
    (zip2 (act2 (sub signed) (s_int w16) (s_int w16) (s_int w16)) (map (of_z w16) xs) (map (of_z w16) ys)) ≡ zip2 ◌-ℤ◌ xs ys
differences_stored [] ys h = refl
differences_stored (x ∷ xs) [] h = refl
differences_stored (x ∷ xs) (y ∷ ys) h = next_lane _ _ _ _ (let a = h.0.first in let b = h.0.second in let c = h.0.difference in omega (arith, ints)) (differences_stored xs ys h.1)

-- ---- maxima

pub record AreStored (x y : ℤ) : Type 0 where
  pub first : IsWithin 32767 x
  pub second : IsWithin 32767 y

larger_case : (x y : ℤ) (b : Bool) → IsWithin 32767 x → IsWithin 32767 y → lt_z x y ≡ b → to_z w16 (cond (top 15 (cond b 65535 0)) (of_z w16 y) (of_z w16 x)) ≡ int_max x y
larger_case x y true fx fy e = stored y fy ∙ grind (arith, ints)
larger_case x y false fx fy e = stored x fx ∙ grind (arith, ints)

larger_lane : (x y : ℤ) → IsWithin 32767 x → IsWithin 32767 y
    → to_z w16 (cond (top 15 (cond (lt_z (to_z w16 (of_z w16 x)) (to_z w16 (of_z w16 y))) 65535 0)) (of_z w16 y) (of_z w16 x)) ≡ int_max x y
larger_lane x y fx fy =
    let ex : to_z w16 (of_z w16 x) ≡ x = stored x fx in
    let ey : to_z w16 (of_z w16 y) ≡ y = stored y fy in
    larger_case x y _ fx fy (cc)

pub larger_stored : (xs ys : List ℤ) → Each2 AreStored xs ys
    → map (to_z w16) (sel_l (map (top 15) (zip2 (act2 (mask (lt signed)) (s_int w16) (s_int w16) (s_int w16)) (map (of_z w16) xs) (map (of_z w16) ys)))
    (map (of_z w16) ys) (map (of_z w16) xs)) ≡ zip2 int_max xs ys
larger_stored [] ys h = refl
larger_stored (x ∷ xs) [] h = refl
larger_stored (x ∷ xs) (y ∷ ys) h = next_lane _ _ _ _ (larger_lane x y h.0.first h.0.second) (larger_stored xs ys h.1)
