-- Lanes that are known as the numbers of the states, and what operations make of them.
use Rattle.std.proofs.Common.{◌≡◌, ℕ, ◌+◌, ◌≤◌, List, length, map, refl, ap, sym, ◌∙◌, subst, inl, inr, arith, ℤ, ◌+ℤ◌, ◌≤ℤ◌, w16, to_z, of_z}
use Rattle.std.specs.Int.{int_max}
use Rattle.std.proofs.lemmas.Int.{ints}
use Rattle.lte_bits.specs.Softs.{IsWithin}
use Rattle.lte_bits.specs.declared.bit.Bit.{Bit}
use Rattle.lte_bits.specs.declared.bit.Bit.TheVariants.{Zero, One}
use Rattle.model_sender.specs.Bits.{plus}
use Rattle.model_sender.specs.ConstituentCoder.{State}
use Rattle.model_receiver.specs.Borders.{state, number_for, border_of}
use Rattle.model_receiver.specs.Paths.{greatest}
use Rattle.model_receiver.proofs.Maxima.{max-left, max-right, max_is, ≤ℤ-trans}
use Rattle.window_decode.specs.Recursions.{IsBounded}
use Rattle.window_decode.specs.Lanes.{IsLanes}
use Rattle.window_decode.proofs.Within.{within-same, within-more, within-sum}
use Rattle.window_decode.proofs.EightStates.{number-border_of, border-same, by_eight, states-bound, states-attained}
use Rattle.window_decode.proofs.LaneSteps.{fits-within, stored-border}

-- lanes that are passed on
abbrev pub passed : List ℤ → List ℤ
passed xs = map (to_z w16) (map (of_z w16) xs)

-- the numbers of the states, from -n to n
pub record AreNumbers (n : ℕ) (f : State → ℤ) (xs : List ℤ) : Type 0 where
  pub is : xs ≡ border_of f
  pub bounded : IsBounded n f

pub numbers_passed : (n : ℕ) (f : State → ℤ) (xs : List ℤ) → n ≤ 32767 → AreNumbers n f xs → passed xs ≡ border_of f
numbers_passed n f xs le h = ap passed h.is ∙ stored-border f (λ s. fits-within (f s) (within-more n 32767 (f s) le (h.bounded s)))

pub number_passed : (n : ℕ) (f : State → ℤ) (xs : List ℤ) → n ≤ 32767 → AreNumbers n f xs → (s : State) → number_for (passed xs) s ≡ f s
number_passed n f xs le h s = ap (λ ys. number_for ys s) (numbers_passed n f xs le h) ∙ number-border_of f s

pub lanes-own : (xs : List ℤ) → IsLanes xs → AreNumbers 32767 (number_for xs) xs
lanes-own xs h = record { is = by_eight (λ xs. xs ≡ border_of (number_for xs)) (λ a b c d e f g i. refl) xs h.eight; bounded = h.bounded }

pub lanes_passed : (n : ℕ) (f : State → ℤ) (xs : List ℤ) → n ≤ 32767 → AreNumbers n f xs → IsLanes (passed xs)
lanes_passed n f xs le h = record {
  eight = ap length (numbers_passed n f xs le h);
  bounded = λ s. within-same 32767 _ (f s) (number_passed n f xs le h s) (within-more n 32767 (f s) le (h.bounded s));
}

pub sum-fits : (m n : ℕ) (f g : State → ℤ) (xs ys : List ℤ) → m + n ≤ 32767 → AreNumbers m f xs → AreNumbers n g ys → IsBounded 32767 (λ s. number_for (passed xs) s +ℤ number_for (passed ys) s)
sum-fits m n f g xs ys le h k s =
    within-same 32767 _ (f s +ℤ g s) (same _ _ _ _ (number_passed m f xs (omega (arith, le)) h s) (number_passed n g ys (omega (arith, le)) k s))
    (within-more (m + n) 32767 _ le (within-sum m n (f s) (g s) (h.bounded s) (k.bounded s)))
  where
    same : (a b x y : ℤ) → a ≡ x → b ≡ y → a +ℤ b ≡ x +ℤ y
    same a b x y e f = omega (arith, ints)

pub sum-numbers : (m n : ℕ) (f g : State → ℤ) (xs ys r : List ℤ) → m + n ≤ 32767 → AreNumbers m f xs → AreNumbers n g ys → r ≡ border_of (λ s. number_for (passed xs) s +ℤ number_for (passed ys) s)
    → AreNumbers (m + n) (λ s. f s +ℤ g s) r
sum-numbers m n f g xs ys r le h k e = record {
  is =
      e ∙ border-same (λ s. number_for (passed xs) s +ℤ number_for (passed ys) s) (λ s. f s +ℤ g s)
      (λ s. same _ _ _ _ (number_passed m f xs (omega (arith, le)) h s) (number_passed n g ys (omega (arith, le)) k s));
  bounded = λ s. within-sum m n (f s) (g s) (h.bounded s) (k.bounded s);
}
  where
    same : (a b x y : ℤ) → a ≡ x → b ≡ y → a +ℤ b ≡ x +ℤ y
    same a b x y e f = omega (arith, ints)

pub larger-numbers : (n : ℕ) (f g : State → ℤ) (xs ys r : List ℤ) → n ≤ 32767 → AreNumbers n f xs → AreNumbers n g ys
    → r ≡ border_of (λ s. int_max (number_for (passed xs) s) (number_for (passed ys) s))
    → AreNumbers n (λ s. int_max (f s) (g s)) r
larger-numbers n f g xs ys r le h k e = record {
  is =
      e ∙ border-same (λ s. int_max (number_for (passed xs) s) (number_for (passed ys) s)) (λ s. int_max (f s) (g s))
      (λ s. ap (λ z. int_max z (number_for (passed ys) s)) (number_passed n f xs le h s) ∙ ap (λ z. int_max (f s) z) (number_passed n g ys le k s));
  bounded = λ s. one_of _ _ (h.bounded s) (k.bounded s);
}
  where
    one_of : (x y : ℤ) → IsWithin n x → IsWithin n y → IsWithin n (int_max x y)
    one_of x y p q = elim (max_is x y) [ inl e ↦ within-same n (int_max x y) x e p | inr e ↦ within-same n (int_max x y) y e q ]

pub moved-numbers : (n : ℕ) (f : State → ℤ) (to : State → State) (xs r : List ℤ) → n ≤ 32767 → AreNumbers n f xs → r ≡ border_of (λ s. number_for (passed xs) (to s)) → AreNumbers n (λ s. f (to s)) r
moved-numbers n f to xs r le h e = record {
  is = e ∙ border-same (λ s. number_for (passed xs) (to s)) (λ s. f (to s)) (λ s. number_passed n f xs le h (to s));
  bounded = λ s. h.bounded (to s);
}

-- ---- the greatest number, by halves

abbrev pub of_two : (State → ℤ) → State → ℤ
of_two m s = int_max (m s) (m (state (plus One s.a1) s.a2 s.a3))

abbrev pub of_four : (State → ℤ) → State → ℤ
of_four m s = int_max (of_two m s) (of_two m (state s.a1 (plus One s.a2) s.a3))

abbrev pub of_eight : (State → ℤ) → State → ℤ
of_eight m s = int_max (of_four m s) (of_four m (state s.a1 s.a2 (plus One s.a3)))

both : (x y z : ℤ) → x ≤ℤ z → y ≤ℤ z → int_max x y ≤ℤ z
both x y z p q = elim (max_is x y) [ inl e ↦ subst (λ (v : ℤ). v ≤ℤ z) (sym e) p | inr e ↦ subst (λ (v : ℤ). v ≤ℤ z) (sym e) q ]

under_two : (m : State → ℤ) (z : ℤ) → ((s : State) → m s ≤ℤ z) → (s : State) → of_two m s ≤ℤ z
under_two m z h s = both _ _ z (h s) (h (state (plus One s.a1) s.a2 s.a3))

under_four : (m : State → ℤ) (z : ℤ) → ((s : State) → m s ≤ℤ z) → (s : State) → of_four m s ≤ℤ z
under_four m z h s = both _ _ z (under_two m z h s) (under_two m z h (state s.a1 (plus One s.a2) s.a3))

under_eight : (m : State → ℤ) (z : ℤ) → ((s : State) → m s ≤ℤ z) → (s : State) → of_eight m s ≤ℤ z
under_eight m z h s = both _ _ z (under_four m z h s) (under_four m z h (state s.a1 s.a2 (plus One s.a3)))

first : (x y z : ℤ) → x ≤ℤ y → x ≤ℤ int_max y z
first x y z h = ≤ℤ-trans x y (int_max y z) h (max-left y z)

second : (x y z : ℤ) → x ≤ℤ z → x ≤ℤ int_max y z
second x y z h = ≤ℤ-trans x z (int_max y z) h (max-right y z)

over_two : (m : State → ℤ) (a b c : Bit) → m (state a b c) ≤ℤ of_two m (state Zero b c)
over_two m Zero b c = max-left _ _
over_two m One b c = max-right _ _

over_four : (m : State → ℤ) (a b c : Bit) → m (state a b c) ≤ℤ of_four m (state Zero Zero c)
over_four m a Zero c = first _ _ _ (over_two m a Zero c)
over_four m a One c = second _ _ _ (over_two m a One c)

over_eight : (m : State → ℤ) (a b c : Bit) → m (state a b c) ≤ℤ of_eight m (state Zero Zero Zero)
over_eight m a b Zero = first _ _ _ (over_four m a b Zero)
over_eight m a b One = second _ _ _ (over_four m a b One)

pub greatest-of_eight : (m : State → ℤ) → of_eight m (state Zero Zero Zero) ≡ greatest (border_of m)
greatest-of_eight m =
    let w = states-attained m in
    same _ _ (under_eight m (greatest (border_of m)) (states-bound m) (state Zero Zero Zero))
    (subst (λ (z : ℤ). z ≤ℤ of_eight m (state Zero Zero Zero)) (sym w.1) (over_eight m w.0.a1 w.0.a2 w.0.a3))
  where
    same : (x y : ℤ) → x ≤ℤ y → y ≤ℤ x → x ≡ y
    same x y p q = omega (arith, ints)
