-- The least value over lists of bits, and least values in general.
use Rattle.std.proofs.Common.{◌≡◌, ℕ, zero, suc, ◌<◌, ℤ, ◌≤ℤ◌, List, [], ◌∷◌, length, set, get_or, refl, ap, sym, subst, ◌∙◌, ◌⊎◌, inl, inr, Bool, true, false, arith}
use Rattle.std.specs.Prelude.{int_lt}
use Rattle.std.specs.Int.{int_min}
use Rattle.std.proofs.lemmas.Int.{ints, clamps}
use Rattle.std.proofs.lemmas.List.{get_or-set_same, length-set, set-get_or}
use Rattle.lte_bits.specs.declared.bit.Bit.{Bit}
use Rattle.lte_bits.specs.declared.bit.Bit.TheVariants.{Zero, One}
use Rattle.qam_points.specs.Demapping.{IsLeast, least_over}

pub least_one : {X : Type 0} (A : X → Type 0) (value : X → ℤ) (m n : ℤ) → IsLeast A value m → IsLeast A value n → m ≡ n
least_one A value m n h k =
    both m n (subst (λ (z : ℤ). m ≤ℤ z) k.attained.2 (h.bound k.attained.0 k.attained.1)) (subst (λ (z : ℤ). n ≤ℤ z) h.attained.2 (k.bound h.attained.0 h.attained.1))
  where
    both : (m n : ℤ) → m ≤ℤ n → n ≤ℤ m → m ≡ n
    both m n p q = omega (arith, ints)

min-left : (x y z : ℤ) → x ≤ℤ z → int_min x y ≤ℤ z
min-left x y z h = omega (arith, ints, clamps)

min-right : (x y z : ℤ) → y ≤ℤ z → int_min x y ≤ℤ z
min-right x y z h = omega (arith, ints, clamps)

min_is : (x y : ℤ) → (int_min x y ≡ x) ⊎ (int_min x y ≡ y)
min_is x y = min_cases (int_lt y x) x y refl
  where
    min_cases : (b : Bool) (x y : ℤ) → int_lt y x ≡ b → (int_min x y ≡ x) ⊎ (int_min x y ≡ y)
    min_cases true x y e = inr (rw e)
    min_cases false x y e = inl (rw e)

pub least_over-bound : (n : ℕ) (value : List Bit → ℤ) (x : List Bit) → length x ≡ n → least_over n value ≤ℤ value x
least_over-bound zero value [] e = omega (arith, ints)
least_over-bound zero value (b ∷ x) e = absurd (omega arith)
least_over-bound (suc n) value [] e = absurd (omega arith)
least_over-bound (suc n) value (Zero ∷ x) e =
    min-left (least_over n (λ y. value (Zero ∷ y))) (least_over n (λ y. value (One ∷ y))) (value (Zero ∷ x)) (least_over-bound n (λ y. value (Zero ∷ y)) x (omega arith))
least_over-bound (suc n) value (One ∷ x) e =
    min-right (least_over n (λ y. value (Zero ∷ y))) (least_over n (λ y. value (One ∷ y))) (value (One ∷ x)) (least_over-bound n (λ y. value (One ∷ y)) x (omega arith))

pub least_over-attained : (n : ℕ) (value : List Bit → ℤ) → (x : List Bit) × (length x ≡ n) × (value x ≡ least_over n value)
least_over-attained zero value = ([], refl, refl)
least_over-attained (suc n) value =
    let zeros = least_over-attained n (λ y. value (Zero ∷ y)) in
    let ones = least_over-attained n (λ y. value (One ∷ y)) in
    elim (min_is (least_over n (λ y. value (Zero ∷ y))) (least_over n (λ y. value (One ∷ y)))) [
      | inl e ↦ (Zero ∷ zeros.0, ap suc zeros.1, zeros.2 ∙ sym e)
      | inr e ↦ (One ∷ ones.0, ap suc ones.1, ones.2 ∙ sym e)
    ]

-- with a bit put at a place: the least over the lists that have it there
pub least_with_bit : (n : ℕ) (value : List Bit → ℤ) (i : ℕ) (b : Bit) → i < n
    → IsLeast (λ (x : List Bit). (length x ≡ n) × (get_or x i Zero ≡ b)) value (least_over n (λ x. value (set x i b)))
least_with_bit n value i b h =
    let w = least_over-attained n (λ x. value (set x i b)) in
    record {
      attained = (set w.0 i b, (length-set w.0 i b ∙ w.1, get_or-set_same w.0 i b Zero (omega arith)), w.2);
      bound = λ x ok.
          subst (λ (y : List Bit). least_over n (λ z. value (set z i b)) ≤ℤ value y) (ap (set x i) (sym ok.1) ∙ set-get_or x i Zero)
          (least_over-bound n (λ z. value (set z i b)) x ok.0);
    }

pub least_of_all : (n : ℕ) (value : List Bit → ℤ) → IsLeast (λ (x : List Bit). length x ≡ n) value (least_over n value)
least_of_all n value = record {
  attained = least_over-attained n value;
  bound = least_over-bound n value;
}

-- the least of a list of bits that no other is below
pub least_over-is : (n : ℕ) (value : List Bit → ℤ) (x : List Bit) → length x ≡ n → ((y : List Bit) → length y ≡ n → value x ≤ℤ value y) → least_over n value ≡ value x
least_over-is n value x long least =
    least_one (λ (x : List Bit). length x ≡ n) value (least_over n value) (value x) (least_of_all n value)
    (record { attained = (x, long, refl); bound = least })

-- the lesser of two values at each list
pub least_over-min : (n : ℕ) (f g h : List Bit → ℤ) → ((x : List Bit) → length x ≡ n → int_min (f x) (g x) ≡ h x) → int_min (least_over n f) (least_over n g) ≡ least_over n h
least_over-min zero f g h same = same [] refl
least_over-min (suc n) f g h same =
    let zeros = least_over-min n (λ x. f (Zero ∷ x)) (λ x. g (Zero ∷ x)) (λ x. h (Zero ∷ x)) (λ x e. same (Zero ∷ x) (ap suc e)) in
    let ones = least_over-min n (λ x. f (One ∷ x)) (λ x. g (One ∷ x)) (λ x. h (One ∷ x)) (λ x e. same (One ∷ x) (ap suc e)) in
    regroup (least_over n (λ x. f (Zero ∷ x))) (least_over n (λ x. f (One ∷ x))) (least_over n (λ x. g (Zero ∷ x))) (least_over n (λ x. g (One ∷ x)))
    (least_over n (λ x. h (Zero ∷ x))) (least_over n (λ x. h (One ∷ x))) zeros ones
  where
    regroup : (a b c d p q : ℤ) → int_min a c ≡ p → int_min b d ≡ q → int_min (int_min a b) (int_min c d) ≡ int_min p q
    regroup a b c d p q e f = omega (arith, ints, clamps)

pub least_over-same : (n : ℕ) (f g : List Bit → ℤ) → ((x : List Bit) → length x ≡ n → f x ≡ g x) → least_over n f ≡ least_over n g
least_over-same zero f g same = same [] refl
least_over-same (suc n) f g same =
    let zeros = least_over-same n (λ x. f (Zero ∷ x)) (λ x. g (Zero ∷ x)) (λ x e. same (Zero ∷ x) (ap suc e)) in
    let ones = least_over-same n (λ x. f (One ∷ x)) (λ x. g (One ∷ x)) (λ x e. same (One ∷ x) (ap suc e)) in
    cc
