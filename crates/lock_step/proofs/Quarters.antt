-- Three quarters of clamped numbers in each lane, as they are computed and as they are.
use Rattle.std.proofs.Common.{◌≡◌, ℕ, suc, List, [], ◌∷◌, length, map, replicate, ℤ, pos, negsuc, ◌*ℤ◌, refl, sym, ap, ◌∙◌, subst, arith, w16, Bool, true, false, cond}
use Rattle.std.specs.Prelude.{int_div}
use Rattle.std.specs.Int.{int_max, int_min}
use Rattle.std.proofs.lemmas.Int.{ints, clamps}
use lib.Lanes.{Each2, zip2, sel_l, top}
use lib.Signed.{lt_z}
use borrow.Rule.Simd.Lanes.{act2, Asks2}
use borrow.Table.Row.{s_int}
use mir.Syntax.{mul, div, signed, mask, lt}
use mir.Val.{to_z, of_z, SFits}
use Rattle.lte_bits.specs.Softs.{IsWithin, clamped}
use Rattle.model_receiver.specs.Borders.{at}
use Rattle.model_receiver.specs.Windows.{scaled}
use Rattle.window_decode.proofs.LaneSteps.{stored}
use Rattle.window_decode.proofs.Scaling.{quarters}
use Rattle.lock_step.proofs.Vectors.{next_lane}

-- ---- the nearest number

abbrev less : ℕ → ℕ → ℕ
less = act2 (mask (lt signed)) (s_int w16) (s_int w16) (s_int w16)

abbrev below : ℕ → List ℕ → List ℕ
below n xs = sel_l (map (top 15) (zip2 less xs (replicate n 682))) xs (replicate n 682)

abbrev pub clipped : ℕ → List ℕ → List ℕ
clipped n xs = sel_l (map (top 15) (zip2 less (below n xs) (replicate n 64854))) (replicate n 64854) (below n xs)

below_case : (x : ℤ) (b : Bool) → lt_z x (pos 682) ≡ b → cond (top 15 (cond b 65535 0)) (of_z w16 x) 682 ≡ of_z w16 (int_min (pos 682) x)
below_case x true e = ap (of_z w16) (let is : x ≡ int_min (pos 682) x = grind (arith, ints, clamps) in is)
below_case x false e = ap (of_z w16) (let is : pos 682 ≡ int_min (pos 682) x = grind (arith, ints, clamps) in is)

above_case : (x : ℤ) (b : Bool) → lt_z x (negsuc 681) ≡ b → cond (top 15 (cond b 65535 0)) 64854 (of_z w16 x) ≡ of_z w16 (int_max (negsuc 681) x)
above_case x true e = ap (of_z w16) (let is : negsuc 681 ≡ int_max (negsuc 681) x = grind (arith, ints, clamps) in is)
above_case x false e = ap (of_z w16) (let is : x ≡ int_max (negsuc 681) x = grind (arith, ints, clamps) in is)

near_lane : (x : ℤ) → IsWithin 32767 x → (let l = cond (top 15 (less (of_z w16 x) 682)) (of_z w16 x) 682 in to_z w16 (cond (top 15 (less l 64854)) 64854 l)) ≡ clamped 682 x
near_lane x h =
    let y : ℤ = int_min (pos 682) x in
    let low : cond (top 15 (less (of_z w16 x) 682)) (of_z w16 x) 682 ≡ of_z w16 y =
    ap (λ z. cond (top 15 (cond (lt_z z (pos 682)) 65535 0)) (of_z w16 x) 682) (stored x h) ∙ below_case x (lt_z x (pos 682)) refl in
    ap (λ l. to_z w16 (cond (top 15 (less l 64854)) 64854 l)) low
    ∙ (ap (λ z. to_z w16 (cond (top 15 (cond (lt_z z (negsuc 681)) 65535 0)) 64854 (of_z w16 y))) (stored y (low-within x h))
    ∙ (ap (to_z w16) (above_case y (lt_z y (negsuc 681)) refl) ∙ stored (int_max (negsuc 681) y) (both-within x h)))
  where
    low-within : (x : ℤ) → IsWithin 32767 x → IsWithin 32767 (int_min (pos 682) x)
    low-within x h = (omega (arith, ints, clamps), omega (arith, ints, clamps))

    both-within : (x : ℤ) → IsWithin 32767 x → IsWithin 32767 (int_max (negsuc 681) (int_min (pos 682) x))
    both-within x h = (omega (arith, ints, clamps), omega (arith, ints, clamps))

near_all : (xs : List ℤ) → ((t : ℕ) → IsWithin 32767 (at xs t)) → map (to_z w16) (clipped (length xs) (map (of_z w16) xs)) ≡ map (clamped 682) xs
near_all [] h = refl
near_all (x ∷ xs) h = next_lane _ _ _ _ (near_lane x (h 0)) (near_all xs (λ t. h (suc t)))

pub near_stored : (n : ℕ) (xs : List ℤ) → length xs ≡ n → ((t : ℕ) → IsWithin 32767 (at xs t)) → map (to_z w16) (clipped n (map (of_z w16) xs)) ≡ map (clamped 682) xs
near_stored n xs long h = subst (λ m. map (to_z w16) (clipped m (map (of_z w16) xs)) ≡ map (clamped 682) xs) long (near_all xs h)

pub near-within : (x : ℤ) → IsWithin 682 (clamped 682 x)
near-within x = (omega (arith, ints, clamps), omega (arith, ints, clamps))

-- ---- three quarters

abbrev pub three_quarters : ℤ → ℤ
three_quarters x = int_div (x *ℤ pos 3) (pos 4)

abbrev pub thrice : ℕ → List ℕ → List ℕ
thrice n xs = zip2 (act2 (mul signed) (s_int w16) (s_int w16) (s_int w16)) xs (replicate n 3)

abbrev pub quartered : ℕ → List ℕ → List ℕ
quartered n xs = zip2 (act2 (div signed) (s_int w16) (s_int w16) (s_int w16)) xs (replicate n 4)

pub quarters-within : (x : ℤ) → IsWithin 682 x → IsWithin 511 (three_quarters x)
quarters-within x h =
    subst (λ z. IsWithin 511 z) (sym (quarters x x (itself x h))) (clamped-within (int_div (pos 3 *ℤ x) (pos 4)))
  where
    itself : (x : ℤ) → IsWithin 682 x → x ≡ int_max (negsuc 681) (int_min x (pos 682))
    itself x h = omega (arith, ints, clamps)

    clamped-within : (y : ℤ) → IsWithin 511 (clamped 511 y)
    clamped-within y = (omega (arith, ints, clamps), omega (arith, ints, clamps))

thrice_fits : (xs : List ℤ) → ((t : ℕ) → IsWithin 682 (at xs t)) → Each2 (Asks2 (mul signed) (s_int w16) (s_int w16)) (map (of_z w16) xs) (replicate (length xs) 3)
thrice_fits [] h = tt
thrice_fits (x ∷ xs) h = (fits x (h 0), thrice_fits xs (λ t. h (suc t)))
  where
    fits : (x : ℤ) → IsWithin 682 x → SFits w16 (to_z w16 (of_z w16 x) *ℤ pos 3)
    fits x h = search (arith, ints)

pub thrice-fits : (n : ℕ) (xs : List ℤ) → length xs ≡ n → ((t : ℕ) → IsWithin 682 (at xs t)) → Each2 (Asks2 (mul signed) (s_int w16) (s_int w16)) (map (of_z w16) xs) (replicate n 3)
thrice-fits n xs long h = subst (λ m. Each2 (Asks2 (mul signed) (s_int w16) (s_int w16)) (map (of_z w16) xs) (replicate m 3)) long (thrice_fits xs h)

quarters_lane : (x : ℤ) → IsWithin 682 x → to_z w16 (of_z w16 (int_div (to_z w16 (of_z w16 (to_z w16 (of_z w16 x) *ℤ pos 3))) (pos 4))) ≡ three_quarters x
quarters_lane x h =
    ap (λ z. to_z w16 (of_z w16 (int_div z (pos 4)))) (three x h) ∙ stored (three_quarters x) (more (three_quarters x) (quarters-within x h))
  where
    three : (x : ℤ) → IsWithin 682 x → to_z w16 (of_z w16 (to_z w16 (of_z w16 x) *ℤ pos 3)) ≡ x *ℤ pos 3
    three x h = omega (arith, ints)

    more : (y : ℤ) → IsWithin 511 y → IsWithin 32767 y
    more y h = (omega (arith, ints), omega (arith, ints))

quarters_all : (xs : List ℤ) → ((t : ℕ) → IsWithin 682 (at xs t)) → map (to_z w16) (quartered (length xs) (thrice (length xs) (map (of_z w16) xs))) ≡ map three_quarters xs
quarters_all [] h = refl
quarters_all (x ∷ xs) h = next_lane _ _ _ _ (quarters_lane x (h 0)) (quarters_all xs (λ t. h (suc t)))

pub quarters_stored : (n : ℕ) (xs : List ℤ) → length xs ≡ n → ((t : ℕ) → IsWithin 682 (at xs t)) → map (to_z w16) (quartered n (thrice n (map (of_z w16) xs))) ≡ map three_quarters xs
quarters_stored n xs long h = subst (λ m. map (to_z w16) (quartered m (thrice m (map (of_z w16) xs))) ≡ map three_quarters xs) long (quarters_all xs h)

-- three quarters of the nearest number
pub three_quarters-near : (x : ℤ) → three_quarters (clamped 682 x) ≡ scaled x
three_quarters-near x = quarters x (clamped 682 x) (turned x)
  where
    turned : (x : ℤ) → clamped 682 x ≡ int_max (negsuc 681) (int_min x (pos 682))
    turned x = omega (arith, ints, clamps)
