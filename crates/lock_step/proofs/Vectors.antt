-- Operations on vectors of N lanes, as they are computed and as they are.
use Rattle.std.proofs.Common.{◌≡◌, ℕ, suc, ◌+◌, ◌<◌, ◌≤◌, List, [], ◌∷◌, length, map, ℤ, pos, ◌+ℤ◌, ◌-ℤ◌, refl, sym, ap, ◌∙◌, subst, inl, inr, arith}
use Rattle.std.specs.Int.{int_max}
use Rattle.std.proofs.lemmas.Bool.{cases_lt}
use Rattle.std.proofs.lemmas.Int.{ints, clamps}
use Rattle.std.proofs.lemmas.List.{get_or_past, get_or-map, length-map}
use Rattle.std.proofs.lemmas.Simd.{get_or-zip2, length-zip2}
use lib.Lanes.{Each2, zip2, put_chunk}
use Rattle.lte_bits.specs.Softs.{IsWithin}
use Rattle.model_receiver.specs.Borders.{at}
use Rattle.window_decode.proofs.Within.{within-same, within-more, within-sum}
use Rattle.window_decode.proofs.LaneSteps.{stored, IsSum, IsDifference, AreStored}
use Rattle.window_decode.proofs.LaneNumbers.{passed}
use Rattle.lock_step.specs.Vectors.{IsSmall, IsVector, AreLanes}

-- what holds at each lane holds of the lanes in turn
pub each_at : (R : ℤ → ℤ → Type 0) (xs ys : List ℤ) → length xs ≡ length ys → ((t : ℕ) → t < length xs → R (at xs t) (at ys t)) → Each2 R xs ys
each_at R [] ys l h = tt
each_at R (x ∷ xs) [] l h = tt
each_at R (x ∷ xs) (y ∷ ys) l h = (h 0 (omega arith), each_at R xs ys (omega (arith, l)) (λ t lt. h (suc t) (omega (arith, lt))))

pub next_lane : (a b : ℤ) (xs ys : List ℤ) → a ≡ b → xs ≡ ys → a ∷ xs ≡ b ∷ ys
next_lane a b xs ys e f = cc

-- a vector that is passed on
pub passed_all : (xs : List ℤ) → ((t : ℕ) → IsWithin 32767 (at xs t)) → passed xs ≡ xs
passed_all [] h = refl
passed_all (x ∷ xs) h = next_lane _ _ _ _ (stored x (h 0)) (passed_all xs (λ t. h (suc t)))

pub vector_passed : (n b : ℕ) (xs : List ℤ) → b ≤ 32767 → IsVector n b xs → passed xs ≡ xs
vector_passed n b xs le h = passed_all xs (λ t. within-more b 32767 _ le (h.bounded t))

pub vector_more : (n b c : ℕ) (xs : List ℤ) → b ≤ c → IsVector n b xs → IsVector n c xs
vector_more n b c xs le h = record { long = h.long; bounded = λ t. within-more b c _ le (h.bounded t) }

pub vector-still : (n b c : ℕ) (xs : List ℤ) → b ≤ c → c ≤ 32767 → IsVector n b xs → IsVector n c (passed xs)
vector-still n b c xs le most h = subst (λ ys. IsVector n c ys) (sym (vector_passed n b xs (omega (arith, le, most)) h)) (vector_more n b c xs le h)

-- lanes within a bound make a vector
pub vector_from : (n b : ℕ) (xs : List ℤ) → length xs ≡ n → ((t : ℕ) → t < n → IsWithin b (at xs t)) → IsVector n b xs
vector_from n b xs long h = record {
  long = long;
  bounded = λ t.
      elim (cases_lt t n) [
        | inl inside ↦ h t inside
        | inr past ↦ within-same b (at xs t) (pos 0) (get_or_past xs t (pos 0) (omega (arith, long, past))) (nothing b)
      ];
}
  where
    nothing : (b : ℕ) → IsWithin b (pos 0)
    nothing b = (omega (arith, ints), omega (arith, ints))

pub at-zip2 : (f : ℤ → ℤ → ℤ) (n : ℕ) (xs ys : List ℤ) → length xs ≡ n → length ys ≡ n → (t : ℕ) → t < n → at (zip2 f xs ys) t ≡ f (at xs t) (at ys t)
at-zip2 f n xs ys l k t lt = get_or-zip2 f xs ys t (pos 0) (pos 0) (pos 0) (omega (arith, l, lt)) (omega (arith, k, lt))

pub zip2-vector : (f : ℤ → ℤ → ℤ) (n b : ℕ) (xs ys : List ℤ) → length xs ≡ n → length ys ≡ n → ((t : ℕ) → t < n → IsWithin b (f (at xs t) (at ys t))) → IsVector n b (zip2 f xs ys)
zip2-vector f n b xs ys l k h =
    vector_from n b (zip2 f xs ys) (length-zip2 f xs ys (l ∙ sym k) ∙ l)
    (λ t lt. within-same b _ _ (at-zip2 f n xs ys l k t lt) (h t lt))

-- ---- sums, differences, maxima

pub each_sum : (n : ℕ) (xs ys : List ℤ) → IsVector n 32767 xs → IsVector n 32767 ys → ((t : ℕ) → IsWithin 32767 (at xs t +ℤ at ys t)) → Each2 IsSum xs ys
each_sum n xs ys h k fits = each_at IsSum xs ys (h.long ∙ sym k.long) (λ t lt. record { first = h.bounded t; second = k.bounded t; sum = fits t })

pub each_difference : (n : ℕ) (xs ys : List ℤ) → IsVector n 32767 xs → IsVector n 32767 ys → ((t : ℕ) → IsWithin 32767 (at xs t -ℤ at ys t)) → Each2 IsDifference xs ys
each_difference n xs ys h k fits = each_at IsDifference xs ys (h.long ∙ sym k.long) (λ t lt. record { first = h.bounded t; second = k.bounded t; difference = fits t })

pub each_stored : (n : ℕ) (xs ys : List ℤ) → IsVector n 32767 xs → IsVector n 32767 ys → Each2 AreStored xs ys
each_stored n xs ys h k = each_at AreStored xs ys (h.long ∙ sym k.long) (λ t lt. record { first = h.bounded t; second = k.bounded t })

pub greater-within : (b : ℕ) (x y : ℤ) → IsWithin b x → IsWithin b y → IsWithin b (int_max x y)
greater-within b x y h k = (omega (arith, ints, clamps), omega (arith, ints, clamps))

-- a result that is known lane by lane
pub known-lanes : (n b : ℕ) (f : ℤ → ℤ → ℤ) (xs ys r : List ℤ) → length xs ≡ n → length ys ≡ n → r ≡ zip2 f xs ys → ((t : ℕ) → t < n → IsWithin b (f (at xs t) (at ys t)))
    → AreLanes n b (λ t. f (at xs t) (at ys t)) r
known-lanes n b f xs ys r l k e h = record {
  vector = subst (λ zs. IsVector n b zs) (sym e) (zip2-vector f n b xs ys l k h);
  lanes = λ t lt. ap (λ zs. at zs t) e ∙ at-zip2 f n xs ys l k t lt;
}

-- a vector takes the place of a row
pub put_all : (xs ys : List ℤ) → length xs ≡ length ys → put_chunk 0 xs ys ≡ ys
put_all [] [] l = refl
put_all [] (y ∷ ys) l = absurd (omega (arith, l))
put_all (x ∷ xs) [] l = absurd (omega (arith, l))
put_all (x ∷ xs) (y ∷ ys) l = ap (λ zs. y ∷ zs) (put_all xs ys (omega (arith, l)))

-- ---- numbers that are known lane by lane

pub own-lanes : (n b : ℕ) (xs : List ℤ) → IsVector n b xs → AreLanes n b (at xs) xs
own-lanes n b xs h = record { vector = h; lanes = λ t lt. refl }

pub same-lanes : (n b : ℕ) (xs r : List ℤ) → r ≡ xs → IsVector n b xs → AreLanes n b (at xs) r
same-lanes n b xs r e h = subst (λ zs. AreLanes n b (at xs) zs) (sym e) (own-lanes n b xs h)

pub lanes_passed : (n b : ℕ) (f : ℕ → ℤ) (xs : List ℤ) → b ≤ 32767 → AreLanes n b f xs → AreLanes n b f (passed xs)
lanes_passed n b f xs le h = subst (λ zs. AreLanes n b f zs) (sym (vector_passed n b xs le h.vector)) h

pub lanes_stored : (n b : ℕ) (f : ℕ → ℤ) (xs r : List ℤ) → b ≤ 32767 → r ≡ passed xs → AreLanes n b f xs → AreLanes n b f r
lanes_stored n b f xs r le e h = subst (λ zs. AreLanes n b f zs) (sym e) (lanes_passed n b f xs le h)

pub lanes_within : (n b : ℕ) (f : ℕ → ℤ) (xs : List ℤ) → AreLanes n b f xs → (t : ℕ) → t < n → IsWithin b (f t)
lanes_within n b f xs h t lt = within-same b (f t) (at xs t) (sym (h.lanes t lt)) (h.vector.bounded t)

-- an operation on two vectors
pub op-lanes : (op : ℤ → ℤ → ℤ) (n m k b : ℕ) (f h : ℕ → ℤ) (xs ys r : List ℤ) → m ≤ 32767 → k ≤ 32767 → ((x y : ℤ) → IsWithin m x → IsWithin k y → IsWithin b (op x y))
    → AreLanes n m f xs → AreLanes n k h ys → length r ≡ n → ((t : ℕ) → t < n → at r t ≡ op (at (passed xs) t) (at (passed ys) t)) → AreLanes n b (λ t. op (f t) (h t)) r
op-lanes op n m k b f h xs ys r lm lk within p q long e =
    let is : (t : ℕ) → t < n → at r t ≡ op (f t) (h t) =
    λ t lt. e t lt ∙ (ap (λ z. op z (at (passed ys) t)) ((lanes_passed n m f xs lm p).lanes t lt) ∙ ap (λ z. op (f t) z) ((lanes_passed n k h ys lk q).lanes t lt)) in
    record {
      vector = vector_from n b r long (λ t lt. within-same b (at r t) (op (f t) (h t)) (is t lt) (within (f t) (h t) (lanes_within n m f xs p t lt) (lanes_within n k h ys q t lt)));
      lanes = is;
    }

pub difference-within : (m k : ℕ) (x y : ℤ) → IsWithin m x → IsWithin k y → IsWithin (m + k) (x -ℤ y)
difference-within m k x y h q = (omega (arith, ints), omega (arith, ints))

pub sum-lanes : (n m k : ℕ) (f h : ℕ → ℤ) (xs ys r : List ℤ) → m + k ≤ 32767 → AreLanes n m f xs → AreLanes n k h ys → length r ≡ n
    → ((t : ℕ) → t < n → at r t ≡ at (passed xs) t +ℤ at (passed ys) t) → AreLanes n (m + k) (λ t. f t +ℤ h t) r
sum-lanes n m k f h xs ys r le p q long e =
    op-lanes ◌+ℤ◌ n m k (m + k) f h xs ys r (omega (arith, le)) (omega (arith, le)) (within-sum m k) p q long e

pub difference-lanes : (n m k : ℕ) (f h : ℕ → ℤ) (xs ys r : List ℤ) → m + k ≤ 32767 → AreLanes n m f xs → AreLanes n k h ys → length r ≡ n
    → ((t : ℕ) → t < n → at r t ≡ at (passed xs) t -ℤ at (passed ys) t) → AreLanes n (m + k) (λ t. f t -ℤ h t) r
difference-lanes n m k f h xs ys r le p q long e =
    op-lanes ◌-ℤ◌ n m k (m + k) f h xs ys r (omega (arith, le)) (omega (arith, le)) (difference-within m k) p q long e

pub larger-lanes : (n b : ℕ) (f h : ℕ → ℤ) (xs ys r : List ℤ) → b ≤ 32767 → AreLanes n b f xs → AreLanes n b h ys → length r ≡ n
    → ((t : ℕ) → t < n → at r t ≡ int_max (at (passed xs) t) (at (passed ys) t)) → AreLanes n b (λ t. int_max (f t) (h t)) r
larger-lanes n b f h xs ys r le p q long e = op-lanes int_max n b b b f h xs ys r le le (greater-within b) p q long e

pub sum-fits : (n m k : ℕ) (f h : ℕ → ℤ) (xs ys : List ℤ) → m + k ≤ 32767 → AreLanes n m f xs → AreLanes n k h ys → (t : ℕ) → IsWithin 32767 (at (passed xs) t +ℤ at (passed ys) t)
sum-fits n m k f h xs ys le p q t =
    within-more (m + k) 32767 _ le
    (within-sum m k _ _ ((lanes_passed n m f xs (omega (arith, le)) p).vector.bounded t) ((lanes_passed n k h ys (omega (arith, le)) q).vector.bounded t))

pub difference-fits : (n m k : ℕ) (f h : ℕ → ℤ) (xs ys : List ℤ) → m + k ≤ 32767 → AreLanes n m f xs → AreLanes n k h ys → (t : ℕ) → IsWithin 32767 (at (passed xs) t -ℤ at (passed ys) t)
difference-fits n m k f h xs ys le p q t =
    within-more (m + k) 32767 _ le
    (difference-within m k _ _ ((lanes_passed n m f xs (omega (arith, le)) p).vector.bounded t) ((lanes_passed n k h ys (omega (arith, le)) q).vector.bounded t))

-- a vector is passed on as one
pub any_passed : (n b : ℕ) (f : ℕ → ℤ) (xs : List ℤ) → b ≤ 32767 → AreLanes n b f xs → IsVector n 32767 (passed xs)
any_passed n b f xs le h = vector-still n b 32767 xs le (omega arith) h.vector

-- a function of each lane
pub map-lanes : (f : ℤ → ℤ) (n b : ℕ) (xs r : List ℤ) → r ≡ map f xs → length xs ≡ n → ((t : ℕ) → IsWithin b (f (at xs t))) → AreLanes n b (λ t. f (at xs t)) r
map-lanes f n b xs r e long h =
    let lane : (t : ℕ) → t < n → at r t ≡ f (at xs t) = λ t lt. ap (λ zs. at zs t) e ∙ get_or-map f xs t (pos 0) (pos 0) (omega (arith, long, lt)) in
    record {
      vector = vector_from n b r (ap length e ∙ (length-map xs f ∙ long)) (λ t lt. within-same b (at r t) (f (at xs t)) (lane t lt) (h t));
      lanes = lane;
    }

pub more-lanes : (n b c : ℕ) (f : ℕ → ℤ) (xs : List ℤ) → b ≤ c → AreLanes n b f xs → AreLanes n c f xs
more-lanes n b c f xs le h = record { vector = vector_more n b c xs le h.vector; lanes = h.lanes }

-- a function of lanes that are known
pub lanes_of : (op : ℤ → ℤ) (n m b : ℕ) (f : ℕ → ℤ) (xs r : List ℤ) → m ≤ 32767 → AreLanes n m f xs → AreLanes n b (λ t. op (at (passed xs) t)) r → AreLanes n b (λ t. op (f t)) r
lanes_of op n m b f xs r le p h = record { vector = h.vector; lanes = λ t lt. h.lanes t lt ∙ ap op ((lanes_passed n m f xs le p).lanes t lt) }

-- small numbers in a row of n lanes
pub small-vector : (n b : ℕ) (xs : List ℤ) → length xs ≡ n → IsSmall n b xs → IsVector n b xs
small-vector n b xs long h = vector_from n b xs long h

-- sums of small numbers
pub sum-small : (n : ℕ) (xs ys r : List ℤ) → IsSmall n 127 xs → IsSmall n 511 ys → ((t : ℕ) → t < n → at r t ≡ at xs t +ℤ at ys t) → IsSmall n 638 r
sum-small n xs ys r h k e t lt = within-same 638 _ _ (e t lt) (within-sum 127 511 _ _ (h t lt) (k t lt))
