-- What a walk over the sizes finds first is the least or the greatest.
use Rattle.std.proofs.Common.{◌≡◌, ℕ, ◌+◌, ◌-◌, ◌*◌, ◌<◌, ◌≤◌, nat_le, nat_lt, Bool, true, false, ◌&&◌, cond, leb, List, [], ◌∷◌, length, get_or, find, filter, reverse, Contains, Option, Some, None, IsSome, refl, sym, ap, ◌∙◌, subst, inl, inr, arith}
use Rattle.std.specs.Int.{div_ceil}
use Rattle.std.proofs.lemmas.Bool.{cases_lt, and_parts, leb-true, le-leb, lt-ltb}
use Rattle.std.proofs.lemmas.Grind.{div_ceil_times}
use Rattle.std.proofs.lemmas.List.{get_or-reverse, length-reverse}
use Rattle.std.proofs.Math.Nat.{mul-le-mul_right}
use Rattle.model_sender.specs.Bits.{greatest}
use Rattle.model_sender.specs.Interleaver.{sizes}
use Rattle.model_sender.specs.Segmentation.{larger_size}
use Rattle.model_sender.proofs.Extremes.{Contains-more, Contains-cases, least-one, greatest-one}
use Rattle.model_sender.proofs.SizeTable.{size_40, size_6144}

-- ---- a list in order

-- each stands after the one before it
abbrev in_order : (ℕ → ℕ → Bool) → ℕ → List ℕ → Bool
in_order le x [] = true
in_order le x (y ∷ ys) = le x y && in_order le y ys

record IsOrder (le : ℕ → ℕ → Bool) : Type 0 where
  same : (x : ℕ) → le x x ≡ true
  chain : (x y z : ℕ) → le x y ≡ true → le y z ≡ true → le x z ≡ true

behind : (le : ℕ → ℕ → Bool) → IsOrder le → (x : ℕ) (xs : List ℕ) → in_order le x xs ≡ true → (y : ℕ) → Contains xs y → le x y ≡ true
behind le order x [] h y inside = absurd (let lt : inside.0 < 0 = inside.1 in omega (arith, lt))
behind le order x (z ∷ zs) h y inside =
    let p = and_parts (le x z) (in_order le z zs) h in
    elim (Contains-cases z zs y inside) [
      | inl e ↦ subst (λ (n : ℕ). le x n ≡ true) e p.0
      | inr later ↦ order.chain x z y p.0 (behind le order z zs p.1 y later)
    ]

-- k passes, and stands before all others that do
record IsFirst (le : ℕ → ℕ → Bool) (p : ℕ → Bool) (xs : List ℕ) (k : ℕ) : Type 0 where
  inside : Contains xs k
  pass : p k ≡ true
  first : (y : ℕ) → Contains xs y → p y ≡ true → le k y ≡ true

found-first : (le : ℕ → ℕ → Bool) → IsOrder le → (p : ℕ → Bool) (x : ℕ) (xs : List ℕ) → in_order le x xs ≡ true → (k : ℕ) → find p xs ≡ Some k → IsFirst le p xs k
found-first le order p x [] h k e = absurd (cc)
found-first le order p x (y ∷ ys) h k e =
    let q = and_parts (le x y) (in_order le y ys) h in
    by_test (found-first le order p y ys q.1 k) (behind le order y ys q.1) (p y) refl e
  where
    by_test : (find p ys ≡ Some k → IsFirst le p ys k) → ((z : ℕ) → Contains ys z → le y z ≡ true) → (b : Bool) → p y ≡ b → cond b (Some y) (find p ys) ≡ Some k → IsFirst le p (y ∷ ys) k
    by_test later after true t e =
        let same : y ≡ k = cc in
        subst (λ (n : ℕ). IsFirst le p (y ∷ ys) n) same (record {
          inside = (0, omega arith, refl);
          pass = t;
          first = λ z within ok. elim (Contains-cases y ys z within) [ inl eq ↦ subst (λ (n : ℕ). le y n ≡ true) eq (order.same y) | inr rest ↦ after z rest ];
        })
    by_test later after false t e =
        let rest = later e in
        record {
          inside = Contains-more y ys k rest.inside;
          pass = rest.pass;
          first = λ z within ok. elim (Contains-cases y ys z within) [ inl eq ↦ absurd (let no : p z ≡ false = sym (ap p eq) ∙ t in cc) | inr after ↦ rest.first z after ok ];
        }

-- what passes is found
found-some : (p : ℕ → Bool) (xs : List ℕ) (y : ℕ) → Contains xs y → p y ≡ true → find p xs ≡ None → ⊥
found-some p [] y inside ok e = let lt : inside.0 < 0 = inside.1 in omega (arith, lt)
found-some p (x ∷ xs) y inside ok e = by_test (found-some p xs y) (p x) refl e
  where
    by_test : (Contains xs y → p y ≡ true → find p xs ≡ None → ⊥) → (b : Bool) → p x ≡ b → cond b (Some x) (find p xs) ≡ None → ⊥
    by_test later true t e = (cc)
    by_test later false t e = elim (Contains-cases x xs y inside) [ inl eq ↦ (let no : p y ≡ false = sym (ap p eq) ∙ t in cc) | inr rest ↦ later rest ok e ]

-- ---- the sizes, upwards and downwards

abbrev ge : ℕ → ℕ → Bool
ge x y = leb y x

upwards : IsOrder leb
upwards = record { same = λ x. le-leb x x (omega arith); chain = λ x y z a b. le-leb x z (omega (arith, leb-true x y a, leb-true y z b)) }

downwards : IsOrder ge
downwards = record { same = λ x. le-leb x x (omega arith); chain = λ x y z a b. le-leb z x (omega (arith, leb-true y x a, leb-true z y b)) }

sizes-up : in_order leb 0 sizes ≡ true
unfolding sizes
sizes-up = refl

sizes-down : in_order ge 6144 (reverse sizes) ≡ true
unfolding sizes
sizes-down = refl

Contains-reverse : (xs : List ℕ) (y : ℕ) → Contains xs y → Contains (reverse xs) y
Contains-reverse xs y h =
    let place : ℕ = length xs - 1 - h.0 in
    let within : h.0 < length xs = h.1 in
    let long : length (reverse xs) ≡ length xs = length-reverse xs in
    let read : get_or (reverse xs) place y ≡ get_or xs (length xs - 1 - place) y = get_or-reverse xs place y (omega (arith, within)) in
    (place, omega (arith, long, within), read ∙ (ap (λ (k : ℕ). get_or xs k y) (let e : length xs - 1 - place ≡ h.0 = omega (arith, within) in e) ∙ h.2))

Contains-of_reverse : (xs : List ℕ) (y : ℕ) → Contains (reverse xs) y → Contains xs y
Contains-of_reverse xs y h =
    let within : h.0 < length xs = (let lt : h.0 < length (reverse xs) = h.1 in omega (arith, lt, length-reverse xs)) in
    (length xs - 1 - h.0, omega (arith, within), sym (get_or-reverse xs h.0 y within) ∙ h.2)

-- ---- K+

quotient-le : (n c k : ℕ) → 1 ≤ c → div_ceil n c ≤ k → n ≤ c * k
quotient-le n c k some h =
    let bounds = div_ceil_times n c (omega (arith, some)) in
    let le : div_ceil n c * c ≤ k * c = mul-le-mul_right c h in
    let e : k * c ≡ c * k = omega arith in
    omega (arith, bounds.0, le, e)

le-quotient : (n c k : ℕ) → 1 ≤ c → n ≤ c * k → div_ceil n c ≤ k
le-quotient n c k some h =
    elim (cases_lt k (div_ceil n c)) [
      | inr le ↦ le
      | inl lt ↦ absurd (
          let bounds = div_ceil_times n c (omega (arith, some)) in
          let le : (k + 1) * c ≤ div_ceil n c * c = mul-le-mul_right c (let l : k + 1 ≤ div_ceil n c = omega (arith, lt) in l) in
          let e : (k + 1) * c ≡ c * k + c = omega arith in
          omega (arith, bounds.1, le, e, h))
    ]

pub larger-found : (c n k : ℕ) → 1 ≤ c → find (λ size. nat_le (div_ceil n c) size) sizes ≡ Some k → k ≡ larger_size c n
larger-found c n k some e =
    let h = found-first leb upwards (λ size. nat_le (div_ceil n c) size) 0 sizes sizes-up k e in
    least-one (λ size. nat_le n (c * size)) sizes k (record {
      inside = h.inside;
      pass = le-leb n (c * k) (quotient-le n c k some (leb-true (div_ceil n c) k h.pass));
      least = λ y inside ok. leb-true k y (h.first y inside (le-leb (div_ceil n c) y (le-quotient n c y some (leb-true n (c * y) ok))));
    })

pub larger-some : (c n : ℕ) → 1 ≤ c → n ≤ c * 6144 → find (λ size. nat_le (div_ceil n c) size) sizes ≡ None → ⊥
larger-some c n some room e = found-some (λ size. nat_le (div_ceil n c) size) sizes 6144 size_6144 (le-leb (div_ceil n c) 6144 (le-quotient n c 6144 some room)) e

-- ---- K-

pub smaller-found : (limit k : ℕ) → find (λ size. nat_lt size limit) (reverse sizes) ≡ Some k → k ≡ greatest (filter (λ size. nat_lt size limit) sizes)
smaller-found limit k e =
    let h = found-first ge downwards (λ size. nat_lt size limit) 6144 (reverse sizes) sizes-down k e in
    greatest-one (λ size. nat_lt size limit) sizes k (record {
      inside = Contains-of_reverse sizes k h.inside;
      pass = h.pass;
      greatest = λ y inside ok. leb-true y k (h.first y (Contains-reverse sizes y inside) ok);
    })

pub smaller-some : (limit : ℕ) → 40 < limit → find (λ size. nat_lt size limit) (reverse sizes) ≡ None → ⊥
smaller-some limit h e = found-some (λ size. nat_lt size limit) (reverse sizes) 40 (Contains-reverse sizes 40 size_40) (lt-ltb 40 limit h) e

pub is_some : (o : Option ℕ) → (o ≡ None → ⊥) → IsSome o
is_some (Some k) h = refl
is_some None h = absurd (h refl)
