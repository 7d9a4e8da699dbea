-- Paths that are joined or cut.
use Rattle.std.proofs.Common.{◌≡◌, ℕ, suc, zero, ◌+◌, List, [], ◌∷◌, ◌++◌, length, ◌+ℤ◌, refl, ap, ◌∙◌, arith}
use Rattle.std.proofs.lemmas.Int.{ints}
use Rattle.lte_bits.specs.declared.bit.Bit.{Bit}
use Rattle.model_sender.specs.Bits.{at}
use Rattle.model_sender.specs.ConstituentCoder.{State, next}
use Rattle.model_sender.specs.Tail.{reached}
use Rattle.model_receiver.specs.Paths.{Gain, earned}

pub reached-append : (s : State) (us vs : List Bit) → reached s (us ++ vs) ≡ reached (reached s us) vs
reached-append s [] vs = refl
reached-append s (u ∷ us) vs = reached-append (next s u) us vs

pub earned-append : (g : Gain) (j : ℕ) (s : State) (us vs : List Bit) (n : ℕ) → length us ≡ n → earned g j s (us ++ vs) ≡ earned g j s us +ℤ earned g (j + n) (reached s us) vs
earned-append g j s [] vs n h =
    let e : j ≡ j + n = omega (arith, h) in
    let f : earned g j s vs ≡ earned g (j + n) s vs = ap (λ i. earned g i s vs) e in
    omega (arith, ints, f)
earned-append g j s (u ∷ us) vs zero h = absurd (omega (arith, h))
earned-append g j s (u ∷ us) vs (suc n) h =
    let i : earned g (suc j) (next s u) (us ++ vs) ≡ earned g (suc j) (next s u) us +ℤ earned g (suc j + n) (reached (next s u) us) vs =
    earned-append g (suc j) (next s u) us vs n (omega (arith, h)) in
    let e : suc j + n ≡ j + suc n = omega arith in
    let f : earned g (suc j + n) (reached (next s u) us) vs ≡ earned g (j + suc n) (reached (next s u) us) vs = ap (λ i. earned g i (reached (next s u) us) vs) e in
    omega (arith, ints, i, f)

pub earned-from_zero : (g : Gain) (s : State) (us vs : List Bit) (n : ℕ) → length us ≡ n → earned g 0 s (us ++ vs) ≡ earned g 0 s us +ℤ earned g n (reached s us) vs
earned-from_zero g s us vs n h =
    earned-append g 0 s us vs n h ∙ ap (λ i. earned g 0 s us +ℤ earned g i (reached s us) vs) (let e : 0 + n ≡ n = omega arith in e)

-- a list in two parts, the first of j bits
pub record Cut (us : List Bit) (j n : ℕ) : Type 0 where
  pub front : List Bit
  pub rest : List Bit
  pub is : us ≡ front ++ rest
  pub front_long : length front ≡ j
  pub rest_long : length rest ≡ n

pub cut : (us : List Bit) (j n : ℕ) → length us ≡ j + n → Cut us j n
cut us zero n h = record { front = []; rest = us; is = refl; front_long = refl; rest_long = omega (arith, h) }
cut [] (suc j) n h = absurd (omega (arith, h))
cut (u ∷ us) (suc j) n h =
    let w : Cut us j n = cut us j n (omega (arith, h)) in
    record { front = u ∷ w.front; rest = w.rest; is = ap (λ v. u ∷ v) w.is; front_long = ap suc w.front_long; rest_long = w.rest_long }

-- a list with b at place j
pub record Around (us : List Bit) (j n : ℕ) (b : Bit) : Type 0 where
  pub front : List Bit
  pub rest : List Bit
  pub is : us ≡ front ++ b ∷ rest
  pub front_long : length front ≡ j
  pub rest_long : length rest ≡ n

pub around : (us : List Bit) (j n : ℕ) (b : Bit) → length us ≡ j + suc n → at us j ≡ b → Around us j n b
around [] j n b h e = absurd (omega (arith, h))
around (u ∷ us) zero n b h e = record { front = []; rest = us; is = ap (λ v. v ∷ us) e; front_long = refl; rest_long = omega (arith, h) }
around (u ∷ us) (suc j) n b h e =
    let w : Around us j n b = around us j n b (omega (arith, h)) e in
    record { front = u ∷ w.front; rest = w.rest; is = ap (λ v. u ∷ v) w.is; front_long = ap suc w.front_long; rest_long = w.rest_long }

pub at-middle : (front rest : List Bit) (b : Bit) (j : ℕ) → length front ≡ j → at (front ++ b ∷ rest) j ≡ b
at-middle [] rest b zero h = refl
at-middle [] rest b (suc j) h = absurd (omega (arith, h))
at-middle (u ∷ front) rest b zero h = absurd (omega (arith, h))
at-middle (u ∷ front) rest b (suc j) h = at-middle front rest b j (omega (arith, h))
