-- The numbers of a plan, one after the other.
use Rattle.std.proofs.Common.{◌≡◌, ℕ, ◌+◌, ◌-◌, ◌*◌, ◌<◌, ◌≤◌, nat_lt, Bool, cond, filter, refl, ap, ◌∙◌, inl, inr, arith}
use Rattle.std.proofs.lemmas.Bool.{cases_lt, eq-eqb, leb-true, ltb-true}
use Rattle.std.proofs.Math.Nat.{mul-le-mul_left}
use Rattle.model_sender.specs.Bits.{greatest}
use Rattle.model_sender.specs.Interleaver.{sizes}
use Rattle.model_sender.specs.Segmentation.{Plan, bits_of, count_of, check_length, carried, larger_size, smaller_size, smaller_count, plan_of}
use Rattle.model_sender.proofs.PlanLaws.{IsSound, plan-sound}
use Rattle.model_sender.proofs.RowLaws.{range-of_size}

-- ---- each is that of the plan

pub count-is : (bytes c : ℕ) → c ≡ count_of (8 * bytes + 24) → c ≡ (plan_of bytes).c
unfolding plan_of
count-is bytes c e = e

pub carried-is : (bytes c l : ℕ) → c ≡ count_of (8 * bytes + 24) → l ≡ check_length c → 8 * bytes + 24 + c * l ≡ carried (bits_of bytes)
carried-is bytes c l e own = ap (λ (m : ℕ). 8 * bytes + 24 + c * m) own ∙ ap (λ (m : ℕ). 8 * bytes + 24 + m * check_length m) e

pub larger-is : (bytes c n k : ℕ) → c ≡ count_of (8 * bytes + 24) → n ≡ carried (bits_of bytes) → k ≡ larger_size c n → k ≡ (plan_of bytes).k_plus
unfolding plan_of
larger-is bytes c n k e bits size = size ∙ (ap (λ (m : ℕ). larger_size c m) bits ∙ ap (λ (m : ℕ). larger_size m (carried (bits_of bytes))) e)

pub smaller-is : (bytes c k j : ℕ) → c ≡ count_of (8 * bytes + 24) → k ≡ (plan_of bytes).k_plus → j ≡ smaller_size c k → j ≡ (plan_of bytes).k_minus
unfolding plan_of
smaller-is bytes c k j e larger size = size ∙ (ap (λ (m : ℕ). smaller_size c m) larger ∙ ap (λ (m : ℕ). smaller_size m (larger_size (count_of (bits_of bytes)) (carried (bits_of bytes)))) e)

abbrev pub count_at : (c n k j : ℕ) → ℕ
count_at c n k j = smaller_count (record { c = c; bits = n; k_plus = k; k_minus = j })

pub smaller_count-is : (bytes c n k j m : ℕ) → c ≡ count_of (8 * bytes + 24) → n ≡ carried (bits_of bytes) → k ≡ (plan_of bytes).k_plus → j ≡ (plan_of bytes).k_minus
    → m ≡ count_at c n k j → m ≡ (plan_of bytes).c_minus
unfolding plan_of
smaller_count-is bytes c n k j m e bits larger smaller count =
    let p : Plan = plan_of bytes in
    count
    ∙ (ap (λ (x : ℕ). count_at x n k j) e
    ∙ (ap (λ (x : ℕ). count_at (count_of (bits_of bytes)) x k j) bits
    ∙ (ap (λ (x : ℕ). count_at (count_of (bits_of bytes)) (carried (bits_of bytes)) x j) larger
    ∙ ap (λ (x : ℕ). count_at (count_of (bits_of bytes)) (carried (bits_of bytes)) p.k_plus x) smaller)))

pub larger_count-is : (bytes : ℕ) → (plan_of bytes).c_plus ≡ (plan_of bytes).c - (plan_of bytes).c_minus
unfolding plan_of
larger_count-is bytes = refl

pub fillers-is : (bytes : ℕ) → (plan_of bytes).f ≡ (plan_of bytes).c_plus * (plan_of bytes).k_plus + (plan_of bytes).c_minus * (plan_of bytes).k_minus - carried (bits_of bytes)
unfolding plan_of
fillers-is bytes = refl

-- ---- what the steps ask for

pub record IsSmall (bytes : ℕ) (p : Plan) : Type 0 where
  pub room : carried (bits_of bytes) ≤ p.c * 6144
  pub enough : carried (bits_of bytes) ≤ p.c * p.k_plus
  pub some : 40 ≤ p.k_plus
  pub size : p.k_plus ≤ 6144
  pub several : 1 < p.c → 40 < p.k_plus
  pub apart : p.k_minus < p.k_plus
  pub larger : p.c_plus * p.k_plus ≤ 153600
  pub smaller : p.c_minus * p.k_minus ≤ 153600

alone-none : (bytes : ℕ) → (plan_of bytes).c ≡ 1 → (plan_of bytes).k_minus ≡ 0
unfolding plan_of
alone-none bytes one = ap (λ (t : Bool). cond t 0 (greatest (filter (λ k. nat_lt k (larger_size (count_of (bits_of bytes)) (carried (bits_of bytes)))) sizes)))
    (eq-eqb (count_of (bits_of bytes)) 1 one)

product-le : (a k : ℕ) → a ≤ 25 → k ≤ 6144 → a * k ≤ 153600
product-le a k few size = let x : a * k ≤ a * 6144 = mul-le-mul_left a size in omega (arith, x, few)

pub plan-small : (bytes : ℕ) → 1 ≤ bytes → bytes ≤ 18722 → IsSmall bytes (plan_of bytes)
plan-small bytes some few =
    let p : Plan = plan_of bytes in
    let sound : IsSound (carried (bits_of bytes)) p = plan-sound bytes some few in
    let range = range-of_size p.k_plus sound.larger.inside in
    let enough : carried (bits_of bytes) ≤ p.c * p.k_plus = leb-true (carried (bits_of bytes)) (p.c * p.k_plus) sound.larger.pass in
    let most : p.c * p.k_plus ≤ p.c * 6144 = mul-le-mul_left p.c range.1 in
    let apart : p.k_minus < p.k_plus = elim (cases_lt 1 p.c) [
      | inl two ↦ ltb-true p.k_minus p.k_plus (sound.several two).smaller.pass
      | inr one ↦ omega (arith, alone-none bytes (omega (arith, one, sound.some)), range.0)
    ] in
    record {
      room = omega (arith, enough, most);
      enough = enough;
      some = range.0;
      size = range.1;
      several = λ two. let large = (sound.several two).large in omega (arith, large, apart);
      apart = apart;
      larger = product-le p.c_plus p.k_plus (omega (arith, sound.counts, sound.few)) range.1;
      smaller = product-le p.c_minus p.k_minus (omega (arith, sound.counts, sound.few)) (omega (arith, apart, range.1));
    }

-- ---- all together

-- c blocks of at most k and at least j bits, m of them smaller, carry n bits: they are the plan's numbers
pub record AreThePlan (bytes n c k j m : ℕ) (p : Plan) : Type 0 where
  pub blocks : c ≡ p.c
  pub larger_size : k ≡ p.k_plus
  pub smaller_size : j ≡ p.k_minus
  pub smaller : m ≡ p.c_minus
  pub larger : c - m ≡ p.c_plus
  pub in_larger : (c - m) * k ≤ 153600
  pub in_smaller : m * j ≤ 153600
  pub room : n ≤ (c - m) * k + m * j
  pub fillers : (c - m) * k + m * j - n ≡ p.f

pub are_the_plan : (bytes n c k j m : ℕ) → 1 ≤ bytes → bytes ≤ 18722 → n ≡ carried (bits_of bytes) → c ≡ (plan_of bytes).c → k ≡ (plan_of bytes).k_plus
    → j ≡ (plan_of bytes).k_minus → m ≡ (plan_of bytes).c_minus
    → AreThePlan bytes n c k j m (plan_of bytes)
are_the_plan bytes n c k j m some few bits blocks larger smaller count =
    let p : Plan = plan_of bytes in
    let small = plan-small bytes some few in
    let sound = plan-sound bytes some few in
    let rest : c - m ≡ p.c_plus = omega (arith, blocks, count, larger_count-is bytes) in
    let first : (c - m) * k ≡ p.c_plus * p.k_plus = ap (λ (x : ℕ). x * k) rest ∙ ap (λ (x : ℕ). p.c_plus * x) larger in
    let second : m * j ≡ p.c_minus * p.k_minus = ap (λ (x : ℕ). x * j) count ∙ ap (λ (x : ℕ). p.c_minus * x) smaller in
    record {
      blocks = blocks;
      larger_size = larger;
      smaller_size = smaller;
      smaller = count;
      larger = rest;
      in_larger = omega (arith, first, small.larger);
      in_smaller = omega (arith, second, small.smaller);
      room = omega (arith, first, second, bits, sound.filled);
      fillers = omega (arith, first, second, bits, fillers-is bytes);
    }
