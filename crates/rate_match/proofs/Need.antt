-- A longer transport block needs no smaller buffer: C times 32R of K+ doesn't fall with the length.
use Rattle.std.proofs.Common.{◌≡◌, ℕ, ◌+◌, ◌-◌, ◌*◌, ◌/◌, ◌%◌, ◌<◌, ◌≤◌, ◌⊎◌, nat_le, Bool, true, false, cond, min, refl, sym, Some, None, ap, ◌∙◌, subst, inl, inr, arith}
use Rattle.std.specs.Int.{div_ceil}
use Rattle.std.proofs.lemmas.Bool.{cases_lt, leb-true, leb-false, le-leb, lt-ltb}
use Rattle.std.proofs.lemmas.Nat.{mod_below}
use Rattle.std.proofs.Math.Nat.{div-add-mod, mul-le-mul_left}
use Rattle.model_sender.specs.Segmentation.{bits_of, count_of, check_length, carried, plan_of}
use Rattle.std.specs.declared.option.Option.{Option}
use Rattle.model_sender.specs.Interleaver.{sizes}
use Rattle.model_sender.specs.CircularBuffer.{rows_of, FitsIn}
use Rattle.model_sender.proofs.Extremes.{IsLeastPassing}
use Rattle.model_sender.proofs.PlanLaws.{plan-sound, plan-count}
use Rattle.rate_match.proofs.SizeSteps.{size-step, places-most, places-whole, places-rise}

-- ---- the number of blocks of b bits

record IsOne (b c : ℕ) : Type 0 where
  few : b ≤ 6144
  is : c ≡ 1

record IsMore (b c : ℕ) : Type 0 where
  many : 6144 < b
  two : 2 ≤ c
  above : 6120 * c < b + 6120
  room : b ≤ 6120 * c

counted : (b : ℕ) → IsOne b (count_of b) ⊎ IsMore b (count_of b)
counted b = by_test (nat_le b 6144) refl
  where
    by_test : (t : Bool) → nat_le b 6144 ≡ t → IsOne b (cond t 1 (div_ceil b (6144 - 24))) ⊎ IsMore b (cond t 1 (div_ceil b (6144 - 24)))
    by_test true e = inl (record { few = leb-true b 6144 e; is = refl })
    by_test false e =
        let large : 6144 < b = leb-false b 6144 e in
        let whole : 6120 * (b / 6120) + b % 6120 ≡ b = div-add-mod b 6120 in
        let rest : b % 6120 < 6120 = mod_below b 6120 (omega arith) in
        let is : div_ceil b 6120 ≡ b / 6120 + min 1 (b % 6120) = refl in
        inr (record {
          many = large;
          two = omega (arith, large, whole, rest, is);
          above = omega (arith, whole, rest, is);
          room = omega (arith, whole, rest, is);
        })

-- ---- the need of a plan

abbrev need : ℕ → ℕ → ℕ
need c k = c * (32 * rows_of k)

-- of C blocks it is at most that of blocks of 6144 bits
need-most : (c k : ℕ) → k ≤ 6144 → need c k ≤ c * 6176
need-most c k few = mul-le-mul_left c (places-most k few)

-- of several blocks it is at least that of their bits
need-least : (b c k : ℕ) → 2 ≤ c → 6120 * c < b + 6120 → b + 24 * c ≤ c * k → (1024 < k → k % 32 ≡ 0) → b + 56 * c ≤ need c k
need-least b c k two above room whole =
    let large : 1024 < k = elim (cases_lt 1024 k) [ inl h ↦ h | inr h ↦ absurd (let le : c * k ≤ c * 1024 = mul-le-mul_left c h in omega (arith, le, two, above, room)) ] in
    let places : need c k ≡ c * (k + 32) = ap (λ (n : ℕ). c * n) (places-whole k (whole large)) in
    let spread : c * (k + 32) ≡ c * k + 32 * c = omega arith in
    omega (arith, places, spread, room)

carried-more : (b c : ℕ) → count_of b ≡ c → 2 ≤ c → carried b ≡ b + 24 * c
carried-more b c is two =
    let own : check_length c ≡ 24 = ap (λ (t : Bool). cond t 24 0) (lt-ltb 1 c (omega (arith, two))) in
    let all : count_of b * check_length (count_of b) ≡ c * 24 = ap (λ (n : ℕ). n * check_length n) is ∙ ap (λ (l : ℕ). c * l) own in
    omega (arith, all)

-- what the proof uses of the plan of a length
record IsNeed (b c k : ℕ) : Type 0 where
  few : k ≤ 6144
  counts : IsOne b c ⊎ IsMore b c
  least : IsMore b c → b + 56 * c ≤ need c k

needed : (bytes : ℕ) → 1 ≤ bytes → bytes ≤ 18722 → IsNeed (bits_of bytes) (plan_of bytes).c (plan_of bytes).k_plus
needed bytes some few =
    let sound = plan-sound bytes some few in
    let b : ℕ = bits_of bytes in
    let c : ℕ = (plan_of bytes).c in
    let k : ℕ = (plan_of bytes).k_plus in
    let is : c ≡ count_of b = plan-count bytes in
    let step = size-step k sound.larger.inside in
    let room : carried b ≤ c * k = leb-true (carried b) (c * k) sound.larger.pass in
    record {
      few = step.few;
      counts = (let P : ℕ → Type 0 = λ n. IsOne b n ⊎ IsMore b n in subst P (sym is) (counted b));
      least = λ more. need-least b c k more.two more.above (omega (arith, room, carried-more b c (sym is) more.two)) step.whole;
    }

-- ---- two lengths

same_count : (c d j k : ℕ) → c ≡ d → j ≤ k → need c j ≤ need d k
same_count c d j k same le = subst (λ (n : ℕ). need c j ≤ need n k) same (mul-le-mul_left c (places-rise j k le))

more_blocks : (a b c d j k : ℕ) → j ≤ 6144 → c < d → 6120 * d < b + 6120 → b + 56 * d ≤ need d k → need c j ≤ need d k
more_blocks a b c d j k few less above least = omega (arith, need-most c j few, less, above, least)

rises : (a b c d j k : ℕ) → IsNeed a c j → IsNeed b d k → a ≤ b → (c ≡ d → j ≤ k) → need c j ≤ need d k
rises a b c d j k first second le by_same =
    elim first.counts [
      | inl one ↦ elim second.counts [
        | inl other ↦ (let e : c ≡ d = one.is ∙ sym other.is in same_count c d j k e (by_same e))
        | inr more ↦ more_blocks a b c d j k first.few (omega (arith, one.is, more.two)) more.above (second.least more)
      ]
      | inr several ↦ elim second.counts [
        | inl other ↦ absurd (omega (arith, several.many, other.few, le))
        | inr more ↦ elim (cases_lt c d) [
          | inl less ↦ more_blocks a b c d j k first.few less more.above (second.least more)
          | inr ge ↦ (let e : c ≡ d = omega (arith, ge, several.above, more.room, le) in same_count c d j k e (by_same e))
        ]
      ]
    ]

-- the need of a shorter transport block is no greater
pub need-rises : (a b : ℕ) → 1 ≤ a → a ≤ b → b ≤ 18722 →
    (plan_of a).c * (32 * rows_of (plan_of a).k_plus) ≤ (plan_of b).c * (32 * rows_of (plan_of b).k_plus)
need-rises a b some le few =
    let fewer : a ≤ 18722 = omega (arith, le, few) in
    let more : 1 ≤ b = omega (arith, some, le) in
    let first = plan-sound a some fewer in
    let second = plan-sound b more few in
    rises (bits_of a) (bits_of b) (plan_of a).c (plan_of b).c (plan_of a).k_plus (plan_of b).k_plus
    (needed a some fewer) (needed b more few) (omega (arith, le))
    (λ same. larger-rises (carried (bits_of a)) (carried (bits_of b)) (plan_of a).c (plan_of b).c (plan_of a).k_plus (plan_of b).k_plus same
    (carried-rises (bits_of a) (bits_of b) (omega (arith, le)) (sym (plan-count a) ∙ same ∙ plan-count b)) first.larger second.larger)
  where
    carried-rises : (m n : ℕ) → m ≤ n → count_of m ≡ count_of n → carried m ≤ carried n
    carried-rises m n le same = (let all : count_of m * check_length (count_of m) ≡ count_of n * check_length (count_of n) = ap (λ (c : ℕ). c * check_length c) same in omega (arith, all, le))

    larger-rises : (m n c d j k : ℕ) → c ≡ d → m ≤ n → IsLeastPassing (λ x. nat_le m (c * x)) sizes j → IsLeastPassing (λ x. nat_le n (d * x)) sizes k → j ≤ k
    larger-rises m n c d j k same le first second =
        let room : n ≤ d * k = leb-true n (d * k) second.pass in
        let all : c * k ≡ d * k = ap (λ (x : ℕ). x * k) same in
        first.least k second.inside (le-leb m (c * k) (omega (arith, room, all, le)))

-- ---- the part of a block

-- x fits into the c-th part of a limit where c of them fit into all of it
pub part-fits : (c x limit : ℕ) → 1 ≤ c → c * x ≤ limit → x ≤ limit / c
part-fits c x limit some room =
    elim (cases_lt (limit / c) x) [
      | inr h ↦ h
      | inl less ↦ absurd (
          let le : c * (limit / c + 1) ≤ c * x = mul-le-mul_left c (let h : limit / c + 1 ≤ x = omega (arith, less) in h) in
          let spread : c * (limit / c + 1) ≡ c * (limit / c) + c = omega arith in
          let whole : c * (limit / c) + limit % c ≡ limit = div-add-mod limit c in
          let rest : limit % c < c = mod_below limit c some in
          omega (arith, le, spread, whole, rest, room))
    ]

pub part-room : (c x limit : ℕ) → x ≤ limit / c → c * x ≤ limit
part-room c x limit fits =
    let le : c * x ≤ c * (limit / c) = mul-le-mul_left c fits in
    let whole : c * (limit / c) + limit % c ≡ limit = div-add-mod limit c in
    omega (arith, le, whole)

-- a buffer that fits the plan of tb bytes fits that of fewer
pub fits_fewer : (limit : Option ℕ) (a b : ℕ) → 1 ≤ a → a ≤ b → b ≤ 18722 →
    FitsIn limit (plan_of b).c (plan_of b).k_plus → FitsIn limit (plan_of a).c (plan_of a).k_plus
fits_fewer None a b some le few fits = tt
fits_fewer (Some limit) a b some le few fits =
    let room : (plan_of b).c * (32 * rows_of (plan_of b).k_plus) ≤ limit = part-room (plan_of b).c (32 * rows_of (plan_of b).k_plus) limit fits in
    part-fits (plan_of a).c (32 * rows_of (plan_of a).k_plus) limit (plan-sound a some (omega (arith, le, few))).some (omega (arith, room, need-rises a b some le few))
