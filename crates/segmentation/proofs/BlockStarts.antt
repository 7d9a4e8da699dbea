-- Where the blocks begin in S, in closed form, and that they begin and end at whole bytes.
use Rattle.std.proofs.Common.{◌≡◌, ℕ, zero, suc, ◌+◌, ◌-◌, ◌*◌, ◌%◌, ◌<◌, ◌≤◌, Contains, refl, sym, ap, ◌∙◌, subst, inl, inr, arith}
use Rattle.std.proofs.lemmas.Bool.{cases_lt, ltb-true}
use Rattle.model_sender.specs.Interleaver.{sizes}
use Rattle.model_sender.specs.Segmentation.{Plan, bits_of, count_of, check_length, size, fill}
use Rattle.model_sender.specs.CodeBlocks.{before, share}
use Rattle.model_sender.proofs.PlanLaws.{IsSound, plan-count}
use Rattle.model_sender.proofs.PlanShares.{check_length-alone, check_length-several, size-smaller, size-larger, before-more, before-whole}
use Rattle.model_sender.proofs.SizeTable.{size-whole}
use Rattle.segmentation.specs.Cutting.{bytes_before}
use Rattle.segmentation.specs.Plans.{IsPlan}
use Rattle.segmentation.proofs.BlockSizes.{block-size, before-le, fillers-few}
use Rattle.segmentation.proofs.OfPlans.{sound-plan}
use Rattle.segmentation.proofs.WholeBits.{fillers-fit}

-- ---- in closed form

one_more : (r x b s : ℕ) → b ≡ r * x → s ≡ x → b + s ≡ suc r * x
one_more r x b s is own = omega (arith, is, own)

pub before-smaller : (p : Plan) (r : ℕ) → r ≤ p.c_minus → before p r ≡ r * (p.k_minus - check_length p.c)
before-smaller p zero le = let e : 0 ≡ 0 * (p.k_minus - check_length p.c) = omega arith in e
before-smaller p (suc r) le =
    let own : share p r ≡ p.k_minus - check_length p.c = ap (λ (k : ℕ). k - check_length p.c) (size-smaller p r (omega (arith, le))) in
    ap (before p) (let e : suc r ≡ r + 1 = omega arith in e)
    ∙ before-more p r
    ∙ one_more r (p.k_minus - check_length p.c) (before p r) (share p r) (before-smaller p r (omega (arith, le))) own

pub before-larger : (p : Plan) (n : ℕ) → before p (p.c_minus + n) ≡ p.c_minus * (p.k_minus - check_length p.c) + n * (p.k_plus - check_length p.c)
before-larger p zero =
    ap (before p) (let e : p.c_minus + 0 ≡ p.c_minus = omega arith in e)
    ∙ before-smaller p p.c_minus (omega arith)
    ∙ (let y : ℕ = p.k_plus - check_length p.c in let x : ℕ = p.c_minus * (p.k_minus - check_length p.c) in let e : x ≡ x + 0 * y = omega arith in e)
before-larger p (suc n) =
    let x : ℕ = p.c_minus * (p.k_minus - check_length p.c) in
    let y : ℕ = p.k_plus - check_length p.c in
    let own : share p (p.c_minus + n) ≡ y = ap (λ (k : ℕ). k - check_length p.c) (size-larger p (p.c_minus + n) (omega arith)) in
    let so : before p (p.c_minus + n) ≡ x + n * y = before-larger p n in
    let next : n * y + y ≡ suc n * y = omega arith in
    ap (before p) (let e : p.c_minus + suc n ≡ p.c_minus + n + 1 = omega arith in e)
    ∙ before-more p (p.c_minus + n)
    ∙ omega (arith, so, own, next)

-- ---- whole bytes

-- sizes and shares are multiples of 8
size-eights : (p : Plan) (r : ℕ) → IsPlan p → r < p.c → size p r % 8 ≡ 0
size-eights p r is below =
    let sound = sound-plan p is in
    size-whole (size p r) (elim (cases_lt r p.c_minus) [
      | inl h ↦
          let several = sound.several (omega (arith, h, sound.smaller_few)) in
          subst (λ (k : ℕ). Contains sizes k) (sym (size-smaller p r h)) several.smaller.inside
      | inr h ↦ subst (λ (k : ℕ). Contains sizes k) (sym (size-larger p r h)) sound.larger.inside
    ])

own-eights : (c : ℕ) → check_length c % 8 ≡ 0
own-eights c = elim (cases_lt 1 c) [ inl h ↦ omega (arith, check_length-several c h) | inr h ↦ omega (arith, check_length-alone c h) ]

share-eights : (p : Plan) (r : ℕ) → IsPlan p → r < p.c → share p r % 8 ≡ 0
share-eights p r is below = omega (arith, size-eights p r is below, own-eights p.c, (block-size p r is).own)

before-eights : (p : Plan) (r : ℕ) → IsPlan p → r ≤ p.c → before p r % 8 ≡ 0
before-eights p zero is le = refl
before-eights p (suc r) is le =
    let more : before p (suc r) ≡ before p r + share p r = ap (before p) (let e : suc r ≡ r + 1 = omega arith in e) ∙ before-more p r in
    omega (arith, more, before-eights p r is (omega (arith, le)), share-eights p r is (omega (arith, le)))

-- all shares hold the fillers, the payload and its check bits
before-end : (p : Plan) → IsPlan p → before p p.c ≡ 8 * p.bytes + 24 + p.f
before-end p is =
    let base = sound-plan p is in
    let count : p.c ≡ count_of (bits_of p.bytes) = ap (λ (q : Plan). q.c) is.planned ∙ plan-count p.bytes in
    let sound : IsSound (bits_of p.bytes + p.c * check_length p.c) p = subst (λ (c : ℕ). IsSound (bits_of p.bytes + c * check_length c) p) (sym count) base in
    before-whole (bits_of p.bytes) p sound

fillers-eights : (p : Plan) → IsPlan p → p.f % 8 ≡ 0
fillers-eights p is = omega (arith, before-end p is, before-eights p p.c is (omega arith))

-- a block begins within the payload
begins : (p : Plan) (r : ℕ) → IsPlan p → r < p.c → before p r ≤ 8 * p.bytes + p.f
begins p zero is below = omega arith
begins p (suc r) is below =
    let several = (sound-plan p is).several (omega (arith, below)) in
    let own : check_length p.c ≡ 24 = check_length-several p.c (omega (arith, below)) in
    let larger : p.k_minus < p.k_plus = ltb-true p.k_minus p.k_plus several.smaller.pass in
    let large : 100 ≤ size p (suc r) = elim (cases_lt (suc r) p.c_minus) [ inl h ↦ omega (arith, size-smaller p (suc r) h, several.large) | inr h ↦ omega (arith, size-larger p (suc r) h, several.large, larger) ] in
    omega (arith, before-end p is, before-le p (suc r + 1) p.c (omega (arith, below)), before-more p (suc r), own, large)

-- the bytes of block r: their number times eight, and that they are there
pub record IsAt (p : Plan) (r : ℕ) : Type 0 where
  pub first : 8 * bytes_before p r ≡ before p r - p.f
  pub next : 8 * bytes_before p (r + 1) ≡ before p (r + 1) - p.f
  pub begun : bytes_before p r ≤ p.bytes
  pub later : bytes_before p r ≤ bytes_before p (r + 1)
  pub own : before p (r + 1) ≡ before p r + share p r
  pub fits : fill p r ≤ share p r
  pub start : r ≡ 0 → before p r ≡ 0
  pub after : 0 < r → p.f ≤ before p r
  pub inside : r + 1 < p.c → bytes_before p (r + 1) ≤ p.bytes
  pub last : r + 1 ≡ p.c → before p (r + 1) ≡ 8 * p.bytes + 24 + p.f

pub is-at : (p : Plan) (r : ℕ) → IsPlan p → r < p.c → IsAt p r
is-at p r is below =
    let f8 = fillers-eights p is in
    let more = before-more p r in
    let few = fillers-few p is in
    let first : 8 * bytes_before p r ≡ before p r - p.f = omega (arith, f8, before-eights p r is (omega (arith, below))) in
    let next : 8 * bytes_before p (r + 1) ≡ before p (r + 1) - p.f = omega (arith, f8, before-eights p (r + 1) is (omega (arith, below))) in
    record {
      first = first;
      next = next;
      begun = omega (arith, first, begins p r is below);
      later = omega (arith, more);
      own = more;
      fits = omega (arith, fillers-fit p r is);
      start = λ h. ap (before p) h;
      after = λ h. omega (arith, before-more p 0, before-le p 1 r (omega (arith, h)), few);
      inside = λ h. omega (arith, next, begins p (r + 1) is h);
      last = λ h. ap (before p) h ∙ before-end p is;
    }

-- ---- as they are computed

-- the numbers are small
pub before-few : (p : Plan) (r : ℕ) → IsPlan p → r ≤ p.c → before p r ≤ 155944
before-few p r is le = omega (arith, before-le p r p.c le, before-end p is, fillers-few p is, (block-size p 0 is).most, is.few)

-- sizes hold the own check bits
pub record HoldsOwn (p : Plan) : Type 0 where
  pub smaller : check_length p.c ≤ p.k_minus
  pub larger : check_length p.c ≤ p.k_plus

pub holds-own : (p : Plan) → IsPlan p → HoldsOwn p
holds-own p is =
    let sound = sound-plan p is in
    elim (cases_lt 1 p.c) [
      | inl two ↦
          let several = sound.several two in
          let own = check_length-several p.c two in
          record { smaller = omega (arith, own, several.large); larger = omega (arith, own, several.large, ltb-true p.k_minus p.k_plus several.smaller.pass) }
      | inr one ↦ (let own = check_length-alone p.c one in record { smaller = omega (arith, own); larger = omega (arith, own) })
    ]
