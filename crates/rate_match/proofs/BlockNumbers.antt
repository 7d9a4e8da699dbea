-- The numbers of a plan's blocks, as selection needs them.
use Rattle.std.proofs.Common.{◌≡◌, ℕ, zero, suc, ◌+◌, ◌*◌, ◌/◌, ◌<◌, ◌≤◌, nat_lt, Some, Bool, cond, ap, true, Contains, subst, sym, inl, inr, arith}
use Rattle.std.proofs.lemmas.Bool.{cases_lt, ltb-true}
use Rattle.std.proofs.Math.Dec.{eqb-suc-zero}
use Rattle.std.specs.declared.option.Option.{Option}
use Rattle.model_sender.specs.CircularBuffer.{FitsIn, rows_of}
use Rattle.model_sender.specs.Interleaver.{sizes}
use Rattle.model_sender.specs.Segmentation.{Plan, bits_of, carried, check_length, size, fill}
use Rattle.model_sender.proofs.PlanShares.{size-smaller, size-larger, fillers-room}
use Rattle.segmentation.specs.Plans.{IsPlan}
use Rattle.segmentation.proofs.OfPlans.{sound-plan}
use Rattle.rate_match.proofs.SizeSteps.{size-step, places-rise}

pub record IsBlockOf (p : Plan) (r : ℕ) : Type 0 where
  pub some : 1 ≤ p.c
  pub few : p.c ≤ 25
  pub inside : Contains sizes (size p r)
  pub most : size p r ≤ 6144
  pub larger : size p r ≤ p.k_plus
  pub fills : fill p r < size p r

pub block-numbers : (p : Plan) (r : ℕ) → IsPlan p → r < p.c → IsBlockOf p r
block-numbers p r is below =
    let sound = sound-plan p is in
    elim (cases_lt r p.c_minus) [
      | inl h ↦
          let several = sound.several (omega (arith, h, sound.smaller_few)) in
          let own : size p r ≡ p.k_minus = size-smaller p r h in
          let inside : Contains sizes (size p r) = subst (λ (k : ℕ). Contains sizes k) (sym own) several.smaller.inside in
          record {
            some = sound.some;
            few = sound.few;
            inside = inside;
            most = (size-step (size p r) inside).few;
            larger = omega (arith, own, ltb-below p.k_minus p.k_plus several.smaller.pass);
            fills = filled p r (fillers-room (carried (bits_of p.bytes)) p sound) (large (size p r) inside);
          }
      | inr h ↦
          let own : size p r ≡ p.k_plus = size-larger p r h in
          let inside : Contains sizes (size p r) = subst (λ (k : ℕ). Contains sizes k) (sym own) sound.larger.inside in
          record {
            some = sound.some;
            few = sound.few;
            inside = inside;
            most = (size-step (size p r) inside).few;
            larger = omega (arith, own);
            fills = filled p r (fillers-room (carried (bits_of p.bytes)) p sound) (large (size p r) inside);
          }
    ]
  where
    ltb-below : (a b : ℕ) → nat_lt a b ≡ true → a < b
    ltb-below a b e = ltb-true a b e

    large : (k : ℕ) → Contains sizes k → 0 < k
    large k inside = omega (arith, (size-step k inside).some)

    filled : (p : Plan) (r : ℕ) → p.f + check_length p.c < size p 0 → 0 < size p r → fill p r < size p r
    filled p zero first some = omega (arith, first)
    filled p (suc r) first some = (let none : fill p (suc r) ≡ 0 = ap (λ (t : Bool). cond t p.f 0) (eqb-suc-zero r) in omega (arith, some, none))

-- a buffer that keeps v0 of the largest block keeps that of each, in its part of so many values
pub limit-kept : (limit : Option ℕ) (part c k most : ℕ) → Some part ≡ limit → FitsIn limit c most → k ≤ most → 32 * rows_of k ≤ part / c
limit-kept limit part c k most is fits below =
    let part_fits : FitsIn (Some part) c most = subst (λ (l : Option ℕ). FitsIn l c most) (sym is) fits in
    omega (arith, places-rise k most below, part_fits)
