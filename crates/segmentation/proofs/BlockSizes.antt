-- The sizes of a plan's blocks, and where each stands in S.
use Rattle.std.proofs.Common.{◌≡◌, ℕ, zero, suc, ◌+◌, ◌-◌, ◌<◌, ◌≤◌, List, length, sym, subst, inl, inr, arith}
use Rattle.std.proofs.lemmas.Bool.{cases_lt}
use Rattle.model_sender.specs.Segmentation.{Plan, bits_of, carried, check_length, plan_of, size}
use Rattle.model_sender.specs.CodeBlocks.{before, share, sequence}
use Rattle.model_sender.proofs.PlanShares.{size-smaller, size-larger, size-room, fillers-room, before-more, before-all}
use Rattle.segmentation.specs.Plans.{IsPlan}
use Rattle.segmentation.proofs.Computed.{IsSmall, plan-small}
use Rattle.segmentation.proofs.OfPlans.{sound-plan}

-- a size holds the block's own check bits, and is at most 6144
pub record IsSize (p : Plan) (r : ℕ) : Type 0 where
  pub own : check_length p.c ≤ size p r
  pub most : size p r ≤ 6144

pub block-size : (p : Plan) (r : ℕ) → IsPlan p → IsSize p r
block-size p r is =
    let small = subst (λ (q : Plan). IsSmall p.bytes q) (sym is.planned) (plan-small p.bytes is.some is.few) in
    record {
      own = size-room (carried (bits_of p.bytes)) p r (sound-plan p is);
      most = elim (cases_lt r p.c_minus) [ inl h ↦ omega (arith, size-smaller p r h, small.apart, small.size) | inr h ↦ omega (arith, size-larger p r h, small.size) ];
    }

-- fillers and check bits together are below the size of block 0
pub fillers-few : (p : Plan) → IsPlan p → p.f + check_length p.c < size p 0
fillers-few p is = fillers-room (carried (bits_of p.bytes)) p (sound-plan p is)

-- later blocks stand after
pub before-le : (p : Plan) (a b : ℕ) → a ≤ b → before p a ≤ before p b
before-le p a b le = subst (λ (n : ℕ). before p a ≤ before p n) (let e : a + (b - a) ≡ b = omega (arith, le) in e) (further (b - a))
  where
    further : (n : ℕ) → before p a ≤ before p (a + n)
    further zero = subst (λ (m : ℕ). before p a ≤ before p m) (let e : a ≡ a + 0 = omega arith in e) (let same : before p a ≤ before p a = omega arith in same)
    further (suc n) = subst (λ (m : ℕ). before p a ≤ before p m) (let e : a + n + 1 ≡ a + suc n = omega arith in e) (omega (arith, further n, before-more p (a + n)))

-- and all within S
pub before-within : (payload : List ℕ) (r : ℕ) → 1 ≤ length payload → length payload ≤ 18722 → r < (plan_of (length payload)).c
    → before (plan_of (length payload)) r + share (plan_of (length payload)) r ≤ length (sequence (plan_of (length payload)) payload)
before-within payload r some few below =
    let p : Plan = plan_of (length payload) in
    omega (arith, before-more p r, before-le p (r + 1) p.c (omega (arith, below)), before-all payload some few)
