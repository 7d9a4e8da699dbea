-- What a lawful plan has of the plan of its payload.
use Rattle.std.proofs.Common.{ℕ, ◌≡◌, ◌≤◌, sym, ap, ◌∙◌, subst, arith}
use Rattle.model_sender.specs.Segmentation.{Plan, bits_of, carried, plan_of}
use Rattle.model_sender.proofs.PlanLaws.{IsSound, plan-bytes, plan-sound}
use Rattle.segmentation.specs.Plans.{IsPlan}

-- what is true of the plan of so many bytes
pub of_length : (P : Plan → Type 0) (p : Plan) (bytes : ℕ) → IsPlan p → p.bytes ≡ bytes → (1 ≤ bytes → bytes ≤ 18722 → P (plan_of bytes)) → P p
of_length P p bytes is same law = subst P (sym (is.planned ∙ ap plan_of same)) (law (omega (arith, same, is.some)) (omega (arith, same, is.few)))

pub is_plan : (bytes : ℕ) → 1 ≤ bytes → bytes ≤ 18722 → IsPlan (plan_of bytes)
is_plan bytes some few =
    record {
      some = omega (arith, plan-bytes bytes, some);
      few = omega (arith, plan-bytes bytes, few);
      planned = ap plan_of (sym (plan-bytes bytes));
    }

pub sound-plan : (p : Plan) → IsPlan p → IsSound (carried (bits_of p.bytes)) p
sound-plan p is = subst (λ (q : Plan). IsSound (carried (bits_of p.bytes)) q) (sym is.planned) (plan-sound p.bytes is.some is.few)

abbrev at : ℕ → ℕ → ℕ → ℕ → ℕ → ℕ → ℕ → Plan
at bytes c k_plus k_minus c_plus c_minus f = record { bytes = bytes; c = c; k_plus = k_plus; k_minus = k_minus; c_plus = c_plus; c_minus = c_minus; f = f }

-- plans of the same numbers are the same
pub same_plan : (p q : Plan) → p.bytes ≡ q.bytes → p.c ≡ q.c → p.k_plus ≡ q.k_plus → p.k_minus ≡ q.k_minus → p.c_plus ≡ q.c_plus → p.c_minus ≡ q.c_minus → p.f ≡ q.f → p ≡ q
same_plan p q a b c d e f g =
    let same : at p.bytes p.c p.k_plus p.k_minus p.c_plus p.c_minus p.f ≡ at q.bytes q.c q.k_plus q.k_minus q.c_plus q.c_minus q.f = cc (a, b, c, d, e, f, g) in
    same
