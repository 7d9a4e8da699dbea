use Rattle.std.specs.Prelude.{min}
use Rattle.std.proofs.Common.{◌≡◌, ℕ, ◌+◌, ◌-◌, ◌<◌, ◌≤◌, List, length, take, drop, sym, ap, ◌∙◌, inl, inr, arith}
use Rattle.std.proofs.lemmas.Bool.{cases_lt}
use Rattle.std.proofs.lemmas.List.{length-drop, take_all}
use Rattle.model_sender.specs.Segmentation.{Plan, plan_of}
use Rattle.model_sender.proofs.PlanLaws.{plan-bytes}
use Rattle.segmentation.specs.Cutting.{bytes_before}
use Rattle.segmentation.specs.Plans.{IsPlan}
use Rattle.segmentation.proofs.BlockStarts.{is-at}
use Rattle.segmentation.proofs.OfPlans.{sound-plan}
use Rattle.segmentation.proofs.transport.TransportBlock.carried.Goals as goal

-- more than a list has are all of it
clipped : (xs : List ℕ) (n : ℕ) → take (min n (length xs)) xs ≡ take n xs
clipped xs n = elim (cases_lt (length xs) n) [
  | inl over ↦ take_all (min n (length xs)) xs (omega (arith, over)) ∙ sym (take_all n xs (omega (arith, over)))
  | inr within ↦ ap (λ m. take m xs) (let e : min n (length xs) ≡ n = omega (arith, within) in e)
]

pub overflow_add-r : goal.overflow_add-r
overflow_add-r c =
    let p : Plan = c.plan-plan.result in
    omega (arith, c.requires, ap (λ (x : Plan). x.c) c.plan-plan.ensures.value, (sound-plan p c.plan-plan.ensures.lawful).few)

pub overflow_sub-own : goal.overflow_sub-own
overflow_sub-own c =
    let p : Plan = c.plan-plan.result in
    let below : c.args.r < p.c = omega (arith, c.requires, ap (λ (x : Plan). x.c) c.plan-plan.ensures.value) in
    omega (arith, c.bytes_before-from.ensures, c.bytes_before.ensures, (is-at p c.args.r c.plan-plan.ensures.lawful below).later)

-- the block begins within the payload
begun : (p : Plan) (payload view : List ℕ) (r from : ℕ) → IsPlan p → p ≡ plan_of (length view) → payload ≡ view → r < (plan_of (length view)).c → from ≡ bytes_before p r → from ≤ length payload
begun p payload view r from is planned seen inside at =
    let below : r < p.c = omega (arith, inside, ap (λ (x : Plan). x.c) planned) in
    let long : p.bytes ≡ length payload = ap (λ (x : Plan). x.bytes) planned ∙ plan-bytes (length view) ∙ ap length (sym seen) in
    omega (arith, at, (is-at p r is below).begun, long)

pub slice_bounds-rest-count : goal.slice_bounds-rest-count
slice_bounds-rest-count c =
    begun c.plan-plan.result c.self.inside.payload.now c.args.self.now c.args.r c.bytes_before-from.result c.plan-plan.ensures.lawful c.plan-plan.ensures.value c.self.view_is c.requires c.bytes_before-from.ensures

pub slice_bounds-rest-start : goal.slice_bounds-rest-start
slice_bounds-rest-start c =
    begun c.plan-plan.result c.self.inside.payload.now c.args.self.now c.args.r c.bytes_before-from.result c.plan-plan.ensures.lawful c.plan-plan.ensures.value c.self.view_is c.requires c.bytes_before-from.ensures

pub returns : goal.returns
returns c =
    let p : Plan = c.plan-plan.result in
    let r : ℕ = c.args.r in
    let payload = c.self.inside.payload.now in
    let from : ℕ = c.bytes_before-from.result in
    let rest = take (length payload - from) (drop from payload) in
    let whole : rest ≡ drop from payload = take_all (length payload - from) (drop from payload) (omega (arith, length-drop from payload)) in
    ap (λ (n : ℕ). take n rest) c.min.ensures
    ∙ clipped rest (c.bytes_before.result - from)
    ∙ ap (take (c.bytes_before.result - from)) whole
    ∙ (λ i. take (c.bytes_before.ensures i - c.bytes_before-from.ensures i) (drop (c.bytes_before-from.ensures i) (c.self.view_is i)))
    ∙ ap (λ (x : Plan). take (bytes_before x (r + 1) - bytes_before x r) (drop (bytes_before x r) c.args.self.now)) c.plan-plan.ensures.value
