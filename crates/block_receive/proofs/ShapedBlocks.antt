-- The results of a try from soft cells, whatever they are, are those of the plan's blocks.
use Rattle.std.proofs.Common.{◌≡◌, ℕ, ℤ, ◌<◌, ◌≤◌, Bool, true, false, cond, List, [], All, length, get_or, map, sym, ap, ◌∙◌, subst, arith}
use Rattle.std.specs.Prelude.{Option, None, Some, IfSome, unwrap_or}
use Rattle.std.proofs.lemmas.List.{get_or_default, get_or-map, length-map}
use Rattle.std.proofs.lemmas.List.FromFn.{fill_by_all, get_or-map-range_with_len, length-map-range_with_len}
use Rattle.lte_bits.specs.declared.block.Block.{Block}
use Rattle.model_sender.specs.Segmentation.{Plan, size, fill}
use Rattle.model_receiver.specs.declared.result.CodeResult.{CodeResult}
use Rattle.model_receiver.specs.SoftCells.{Reception}
use Rattle.model_receiver.specs.Limits.{DecoderLimits}
use Rattle.model_receiver.specs.TransportBlocks.{Held, all_passed, block_shape, held_after, if_passed, tried, tried_block}
use Rattle.model_receiver.specs.Decoding.{code_result}
use Rattle.model_receiver.proofs.DecodedOnce.{decoded-is}
use Rattle.segmentation.specs.Shape.{AreBlocksOf}
use Rattle.soft_buffers.specs.Buffers.{Buffers, Hold, cells_of_block, streams_of_cells}
use Rattle.soft_buffers.proofs.StreamCells.{streams-are}
use Rattle.block_receive.specs.Held.{AreHeldOf, IsOf, IsShaped}
use Rattle.block_receive.specs.Tries.{result_from, tried_block_from, tried_from}
use Rattle.block_receive.proofs.BlockResults.{AreLawful, held-at, unpassed}
use Rattle.block_receive.proofs.StreamLengths.{bits-long}

-- results of all blocks
abbrev pub AreOf : Plan → List CodeResult → Type 0
AreOf plan results = (r : ℕ) → r < plan.c → IsOf plan r (get_or results r unpassed)

abbrev pub AreShaped : Plan → List CodeResult → Type 0
AreShaped plan results = (r : ℕ) → r < plan.c → IsShaped plan r (get_or results r unpassed)

-- ---- the same as blocks

pub blocks-count : (plan : Plan) (results : List CodeResult) → AreBlocksOf plan (map (λ x. x.block) results) → length results ≡ plan.c
blocks-count plan results are =
    let blocks : List Block = map (λ x. x.block) results in
    sym (length-map results (λ x. x.block)) ∙ sym (length-map blocks (λ b. length b.bits)) ∙ ap length are.sizes ∙ length-map-range_with_len (size plan) 0 plan.c

pub blocks-shaped : (plan : Plan) (results : List CodeResult) → AreBlocksOf plan (map (λ x. x.block) results) → AreShaped plan results
blocks-shaped plan results are r below =
    let blocks : List Block = map (λ x. x.block) results in
    let count : length results ≡ plan.c = blocks-count plan results are in
    let inside : r < length results = omega (arith, below, count) in
    let inside_blocks : r < length blocks = omega (arith, inside, length-map results (λ x. x.block)) in
    let at : get_or blocks r unpassed.block ≡ (get_or results r unpassed).block = get_or-map (λ x. x.block) results r unpassed unpassed.block inside in
    record {
      fill = ap (λ (b : Block). b.fill) (sym at)
          ∙ sym (get_or-map (λ b. b.fill) blocks r unpassed.block 0 inside_blocks)
          ∙ ap (λ (ns : List ℕ). get_or ns r 0) are.fillers
          ∙ get_or-map-range_with_len (fill plan) 0 plan.c r r 0 below (omega arith);
      long = ap (λ (b : Block). length b.bits) (sym at)
          ∙ sym (get_or-map (λ b. length b.bits) blocks r unpassed.block 0 inside_blocks)
          ∙ ap (λ (ns : List ℕ). get_or ns r 0) are.sizes
          ∙ get_or-map-range_with_len (size plan) 0 plan.c r r 0 below (omega arith);
    }

pub shaped-blocks : (plan : Plan) (results : List CodeResult) → length results ≡ plan.c → AreShaped plan results → AreBlocksOf plan (map (λ x. x.block) results)
shaped-blocks plan results long of =
    let blocks : List Block = map (λ x. x.block) results in
    let count : length blocks ≡ plan.c = length-map results (λ x. x.block) ∙ long in
    let at : (r : ℕ) → r < plan.c → get_or blocks r unpassed.block ≡ (get_or results r unpassed).block =
    λ r below. get_or-map (λ x. x.block) results r unpassed unpassed.block (omega (arith, below, long)) in
    record {
      sizes = fill_by_all (size plan) (map (λ b. length b.bits) blocks) plan.c 0 (length-map blocks (λ b. length b.bits) ∙ count)
          (λ r below. get_or-map (λ b. length b.bits) blocks r unpassed.block 0 (omega (arith, below, count)) ∙ ap (λ (b : Block). length b.bits) (at r below) ∙ (let h = of r below in h.long));
      fillers = fill_by_all (fill plan) (map (λ b. b.fill) blocks) plan.c 0 (length-map blocks (λ b. b.fill) ∙ count)
          (λ r below. get_or-map (λ b. b.fill) blocks r unpassed.block 0 (omega (arith, below, count)) ∙ ap (λ (b : Block). b.fill) (at r below) ∙ (let h = of r below in h.fill));
    }

-- ---- a try

result-of : (plan : Plan) (e : DecoderLimits) (cells : List (List ℤ)) (r : ℕ) → AreLawful plan e → r < plan.c → IsOf plan r (result_from plan e cells r)
result-of plan e cells r lawful below =
    let soft = streams_of_cells (size plan r) (fill plan r) (cells_of_block cells r) in
    let shape = block_shape plan e r in
    let x = result_from plan e cells r in
    let is = decoded-is soft shape lawful.some in (
      record {
        fill = is.fill;
        long = ap length is.bits ∙ bits-long soft shape x.iterations (let fills = lawful.fills r below in omega (arith, fills));
      },
      omega (arith, is.to_limit, lawful.few),
    )

held_or : (P : CodeResult → Type 0) (o : Option CodeResult) (d : CodeResult) → IfSome o P → P d → P (unwrap_or o d)
held_or P (Some x) d h other = h
held_or P None d h other = other

passed : (P : CodeResult → Type 0) (x : CodeResult) → P x → IfSome (if_passed x) P
passed P x h = by_test x.passed
  where
    by_test : (b : Bool) → IfSome (cond b (Some x) None) P
    by_test true = h
    by_test false = tt

-- what holds of all results holds of those that are held
pub held-all : (P : ℕ → CodeResult → Type 0) (plan : Plan) (results : List CodeResult) → ((r : ℕ) → r < plan.c → P r (get_or results r unpassed))
    → (r : ℕ) → r < plan.c → IfSome (get_or (held_after results) r None) (P r)
held-all P plan results of r below = by_test (all_passed results)
  where
    by_test : (b : Bool) → IfSome (get_or (cond b [] (map if_passed results)) r None) (P r)
    by_test true = tt
    by_test false = subst (λ o. IfSome o (P r)) (sym (held-at results r)) (passed (P r) (get_or results r unpassed) (of r below))

pub from-long : (plan : Plan) (e : DecoderLimits) (cells : List (List ℤ)) (held : Held) → length (tried_from plan e cells held) ≡ plan.c
unfolding tried_from
from-long plan e cells held = length-map-range_with_len (tried_block_from plan e cells held) 0 plan.c

pub from-at : (plan : Plan) (e : DecoderLimits) (cells : List (List ℤ)) (held : Held) (r : ℕ) → r < plan.c
    → get_or (tried_from plan e cells held) r unpassed ≡ tried_block_from plan e cells held r
unfolding tried_from
from-at plan e cells held r below = get_or-map-range_with_len (tried_block_from plan e cells held) 0 plan.c r r unpassed below (omega arith)

-- what holds of the results that are held, and of those that are decoded, holds of all
from-all : (P : ℕ → CodeResult → Type 0) (plan : Plan) (e : DecoderLimits) (cells : List (List ℤ)) (held : Held) → ((r : ℕ) → r < plan.c → IfSome (get_or held r None) (P r))
    → ((r : ℕ) → r < plan.c → P r (result_from plan e cells r)) → (r : ℕ) → r < plan.c → P r (get_or (tried_from plan e cells held) r unpassed)
from-all P plan e cells held of fresh r below =
    subst (P r) (sym (from-at plan e cells held r below)) (held_or (P r) (get_or held r None) (result_from plan e cells r) (of r below) (fresh r below))

pub from-of : (plan : Plan) (e : DecoderLimits) (cells : List (List ℤ)) (held : Held) → AreLawful plan e → AreHeldOf plan held → AreOf plan (tried_from plan e cells held)
from-of plan e cells held lawful of = from-all (IsOf plan) plan e cells held of (λ r below. result-of plan e cells r lawful below)

pub from-shaped : (plan : Plan) (e : DecoderLimits) (cells : List (List ℤ)) (last : List CodeResult) → AreLawful plan e → AreBlocksOf plan (map (λ x. x.block) last)
    → AreBlocksOf plan (map (λ x. x.block) (tried_from plan e cells (held_after last)))
from-shaped plan e cells last lawful are =
    let held : Held = held_after last in
    shaped-blocks plan (tried_from plan e cells held) (from-long plan e cells held)
    (from-all (IsShaped plan) plan e cells held (held-all (IsShaped plan) plan last (blocks-shaped plan last are)) (λ r below. (result-of plan e cells r lawful below).0))

-- few iterations each
pub all-few : (plan : Plan) (results : List CodeResult) → length results ≡ plan.c → AreOf plan results → All (λ x. x.iterations ≤ 16) results
all-few plan results long of k d below =
    let is : get_or results k unpassed ≡ get_or results k d = get_or_default results k unpassed d below in
    subst (λ (x : CodeResult). x.iterations ≤ 16) is (of k (omega (arith, below, long))).1

-- ---- cells of receptions

pub from-received : (b : Buffers) (e : DecoderLimits) (xs : List Reception) (held : Held) → Hold b xs → tried_from b.plan e b.cells held ≡ tried b.plan e xs held
unfolding tried_from
from-received b e xs held hold =
    let p : Plan = b.plan in
    fill_by_all (tried_block p e xs held) (tried_from p e b.cells held) p.c unpassed (from-long p e b.cells held)
    (λ r below. from-at p e b.cells held r below
    ∙ ap (λ soft. unwrap_or (get_or held r None) (code_result soft (block_shape p e r))) (streams-are p xs r (cells_of_block b.cells r) (hold r below)))
