-- What entries and bits tell, and what is written of results.
use Rattle.std.proofs.Common.{◌≡◌, ℕ, Bool, refl, subst, ◌<◌, ◌≤◌, List, [], ◌∷◌, length, map, drop, sym, ap, ◌∙◌, arith}
use Rattle.std.specs.List.{range_with_len, sum}
use Rattle.std.proofs.lemmas.List.{length-drop, length-map, length-take}
use Rattle.std.proofs.lemmas.List.Concat.{length-flat_map}
use Rattle.std.proofs.lemmas.List.FromFn.{get_or-map-range_with_len, length-map-range_with_len}
use Rattle.std.proofs.lemmas.List.Sums.{sum-map}
use Rattle.lte_bits.specs.Bits.{bit_of, digit}
use Rattle.lte_bits.specs.declared.bit.Bit.{Bit}
use Rattle.model_sender.specs.Segmentation.{Plan, fill, size}
use Rattle.model_receiver.specs.declared.result.CodeResult.{CodeResult}
use Rattle.segmentation.specs.Shape.{AreBlocksOf}
use Rattle.soft_buffers.specs.Parts.{before, part}
use Rattle.soft_buffers.proofs.PartLaws.{before-within}
use Rattle.block_receive.proofs.BlockResults.{unpassed}
use Rattle.block_receive.specs.Held.{IsShaped}
use Rattle.block_receive.proofs.ShapedBlocks.{shaped-blocks}
use Rattle.gomzelat_c.specs.State.{bit_count, digits_of, kept, kept_result}
use Rattle.gomzelat_c.specs.declared.state.CodeBlock.{CodeBlock}

abbrev result : ℕ → List Bit → ℕ → Bool → CodeResult
result fill bits iterations passed = record { block = record { fill = fill; bits = bits }; iterations = iterations; passed = passed }

pub result-is : {f g i j : ℕ} {a b : List Bit} {p q : Bool} → f ≡ g → a ≡ b → i ≡ j → p ≡ q → result f a i p ≡ result g b j q
result-is e h k l i = result (e i) (h i) (k i) (l i)

pub kept-long : (plan : Plan) (blocks : List CodeBlock) (bits : List ℕ) → length (kept plan blocks bits) ≡ plan.c
unfolding kept
kept-long plan blocks bits = length-map-range_with_len (kept_result plan blocks bits) 0 plan.c

pub part-long : (plan : Plan) (bits : List ℕ) (r : ℕ) → bit_count plan ≤ length bits → r < plan.c → length (part (size plan) bits r) ≡ size plan r
part-long plan bits r long below =
    let first : ℕ = before (size plan) r in
    omega (arith, before-within (size plan) r plan.c below, long, length-drop first bits, length-take (size plan r) (drop first bits))

pub kept-shaped : (plan : Plan) (blocks : List CodeBlock) (bits : List ℕ) → bit_count plan ≤ length bits → AreBlocksOf plan (map (λ x. x.block) (kept plan blocks bits))
unfolding kept
kept-shaped plan blocks bits long =
    shaped-blocks plan (kept plan blocks bits) (kept-long plan blocks bits)
    (λ r below. subst (IsShaped plan r) (sym (get_or-map-range_with_len (kept_result plan blocks bits) 0 plan.c r r unpassed below (omega arith)))
    (record {
      fill = refl;
      long = length-map (part (size plan) bits r) bit_of ∙ part-long plan bits r long below;
    }))

-- as many bits as the blocks have
lengths : (xs : List CodeResult) → map (λ x. length (map digit x.block.bits)) xs ≡ map (λ b. length b.bits) (map (λ x. x.block) xs)
lengths [] = refl
lengths (x ∷ xs) = λ i. length-map x.block.bits digit i ∷ lengths xs i

pub digits-long : (plan : Plan) (results : List CodeResult) → AreBlocksOf plan (map (λ x. x.block) results) → length (digits_of results) ≡ bit_count plan
digits-long plan results are =
    length-flat_map (λ x. map digit x.block.bits) results
    ∙ sym (sum-map (λ x. length (map digit x.block.bits)) results)
    ∙ ap sum (lengths results ∙ are.sizes)
    ∙ sum-map (size plan) (range_with_len 0 plan.c)
