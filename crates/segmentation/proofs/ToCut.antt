-- A payload that is cut, and one of its blocks.
use Rattle.std.proofs.Common.{◌≡◌, ℕ, ◌<◌, ◌≤◌, List, length, sym, ap, ◌∙◌, subst, arith}
use Rattle.lte_bits.specs.declared.bit.Bit.{Bit}
use Rattle.lte_bits.specs.Packing.{unpacked}
use Rattle.model_sender.specs.CheckBits.{crc, crc24a}
use Rattle.model_sender.specs.Segmentation.{Plan, plan_of}
use Rattle.model_sender.proofs.PlanLaws.{plan-bytes}
use Rattle.segmentation.specs.Cutting.{IsToCut}
use Rattle.segmentation.specs.Plans.{IsPlan}
use Rattle.segmentation.proofs.BlockStarts.{IsAt, is-at}
use Rattle.segmentation.proofs.OfPlans.{sound-plan}

-- its plan, and where the block stands
pub record IsBlockToCut (p : Plan) (payload : List ℕ) (check_bits : List Bit) (r : ℕ) : Type 0 where
  pub lawful : IsPlan p
  pub long : p.bytes ≡ length payload
  pub check : check_bits ≡ crc crc24a (unpacked payload)
  pub below : r < p.c
  pub few : p.c ≤ 25
  pub at : IsAt p r

-- as it is read: what a contract sees of the payload, and a copy of the plan
pub block_to_cut : (q p : Plan) (payload view : List ℕ) (check_bits : List Bit) (r : ℕ) → payload ≡ view → IsToCut payload q check_bits → p ≡ plan_of (length view) → r < (plan_of (length view)).c
    → IsBlockToCut p view check_bits r
block_to_cut q p payload view check_bits r seen is planned inside =
    let same : q ≡ p = is.planned ∙ ap (λ (xs : List ℕ). plan_of (length xs)) seen ∙ sym planned in
    let lawful : IsPlan p = subst IsPlan same is.lawful in
    let below : r < p.c = omega (arith, inside, ap (λ (x : Plan). x.c) planned) in
    record {
      lawful = lawful;
      long = ap (λ (x : Plan). x.bytes) planned ∙ plan-bytes (length view);
      check = is.check ∙ ap (λ (xs : List ℕ). crc crc24a (unpacked xs)) seen;
      below = below;
      few = (sound-plan p lawful).few;
      at = is-at p r lawful below;
    }
