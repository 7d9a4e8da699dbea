use Rattle.std.proofs.Common.{◌≡◌, ◌*◌, List, IfOk, IsTrue, ◌↔◌, map, take, subst, ◌∙◌}
use Rattle.lte_bits.specs.Packing.{packed}
use Rattle.lte_bits.specs.declared.block.Block.{Block}
use Rattle.model_sender.specs.CheckBits.{IsMultiple, crc24a}
use Rattle.model_sender.specs.CodeBlocks.{whole}
use Rattle.model_sender.specs.Segmentation.{Plan}
use Rattle.block_receive.proofs.payload.join.Goals as goal

pub returns-clause-payload : goal.returns-clause-payload
returns-clause-payload c =
    let p : Plan = c.args.plan.now in
    let blocks : c.as_slice.result.now ≡ map (λ x. x.block) c.args.results.items = c.as_slice.ensures.value ∙ c.in_ok-blocks.ensures in
    subst (λ (bs : List Block). IfOk c.uncut.result (λ u. u.payload ≡ packed (take (8 * p.bytes) (whole p bs)))) blocks c.uncut.ensures.payload

pub returns-clause-holds : goal.returns-clause-holds
returns-clause-holds c =
    let p : Plan = c.args.plan.now in
    let blocks : c.as_slice.result.now ≡ map (λ x. x.block) c.args.results.items = c.as_slice.ensures.value ∙ c.in_ok-blocks.ensures in
    subst (λ (bs : List Block). IfOk c.uncut.result (λ u. IsTrue u.holds ↔ IsMultiple crc24a (whole p bs))) blocks c.uncut.ensures.holds
