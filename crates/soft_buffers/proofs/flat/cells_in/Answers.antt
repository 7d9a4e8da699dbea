use Rattle.std.proofs.Common.{◌≡◌, ℕ, ◌<◌, ◌≤◌, arith}
use Rattle.model_sender.specs.Segmentation.{Plan, size}
use Rattle.segmentation.specs.Plans.{IsPlan}
use Rattle.rate_match.proofs.BlockNumbers.{block-numbers}
use Rattle.soft_buffers.proofs.flat.cells_in.Goals as goal

-- a block has at most 6144 bits
few : (plan : Plan) (r k : ℕ) → IsPlan plan → r < plan.c → k ≡ size plan r → k ≤ 6144
few plan r k is below same = omega (arith, same, (block-numbers plan r is below).most)

pub overflow_add-result : goal.overflow_add-result
overflow_add-result c = let most = few c.args.plan.now c.args.r c.size.result c.size.ensures.lawful c.requires c.size.ensures.value in omega arith

pub overflow_mul-result : goal.overflow_mul-result
overflow_mul-result c = let most = few c.args.plan.now c.args.r c.size.result c.size.ensures.lawful c.requires c.size.ensures.value in omega arith

pub returns-clause-few : goal.returns-clause-few
returns-clause-few c = let most = few c.args.plan.now c.args.r c.size.result c.size.ensures.lawful c.requires c.size.ensures.value in omega arith
