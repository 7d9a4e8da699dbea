use Rattle.std.proofs.Common.{◌≡◌, ℕ, ◌<◌, ap, subst, arith}
use Rattle.std.specs.List.{range_with_len, sum_by}
use Rattle.model_sender.specs.CircularBuffer.{Match, piece_length}
use Rattle.model_sender.specs.Segmentation.{Plan}
use Rattle.model_sender.proofs.Pieces.{pieces-sum}
use Rattle.segmentation.specs.Plans.{IsPlan}
use Rattle.rate_match.specs.Matching.{IsMatch}
use Rattle.rate_match.proofs.BlockNumbers.{block-numbers}
use Rattle.rate_match.proofs.Matchings.{match-bounds}
use Rattle.rate_match.proofs.numbers.piece_len.Goals as goal

-- the pieces of a plan's blocks
all : (m : Match) (p : Plan) (r : ℕ) → IsMatch m → IsPlan p → r < p.c → sum_by (piece_length m p.c) (range_with_len 0 p.c) ≡ m.g
all m p r lawful is below =
    let bounds = match-bounds m lawful in
    pieces-sum m p.c (block-numbers p r is below).some bounds.unit bounds.divides

pub overflow_add-r : goal.overflow_add-r
overflow_add-r c =
    let block = block-numbers c.args.plan.now c.args.r (subst IsPlan c.plan.view_is c.plan.invariant) c.requires in
    omega (arith, block.few, ap (λ (p : Plan). p.c) c.plan.view_is, block.some)

pub returns-then-r-units-clause-whole : goal.returns-then-r-units-clause-whole
returns-then-r-units-clause-whole c = all c.args.m.now c.args.plan.now c.args.r c.g.ensures.lawful (subst IsPlan c.plan.view_is c.plan.invariant) c.requires

pub returns-else-r-units-clause-whole : goal.returns-else-r-units-clause-whole
returns-else-r-units-clause-whole c = all c.args.m.now c.args.plan.now c.args.r c.g.ensures.lawful (subst IsPlan c.plan.view_is c.plan.invariant) c.requires
