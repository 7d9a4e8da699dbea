use Rattle.std.proofs.Common.{◌≡◌, ◌*◌, ◌/◌, ◌≤◌, ap, ◌∙◌, arith}
use Rattle.model_sender.specs.Segmentation.{Plan, size}
use Rattle.model_sender.specs.CircularBuffer.{rows_of}
use Rattle.rate_match.proofs.BlockNumbers.{block-numbers, limit-kept}
use Rattle.rate_match.proofs.numbers.buffer_len.Goals as goal

pub rows_of-whole-requires : goal.rows_of-whole-requires
rows_of-whole-requires c =
    omega (arith, (block-numbers c.args.plan.now c.args.r c.size.ensures.lawful c.requires).most, c.size.ensures.value)

pub returns-in-Limited-clause-kept : goal.returns-in-Limited-clause-kept
returns-in-Limited-clause-kept c fits =
    let p : Plan = c.args.plan.now in
    let block = block-numbers p c.args.r c.size.ensures.lawful c.requires in
    let rows : c.rows_of-whole.result ≡ rows_of (size p c.args.r) = c.rows_of-whole.ensures.value ∙ ap rows_of c.size.ensures.value in
    let part : c.in-Limited.limit / c.plan.inside.c ≡ c.in-Limited.limit / p.c = ap (λ (q : Plan). c.in-Limited.limit / q.c) c.plan.view_is in
    let kept : 32 * rows_of (size p c.args.r) ≤ c.in-Limited.limit / p.c = limit-kept c.args.m.now.limit c.in-Limited.limit p.c
    (size p c.args.r) p.k_plus c.in-Limited.ensures.value fits block.larger in
    omega (arith, rows, part, kept, c.min.ensures)
