use Rattle.std.proofs.Common.{List, ◌++◌, length, ap, ◌∙◌}
use Rattle.lte_bits.specs.declared.bit.Bit.{Bit}
use Rattle.model_sender.specs.Segmentation.{Plan}
use Rattle.model_sender.specs.Selection.{sent}
use Rattle.rate_match.proofs.Lengths.{sent-long}
use Rattle.rate_match.proofs.selecting.select.Goals as goal

pub returns-clause-long : goal.returns-clause-long
returns-clause-long c =
    let plan : Plan = c.args.plan.now in
    let bits : List Bit = sent plan c.args.m.now c.args.streams.now c.args.r c.args.rv in
    ap (λ (items : List Bit). length items) (c.from_vec.ensures ∙ c.in_ok-push_piece.ensures ∙ ap (λ (items : List Bit). items ++ bits) c.in_ok-bits.ensures.items)
    ∙ sent-long plan c.args.m.now c.args.streams.now c.args.r c.args.rv
