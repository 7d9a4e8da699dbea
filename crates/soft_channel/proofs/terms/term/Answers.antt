use Rattle.std.proofs.Common.{ℤ, pos, ◌*ℤ◌, ap, ◌∙◌}
use Rattle.std.specs.Prelude.{int_div}
use Rattle.soft_channel.proofs.Quotients.{cast, product-cast, product-fits, small-product}
use Rattle.soft_channel.proofs.terms.term.Goals as goal

pub overflow_mul-from : goal.overflow_mul-from
overflow_mul-from c =
    product-fits c.from.result c.deviation.result c.args.noise c.from.ensures c.requires c.deviation.ensures.range

pub quotient-requires : goal.quotient-requires
quotient-requires c =
    rw (product-cast c.from.result c.deviation.result c.args.noise c.from.ensures c.requires c.deviation.ensures.range)
    (small-product c.deviation.result c.args.noise c.requires c.deviation.ensures.range)

pub returns-clause-value : goal.returns-clause-value
returns-clause-value c =
    cast c.quotient.result c.quotient.ensures.range
    ∙ (c.quotient.ensures.value
    ∙ (ap (λ (z : ℤ). int_div z (pos 148)) (product-cast c.from.result c.deviation.result c.args.noise c.from.ensures c.requires c.deviation.ensures.range)
    ∙ ap (λ (d : ℤ). int_div (pos c.args.noise *ℤ d) (pos 148)) c.deviation.ensures.value))
