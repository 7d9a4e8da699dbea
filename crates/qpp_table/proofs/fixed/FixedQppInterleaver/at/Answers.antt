use Rattle.qpp_table.proofs.Remainders.{value_from_terms}
use Rattle.qpp_table.proofs.fixed.FixedQppInterleaver.at.Goals as goal

pub returns : goal.returns
returns g c =
    value_from_terms g.row.K g.row.F1 g.row.F2 c.args.i c.product_modulo-linear.result c.product_modulo.result c.product_modulo-square.result
    c.product_modulo-linear.ensures.value c.product_modulo.ensures.value c.product_modulo-square.ensures.value
