use Rattle.std.proofs.Common.{◌≡◌, ◌^◌, ◌%◌, eq-eqb, sym, ◌∙◌}
use Rattle.std.proofs.lemmas.Bool.{eqb-true}
use Rattle.qpp_table.proofs.Remainders.{seventh_power}
use Rattle.qpp_table.proofs.modular.is_nilpotent.Goals as goal

pub returns : goal.returns
returns c =
    let f = c.args.f in let k = c.args.k in let last = c.product_modulo.result in
    let is : last ≡ f ^ 7 % k =
    seventh_power k f c.product_modulo-square.result c.product_modulo-fourth.result c.product_modulo-sixth.result last
    c.product_modulo-square.ensures.value c.product_modulo-fourth.ensures.value c.product_modulo-sixth.ensures.value c.product_modulo.ensures.value in (
      λ h. sym is ∙ eqb-true last 0 h,
      λ h. eq-eqb last 0 (is ∙ h),
    )
