use Rattle.std.proofs.Common.{nat_le, nat_lt, [], ◌∷◌, sym, ◌∙◌}
use Rattle.gomzelat_c.specs.Codes.{is_size}
use Rattle.gomzelat_c.specs.Tests.{test}
use Rattle.gomzelat_c.specs.declared.refusal.Refusal.TheVariants.{BadSize, BadFillers, BadCheck}
use Rattle.gomzelat_c.proofs.Errors.{handed_on}
use Rattle.gomzelat_c.proofs.FirstFailed.{second}
use Rattle.gomzelat_c.proofs.codes.is_lawful.Goals as goal

pub returns-in_err-accept-2-clause-refused : goal.returns-in_err-accept-2-clause-refused
returns-in_err-accept-2-clause-refused c =
    let code = c.args.code.now in
    let u = c.in_err-accept-2.field-0.0 in
    handed_on c.from_residual-in_err-accept-2.result u c.from_residual-in_err-accept-2.ensures.1
    ∙ sym (second (is_size code.k) (nat_lt code.fill code.k) BadSize BadFillers u (test (nat_le code.check 1) BadCheck ∷ [])
    (sym c.is_size.ensures.value ∙ c.in_ok-accept.ensures.holds) (sym c.in_err-accept-2.ensures.refused))
