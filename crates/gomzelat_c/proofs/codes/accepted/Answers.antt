use Rattle.std.proofs.Common.{sym, ◌∙◌}
use Rattle.gomzelat_c.specs.Codes.{length_tests, shape_tests}
use Rattle.gomzelat_c.proofs.Errors.{handed_on}
use Rattle.gomzelat_c.proofs.FirstFailed.{none_failed, one_failed}
use Rattle.gomzelat_c.proofs.codes.accepted.Goals as goal

pub returns-in_err-shape-clause-refused : goal.returns-in_err-shape-clause-refused
returns-in_err-shape-clause-refused c =
    let code = c.args.code.now in
    let r = c.in_err-shape.field-0.0 in
    handed_on c.from_residual.result r c.from_residual.ensures.1
    ∙ sym (one_failed (shape_tests code c.args.windows c.args.limit) (length_tests code c.args.values c.args.room) r (sym c.in_err-shape.ensures.refused))

pub returns-in_err-fits-clause-refused : goal.returns-in_err-fits-clause-refused
returns-in_err-fits-clause-refused c =
    let code = c.args.code.now in
    handed_on c.from_residual-in_err-fits.result c.in_err-fits.field-0.0 c.from_residual-in_err-fits.ensures.1
    ∙ c.in_err-fits.ensures.refused
    ∙ sym (none_failed (shape_tests code c.args.windows c.args.limit) (length_tests code c.args.values c.args.room) (sym c.in_ok-shape.ensures.refused))

pub returns-clause-refused : goal.returns-clause-refused
returns-clause-refused c =
    let code = c.args.code.now in
    c.in_ok-fits.ensures.refused
    ∙ sym (none_failed (shape_tests code c.args.windows c.args.limit) (length_tests code c.args.values c.args.room) (sym c.in_ok-shape.ensures.refused))
