use Rattle.std.proofs.Common.{sym, ◌∙◌}
use Rattle.gomzelat_c.specs.Codes.{block_tests, limit_tests}
use Rattle.gomzelat_c.proofs.Errors.{handed_on}
use Rattle.gomzelat_c.proofs.FirstFailed.{none_failed, one_failed}
use Rattle.gomzelat_c.proofs.OneShape.{few_of_size}
use Rattle.gomzelat_c.proofs.codes.shape_of.Goals as goal

pub returns-in_err-is_lawful-clause-refused : goal.returns-in_err-is_lawful-clause-refused
returns-in_err-is_lawful-clause-refused c =
    let r = c.in_err-is_lawful.field-0.0 in
    handed_on c.from_residual.result r c.from_residual.ensures.1
    ∙ sym (one_failed (block_tests c.args.code.now) (limit_tests c.args.windows c.args.limit) r (sym c.in_err-is_lawful.ensures.refused))

pub returns-in_err-are_limits-clause-refused : goal.returns-in_err-are_limits-clause-refused
returns-in_err-are_limits-clause-refused c =
    handed_on c.from_residual-in_err-are_limits.result c.in_err-are_limits.field-0.0 c.from_residual-in_err-are_limits.ensures.1
    ∙ c.in_err-are_limits.ensures.refused
    ∙ sym (none_failed (block_tests c.args.code.now) (limit_tests c.args.windows c.args.limit) (sym c.in_ok-is_lawful.ensures.refused))

pub returns-clause-refused : goal.returns-clause-refused
returns-clause-refused c =
    c.in_ok-are_limits.ensures.refused
    ∙ sym (none_failed (block_tests c.args.code.now) (limit_tests c.args.windows c.args.limit) (sym c.in_ok-is_lawful.ensures.refused))

pub returns-clause-few : goal.returns-clause-few
returns-clause-few c = few_of_size c.args.code.now.k c.in_ok-is_lawful.ensures.size
