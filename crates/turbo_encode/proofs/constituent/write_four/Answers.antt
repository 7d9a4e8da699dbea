use Rattle.std.proofs.Common.{◌++◌, ap, ◌∙◌, take, arith}
use Rattle.turbo_encode.proofs.FourWritten.{four_written}
use Rattle.turbo_encode.proofs.constituent.write_four.Goals as goal

pub returns-clause-cells : goal.returns-clause-cells
returns-clause-cells c = λ s is.
    let old = c.args.cells.now in
    let cells = c.four_steps-steps.result.cells in
    four_written old cells c.args.at c.requires.room (omega arith)
    ∙ ap (λ zs. take c.args.at old ++ zs) (c.four_steps-steps.ensures.cells s is)
