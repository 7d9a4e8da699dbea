use Rattle.std.proofs.Common.{arith}
use Rattle.model_sender.specs.ConstituentCoder.{parity}
use Rattle.window_decode.proofs.LaneNumbers.{numbers_passed, lanes_passed, sum-fits, sum-numbers}
use Rattle.window_decode.proofs.LaneKernel.{earned-numbers, relative-numbers, after-numbers}
use Rattle.window_decode.proofs.recursion.beta_branch.Goals as goal

pub after_by-requires : goal.after_by-requires
after_by-requires c = lanes_passed 6391 _ _ (omega arith) (relative-numbers c.args.after c.requires.after)

pub sum-requires-clause-first : goal.sum-requires-clause-first
sum-requires-clause-first c =
    lanes_passed 127 _ _ (omega arith) (earned-numbers 127 (λ s. parity s c.args.input) c.args.value c.parity_of.result (omega arith) c.requires.value c.parity_of.ensures)

pub sum-requires-clause-second : goal.sum-requires-clause-second
sum-requires-clause-second c = lanes_passed 6391 _ _ (omega arith) (after-numbers c.args.input c.args.after c.after_by.result c.requires.after c.after_by.ensures)

pub sum-requires-clause-fits : goal.sum-requires-clause-fits
sum-requires-clause-fits c =
    sum-fits 127 6391 _ _ c.parity_of.result c.after_by.result (omega arith)
    (earned-numbers 127 (λ s. parity s c.args.input) c.args.value c.parity_of.result (omega arith) c.requires.value c.parity_of.ensures)
    (after-numbers c.args.input c.args.after c.after_by.result c.requires.after c.after_by.ensures)

pub returns : goal.returns
returns c =
    numbers_passed 6518 _ c.sum.result (omega arith)
    (sum-numbers 127 6391 _ _ c.parity_of.result c.after_by.result c.sum.result (omega arith)
    (earned-numbers 127 (λ s. parity s c.args.input) c.args.value c.parity_of.result (omega arith) c.requires.value c.parity_of.ensures)
    (after-numbers c.args.input c.args.after c.after_by.result c.requires.after c.after_by.ensures)
    c.sum.ensures)
