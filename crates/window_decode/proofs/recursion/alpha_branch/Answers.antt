use Rattle.std.proofs.Common.{arith}
use Rattle.model_sender.specs.ConstituentCoder.{parity}
use Rattle.rsc_trellis.specs.Steps.{input_before}
use Rattle.window_decode.proofs.LaneNumbers.{numbers_passed, lanes_passed, sum-fits}
use Rattle.window_decode.proofs.LaneKernel.{earned-numbers, relative-numbers, before-numbers, gain-numbers, way-sum}
use Rattle.window_decode.proofs.recursion.alpha_branch.Goals as goal

pub sum-gain-requires-clause-first : goal.sum-gain-requires-clause-first
sum-gain-requires-clause-first c =
    lanes_passed 638 _ _ (omega arith) (earned-numbers 638 (λ s. input_before s c.args.oldest) c.args.step.input c.input_by.result (omega arith) c.args.step.input_bound c.input_by.ensures)

pub sum-gain-requires-clause-second : goal.sum-gain-requires-clause-second
sum-gain-requires-clause-second c =
    lanes_passed 127 _ _ (omega arith) (earned-numbers 127 (λ s. parity s c.args.oldest) c.args.step.parity c.parity_of.result (omega arith) c.args.step.parity_bound c.parity_of.ensures)

pub sum-gain-requires-clause-fits : goal.sum-gain-requires-clause-fits
sum-gain-requires-clause-fits c =
    sum-fits 638 127 _ _ c.input_by.result c.parity_of.result (omega arith)
    (earned-numbers 638 (λ s. input_before s c.args.oldest) c.args.step.input c.input_by.result (omega arith) c.args.step.input_bound c.input_by.ensures)
    (earned-numbers 127 (λ s. parity s c.args.oldest) c.args.step.parity c.parity_of.result (omega arith) c.args.step.parity_bound c.parity_of.ensures)

pub before_by-requires : goal.before_by-requires
before_by-requires c = lanes_passed 6391 _ _ (omega arith) (relative-numbers c.args.before c.requires)

pub sum-requires-clause-first : goal.sum-requires-clause-first
sum-requires-clause-first c = lanes_passed 6391 _ _ (omega arith) (before-numbers c.args.oldest c.args.before c.before_by.result c.requires c.before_by.ensures)

pub sum-requires-clause-second : goal.sum-requires-clause-second
sum-requires-clause-second c =
    lanes_passed 765 _ _ (omega arith)
    (gain-numbers c.args.oldest c.args.step.input c.args.step.parity c.input_by.result c.parity_of.result c.sum-gain.result
    c.args.step.input_bound c.args.step.parity_bound c.input_by.ensures c.parity_of.ensures c.sum-gain.ensures)

pub sum-requires-clause-fits : goal.sum-requires-clause-fits
sum-requires-clause-fits c =
    sum-fits 6391 765 _ _ c.before_by.result c.sum-gain.result (omega arith)
    (before-numbers c.args.oldest c.args.before c.before_by.result c.requires c.before_by.ensures)
    (gain-numbers c.args.oldest c.args.step.input c.args.step.parity c.input_by.result c.parity_of.result c.sum-gain.result
    c.args.step.input_bound c.args.step.parity_bound c.input_by.ensures c.parity_of.ensures c.sum-gain.ensures)

pub returns : goal.returns
returns c =
    numbers_passed 7156 _ c.sum.result (omega arith)
    (way-sum c.args.oldest c.args.before c.args.step.input c.args.step.parity c.before_by.result c.sum-gain.result c.sum.result
    (before-numbers c.args.oldest c.args.before c.before_by.result c.requires c.before_by.ensures)
    (gain-numbers c.args.oldest c.args.step.input c.args.step.parity c.input_by.result c.parity_of.result c.sum-gain.result
    c.args.step.input_bound c.args.step.parity_bound c.input_by.ensures c.parity_of.ensures c.sum-gain.ensures)
    c.sum.ensures)
