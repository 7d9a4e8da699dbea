use Rattle.std.proofs.Common.{◌≡◌}
use Rattle.std.specs.Prelude.{drop}
use Rattle.command_words.specs.Operands.{rule_of}
use Rattle.command_words.proofs.operands.rule_of.Given as goal

abbrev pub invariant-loop-rule : goal.invariant-loop-rule
invariant-loop-rule l = rule_of (drop l.rule-index l.rules) l.name ≡ rule_of l.rules l.name
