use Rattle.std.proofs.Common.{◌≡◌, ◌+◌}
use Rattle.std.specs.Prelude.{drop}
use Rattle.command_words.specs.Operands.{given_from}
use Rattle.command_words.specs.Texts.{texts_of}
use Rattle.command_words.proofs.operands.given.Given as goal

abbrev pub invariant-loop-index : goal.invariant-loop-index
invariant-loop-index l =
    given_from (l.index + 1) l.rule (texts_of (drop l.index l.operands)) ≡ given_from 1 l.rule (texts_of l.operands)
