use Rattle.std.proofs.Common.{◌≡◌, []}
use Rattle.std.specs.Prelude.{drop, take}
use Rattle.command_words.specs.Operands.{first_fault}
use Rattle.command_words.specs.Texts.{texts_of}
use Rattle.command_words.proofs.operands.first_fault.Given as goal

abbrev pub invariant-loop-index : goal.invariant-loop-index
invariant-loop-index l =
    first_fault l.rules (texts_of (take l.index l.operands)) (texts_of (drop l.index l.operands)) ≡ first_fault l.rules [] (texts_of l.operands)
