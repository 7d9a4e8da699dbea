use Rattle.std.proofs.Common.{◌≡◌}
use Rattle.std.specs.Prelude.{drop}
use Rattle.std.specs.List.{list_any}
use Rattle.command_words.specs.Operands.{is_named}
use Rattle.command_words.specs.Texts.{texts_of}
use Rattle.command_words.proofs.operands.is_given.Given as goal

abbrev pub invariant-loop-word : goal.invariant-loop-word
invariant-loop-word l = list_any (is_named l.name) (texts_of (drop l.word-index l.words)) ≡ list_any (is_named l.name) (texts_of l.words)
