use Rattle.std.proofs.Common.{◌≡◌, ◌≤◌, length}
use denote.Text.{Utf8}
use denote.Shadow.{shadow}
use Rattle.command_words.specs.Operands.{listed}
use Rattle.command_words.specs.Rules.{most}
use Rattle.command_words.specs.Taken.{gathered}
use Rattle.command_words.proofs.lists.list_of_numbers.Given as goal

abbrev pub invariant-loop-first : goal.invariant-loop-first
invariant-loop-first l =
    shadow (Utf8 l.rest)
    × (gathered l.rule l.taken (listed l.rest) ≡ gathered l.initial.rule l.initial.taken (listed l.initial.rest))
    × (length l.taken.numbers ≤ most l.rule.form)

abbrev pub decreases-loop-first : goal.decreases-loop-first
decreases-loop-first l = length l.rest
