use Rattle.std.proofs.Common.{pos}
use Rattle.gold_scramble.specs.Places.{at, highest_first}
use Rattle.gold_scramble.specs.Scrambling.{turned_value}
use Rattle.gold_scramble.proofs.Words.{IsWritten}
use Rattle.gold_scramble.proofs.scrambling.turn_by_word.Given as goal

abbrev pub invariant-loop-i : goal.invariant-loop-i
invariant-loop-i l = IsWritten (λ k v. turned_value (at (highest_first 32 l.word) k) v) (pos 0) l.initial.softs l.i l.softs
