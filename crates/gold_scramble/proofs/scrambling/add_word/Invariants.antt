use Rattle.lte_bits.specs.declared.bit.Bit.TheVariants.{Zero}
use Rattle.gold_scramble.specs.Places.{at, highest_first, plus}
use Rattle.gold_scramble.proofs.Words.{IsWritten}
use Rattle.gold_scramble.proofs.scrambling.add_word.Given as goal

abbrev pub invariant-loop-i : goal.invariant-loop-i
invariant-loop-i l = IsWritten (λ k b. plus b (at (highest_first 32 l.word) k)) Zero l.initial.bits l.i l.bits
