use Rattle.std.proofs.Common.{◌≡◌, ◌*◌}
use Rattle.lte_bits.specs.declared.bit.Bit.TheVariants.{Zero}
use Rattle.gold_scramble.specs.Places.{plus}
use Rattle.gold_scramble.specs.Registers.{moved, started}
use Rattle.gold_scramble.specs.Sequence.{c}
use Rattle.gold_scramble.proofs.Words.{IsWritten}
use Rattle.gold_scramble.proofs.scrambling.scramble_bits.Given as goal

abbrev pub invariant-loop-i : goal.invariant-loop-i
invariant-loop-i l = record {
  gold : l.gold ≡ moved (started l.fn.init) (32 * l.i);
  bits : IsWritten (λ k b. plus b (c l.fn.init k)) Zero l.initial.bits (32 * l.i) l.bits;
}
