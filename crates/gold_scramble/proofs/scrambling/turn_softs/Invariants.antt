use Rattle.std.proofs.Common.{◌≡◌, ◌*◌, pos}
use Rattle.gold_scramble.specs.Registers.{moved, started}
use Rattle.gold_scramble.specs.Scrambling.{turned_value}
use Rattle.gold_scramble.specs.Sequence.{c}
use Rattle.gold_scramble.proofs.Words.{IsWritten}
use Rattle.gold_scramble.proofs.scrambling.turn_softs.Given as goal

abbrev pub invariant-loop-i : goal.invariant-loop-i
invariant-loop-i l = record {
  gold : l.gold ≡ moved (started l.fn.init) (32 * l.i);
  softs : IsWritten (λ k v. turned_value (c l.fn.init k) v) (pos 0) l.initial.softs (32 * l.i) l.softs;
}
