use Rattle.std.proofs.Common.{◌≡◌, ◌*◌}
use Rattle.gold_scramble.specs.Registers.{moved}
use Rattle.gold_scramble.specs.declared.gold.TheConstants.{STEP}
use Rattle.gold_scramble.proofs.Moving.{first_registers}
use Rattle.gold_scramble.proofs.gold.Gold.new.Given as goal

abbrev pub invariant-loop : goal.invariant-loop
invariant-loop l = l.gold ≡ moved (first_registers l.fn.init) (l.counter * STEP)
