use Rattle.std.proofs.Common.{◌≡◌, take}
use Rattle.gomzelat_c.specs.State.{digits_of}
use Rattle.gomzelat_c.proofs.state.digits_of.Given as goal

abbrev pub invariant-loop-each : goal.invariant-loop-each
invariant-loop-each l = l.digits.items ≡ digits_of (take l.each-index l.results)
