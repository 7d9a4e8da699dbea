use Rattle.std.proofs.Common.{◌≡◌, map, take}
use Rattle.gomzelat_c.specs.State.{entry_of}
use Rattle.gomzelat_c.proofs.state.entries_of.Given as goal

abbrev pub invariant-loop-each : goal.invariant-loop-each
invariant-loop-each l = l.entries.items ≡ map entry_of (take l.each-index l.results)
