use Rattle.std.proofs.Common.{◌≡◌, ◌+◌, None, flat_map, take}
use Rattle.rate_match.specs.Matching.{limit_of}
use Rattle.gomzelat_c.specs.Transmissions.{transmissions_of}
use Rattle.gomzelat_c.specs.Tests.{first_failed, transmission_tests}
use Rattle.gomzelat_c.proofs.transmission.sends_of.Given as goal

abbrev pub invariant-loop-transmission : goal.invariant-loop-transmission
invariant-loop-transmission l = let seen = take (l.transmission-index + 1) l.transmissions in record {
  sends : l.sends ≡ transmissions_of (limit_of l.buffer) seen;
  passed : first_failed (flat_map transmission_tests seen) ≡ None;
}
