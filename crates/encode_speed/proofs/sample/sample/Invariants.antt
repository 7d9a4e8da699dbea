use Rattle.std.proofs.Common.{◌≡◌, map}
use Rattle.std.specs.List.{range_with_len}
use Rattle.encode_speed.specs.Sample.{sample_bit}
use Rattle.encode_speed.proofs.sample.sample.Given as goal

abbrev pub invariant-loop-i : goal.invariant-loop-i
invariant-loop-i l = l.bits.items ≡ map sample_bit (range_with_len 0 l.i)
