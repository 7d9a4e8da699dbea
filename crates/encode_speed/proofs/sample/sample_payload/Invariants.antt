use Rattle.std.proofs.Common.{◌≡◌, map}
use Rattle.std.specs.List.{range_with_len}
use Rattle.encode_speed.specs.Sample.{sample_byte}
use Rattle.encode_speed.proofs.sample.sample_payload.Given as goal

abbrev pub invariant-loop-i : goal.invariant-loop-i
invariant-loop-i l = l.bytes.items ≡ map sample_byte (range_with_len 0 l.i)
