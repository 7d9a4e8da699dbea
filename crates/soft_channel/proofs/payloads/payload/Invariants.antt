use Rattle.std.proofs.Common.{◌≡◌, ◌*◌, map}
use Rattle.std.specs.List.{range_with_len}
use Rattle.soft_channel.specs.TrialPayload.{payload_draw, payload_byte}
use Rattle.soft_channel.proofs.Drawing.{drawn}
use Rattle.soft_channel.proofs.payloads.payload.Given as goal

abbrev pub invariant-loop : goal.invariant-loop
invariant-loop l =
    (l.words ≡ drawn (payload_draw l.seed l.block) (64 * l.counter))
    × (l.bytes.items ≡ map (payload_byte l.seed l.block) (range_with_len 0 (64 * l.counter)))
