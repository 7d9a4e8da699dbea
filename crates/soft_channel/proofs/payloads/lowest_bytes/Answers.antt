use Rattle.std.proofs.Common.{◌%◌, ℕ, arith}
use Rattle.soft_channel.proofs.Pieces.{mapped}
use Rattle.soft_channel.proofs.payloads.lowest_bytes.Goals as goal

pub returns : goal.returns
returns c =
    mapped (λ (w : ℕ). w % 256) c.args.words.now c.loop-i.bytes 64 0 0 (omega (arith, c.loop-i.auto)) c.loop-i.invariant.0
    (λ k h. c.loop-i.invariant.1 k (omega arith))
