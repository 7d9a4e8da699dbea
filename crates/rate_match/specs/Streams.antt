-- Bits of the coded streams of a code block.
use Rattle.std.specs.Prelude.{◌<◌, length}
use Rattle.lte_bits.specs.declared.block.Streams.{Streams}
use Rattle.model_sender.specs.CircularBuffer.{stream_of}
use Rattle.model_sender.specs.declared.spot.Spot.{Spot}

-- the streams have this bit
abbrev pub HasBit : Streams → Spot → Type 0
HasBit streams b = b.index < length (stream_of streams b.stream)
