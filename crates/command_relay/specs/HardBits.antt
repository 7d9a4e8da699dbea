-- The bits of a hard transmission.
use Rattle.std.specs.Prelude.{ℕ, List, take}
use Rattle.lte_bits.specs.Packing.{unpacked}
use Rattle.lte_bits.specs.declared.bit.Bit.{Bit}
use Rattle.model_sender.specs.CircularBuffer.{Match}

-- the bits of a transmission, without the unused ones of its last byte
abbrev pub bits_in : Match → (bytes : List ℕ) → List Bit
bits_in m bytes = take m.g (unpacked bytes)
