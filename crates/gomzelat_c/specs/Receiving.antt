-- What comes of the transmissions of a transport block.
use Rattle.std.specs.Prelude.{ℕ, ℤ, ◌≤◌, List, length, map}
use Rattle.lte_bits.specs.Softs.{clamped}
use Rattle.model_sender.specs.Segmentation.{plan_of}
use Rattle.model_receiver.specs.TransportBlocks.{outcome}
use Rattle.model_receiver.specs.declared.result.TbOutcome.{TbOutcome}
use Rattle.model_receiver.specs.declared.result.TbOutcome.TheVariants.{Delivered, Failed}
use Rattle.block_receive.specs.Receptions.{receptions}
use Rattle.gomzelat_c.specs.Buffers.{with_front}
use Rattle.gomzelat_c.specs.Transmissions.{limit_in, transmissions_of}
use Rattle.gomzelat_c.specs.declared.receiver.Outcome.{Outcome}
use Rattle.gomzelat_c.specs.declared.receiver.Receiver.{Receiver}
use Rattle.gomzelat_c.specs.declared.transmission.Transmission.{Transmission}

-- what a receiver makes of the transmissions of a payload of so many bytes, from their soft values, one
-- transmission after the other; -128 is taken as -127
abbrev pub received : (bytes : ℕ) → List Transmission → Receiver → (values : List ℤ) → TbOutcome
received bytes ts r values =
    outcome (plan_of bytes) (record { windows = r.windows; limit = r.limit })
    (receptions (transmissions_of (limit_in r.n_ir) ts) (map (clamped 127) values))

-- what is told of an outcome
abbrev pub summary : TbOutcome → Outcome
summary (Delivered bytes transmissions iterations) =
    record { delivered = 1; transmissions = transmissions; iterations = iterations }
summary (Failed transmissions iterations) =
    record { delivered = 0; transmissions = transmissions; iterations = iterations }

-- a buffer then: the payload in front, where it was delivered
abbrev pub with_payload : TbOutcome → List ℕ → List ℕ
with_payload (Delivered bytes transmissions iterations) buffer = with_front bytes buffer
with_payload (Failed transmissions iterations) buffer = buffer

-- there is room for the payload
abbrev pub HasRoom : TbOutcome → (room : ℕ) → Type 0
HasRoom (Delivered bytes transmissions iterations) room = length bytes ≤ room
HasRoom (Failed transmissions iterations) room = Unit {0}
