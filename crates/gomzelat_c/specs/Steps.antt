-- One transmission that is combined, and one try.
use Rattle.std.specs.Prelude.{ℕ, ℤ, if◌then◌else◌, List, map}
use Rattle.lte_bits.specs.Softs.{clamped}
use Rattle.model_sender.specs.Segmentation.{Plan, plan_of}
use Rattle.model_receiver.specs.declared.result.CodeResult.{CodeResult}
use Rattle.model_receiver.specs.SoftCells.{Reception, reception}
use Rattle.model_receiver.specs.Limits.{DecoderLimits}
use Rattle.model_receiver.specs.TransportBlocks.{delivers, held_after}
use Rattle.soft_buffers.specs.Flat.{combined}
use Rattle.block_receive.specs.Tries.{tried_from}
use Rattle.gomzelat_c.specs.State.{cells_of, kept}
use Rattle.gomzelat_c.specs.Transmissions.{limit_in, transmission_of}
use Rattle.gomzelat_c.specs.declared.receiver.Receiver.{Receiver}
use Rattle.gomzelat_c.specs.declared.state.CodeBlock.{CodeBlock}
use Rattle.gomzelat_c.specs.declared.transmission.Transmission.{Transmission}

-- what came of a transmission
abbrev pub came : Transmission → (n_ir : ℕ) → (values : List ℤ) → Reception
came t n_ir values =
    let s = transmission_of (limit_in n_ir) t in reception s.m s.rv (map (clamped 127) values)

-- the soft cells of a payload of so many bytes with a transmission more
abbrev pub cells_after : (bytes : ℕ) → Transmission → (n_ir : ℕ) → (values cells : List ℤ) → List ℤ
cells_after bytes t n_ir values cells = combined (plan_of bytes) (came t n_ir values) (map (clamped 127) cells)

abbrev pub limits_of : Receiver → DecoderLimits
limits_of r = record { windows = r.windows; limit = r.limit }

-- the results of a try: those that are kept and passed, unless all did, and else what is decoded from the cells
abbrev pub results_after : (bytes : ℕ) → Receiver → (cells : List ℤ) → List CodeBlock → (bits : List ℕ) → List CodeResult
results_after bytes r cells blocks bits =
    let plan = plan_of bytes in tried_from plan (limits_of r) (cells_of plan cells) (held_after (kept plan blocks bits))

-- whether they deliver, as a number
abbrev pub delivery : Plan → List CodeResult → ℕ
delivery plan results = if delivers plan results then 1 else 0
