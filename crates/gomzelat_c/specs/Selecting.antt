-- The bits that a code block sends, and what is tested of a call for them.
use Rattle.std.specs.Prelude.{ℕ, List, [], ◌∷◌, ◌++◌, length, map, nat_le}
use Rattle.lte_bits.specs.Bits.{digit}
use Rattle.model_sender.specs.CircularBuffer.{piece_length}
use Rattle.model_sender.specs.CodeBlocks.{block}
use Rattle.model_sender.specs.CodedStreams.{streams}
use Rattle.model_sender.specs.Segmentation.{plan_of}
use Rattle.model_sender.specs.Selection.{sent}
use Rattle.gomzelat_c.specs.Stages.{piece_tests}
use Rattle.gomzelat_c.specs.Tests.{Test, test}
use Rattle.gomzelat_c.specs.Transmissions.{limit_in, transmission_of}
use Rattle.gomzelat_c.specs.declared.refusal.Refusal.TheVariants.{ShortOutput}
use Rattle.gomzelat_c.specs.declared.transmission.Transmission.{Transmission}

-- what block r of a payload of so many bytes sends, with room for so many bits
abbrev pub selection_tests : (bytes r : ℕ) → Transmission → (n_ir room : ℕ) → List Test
selection_tests bytes r t n_ir room =
    let m = (transmission_of (limit_in n_ir) t).m in
    piece_tests bytes r t n_ir ++ (test (nat_le (piece_length m (plan_of bytes).c r) room) ShortOutput ∷ [])

-- the bits that block r of a payload sends
abbrev pub selected : List ℕ → (r : ℕ) → Transmission → (n_ir : ℕ) → List ℕ
selected payload r t n_ir =
    let p = plan_of (length payload) in
    let s = transmission_of (limit_in n_ir) t in
    map digit (sent p s.m (streams (block p payload r)) r s.rv)
