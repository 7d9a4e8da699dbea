-- What is tested of a call's arguments: the first test that doesn't hold says what is refused.
use Rattle.std.specs.Prelude.{ℕ, ◌+◌, ◌*◌, ◌/◌, Bool, ◌&&◌, ◌==◌, nat_le, if◌then◌else◌, None, Some, List, [], ◌∷◌, ◌++◌, length, flat_map}
use Rattle.std.specs.declared.option.Option.{Option}
use Rattle.std.specs.List.{sum_by}
use Rattle.model_sender.specs.Segmentation.{plan_of}
use Rattle.rate_match.specs.Matching.{is_g, is_nl, is_qm}
use Rattle.rate_match.specs.Fitting.{fits_in}
use Rattle.soft_buffers.specs.Flat.{cell_count}
use Rattle.gomzelat_c.specs.State.{bit_count}
use Rattle.gomzelat_c.specs.Transmissions.{limit_in}
use Rattle.gomzelat_c.specs.declared.channel.Channel.{Channel}
use Rattle.gomzelat_c.specs.declared.decoding.Rooms.{Rooms}
use Rattle.gomzelat_c.specs.declared.receiver.Receiver.{Receiver}
use Rattle.gomzelat_c.specs.declared.refusal.Refusal.{Refusal}
use Rattle.gomzelat_c.specs.declared.refusal.Refusal.TheVariants.{BadLength, BadCount, BadQm, BadNl, BadG, BadVersion, BadBuffer, BadWindows, BadLimit, BadValues, BadBits, BadAmp, BadNoise, BadNumber, ShortOutput, ShortCells, ShortBlocks, ShortBits}
use Rattle.gomzelat_c.specs.declared.transmission.Transmission.{Transmission}

-- what has to hold, and what is refused where it doesn't
pub record Test : Type 0 where
  pub holds : Bool
  pub otherwise : Refusal

abbrev pub test : Bool → Refusal → Test
test holds otherwise = record { holds = holds; otherwise = otherwise }

abbrev pub first_failed : List Test → Option Refusal
first_failed [] = None
first_failed (t ∷ ts) = if t.holds then first_failed ts else Some t.otherwise

-- n is from low to high
abbrev pub is_from : (low high n : ℕ) → Bool
is_from low high n = nat_le low n && nat_le n high

-- the bytes of so many bits
abbrev pub byte_count : ℕ → ℕ
byte_count bits = (bits + 7) / 8

-- ---- The tests of parts.

-- a payload of so many bytes
abbrev pub length_test : ℕ → Test
length_test bytes = test (is_from 1 18722 bytes) BadLength

-- a transmission
abbrev pub transmission_tests : Transmission → List Test
transmission_tests t =
    test (is_qm t.qm) BadQm
    ∷ test (is_nl t.nl) BadNl
    ∷ test (is_g (t.nl * t.qm) t.g) BadG
    ∷ test (nat_le t.rv 3) BadVersion
    ∷ []

-- transmissions of a payload of so many bytes
abbrev pub series_tests : (bytes : ℕ) → List Transmission → List Test
series_tests bytes ts =
    length_test bytes ∷ test (is_from 1 8 (length ts)) BadCount ∷ flat_map transmission_tests ts

-- N_IR soft values for a payload of so many bytes
abbrev pub buffer_test : (bytes n_ir : ℕ) → Test
buffer_test bytes n_ir = test (fits_in (limit_in n_ir) (plan_of bytes).c (plan_of bytes).k_plus) BadBuffer

-- ---- The tests of calls.

-- a codeword of a payload of so many bytes, with room for so many bytes
abbrev pub codeword_tests : (bytes : ℕ) → Transmission → (n_ir room : ℕ) → List Test
codeword_tests bytes t n_ir room =
    length_test bytes
    ∷ transmission_tests t
    ++ (buffer_test bytes n_ir ∷ test (nat_le (byte_count t.g) room) ShortOutput ∷ [])

-- codewords of so many bytes with this soft buffer, with room for so many bytes
abbrev pub output_tests : (bytes n_ir written room : ℕ) → List Test
output_tests bytes n_ir written room =
    buffer_test bytes n_ir ∷ test (nat_le written room) ShortOutput ∷ []

-- the codewords of transmissions of a payload of so many bytes, with room for so many bytes
abbrev pub codewords_tests : (bytes : ℕ) → List Transmission → (n_ir room : ℕ) → List Test
codewords_tests bytes ts n_ir room =
    series_tests bytes ts ++ output_tests bytes n_ir (sum_by (λ t. byte_count t.g) ts) room

-- how a payload of so many bytes is received from the soft values of so many bits, with room for so many bytes
abbrev pub test_receiver : (bytes bits : ℕ) → Receiver → (values room : ℕ) → List Test
test_receiver bytes bits r values room =
    buffer_test bytes r.n_ir
    ∷ test (is_from 1 64 r.windows) BadWindows
    ∷ test (is_from 1 16 r.limit) BadLimit
    ∷ test (values == bits) BadValues
    ∷ test (nat_le bytes room) ShortOutput
    ∷ []

abbrev pub reception_tests : (bytes : ℕ) → List Transmission → Receiver → (values room : ℕ) → List Test
reception_tests bytes ts r values room =
    series_tests bytes ts ++ test_receiver bytes (sum_by (λ t. t.g) ts) r values room

-- there are soft cells for a payload of so many bytes
abbrev pub cells_test : (bytes cells : ℕ) → Test
cells_test bytes cells = test (nat_le (cell_count (plan_of bytes)) cells) ShortCells

-- how so many soft values of a transmission are combined with so many soft cells
abbrev pub combine_tests : (bytes : ℕ) → Transmission → (n_ir values cells : ℕ) → List Test
combine_tests bytes t n_ir values cells =
    length_test bytes
    ∷ transmission_tests t
    ++ (buffer_test bytes n_ir ∷ test (values == t.g) BadValues ∷ cells_test bytes cells ∷ [])

-- how code blocks are decoded
abbrev pub decode_tests : (bytes : ℕ) → Receiver → Rooms → List Test
decode_tests bytes r rooms =
    length_test bytes
    ∷ buffer_test bytes r.n_ir
    ∷ test (is_from 1 64 r.windows) BadWindows
    ∷ test (is_from 1 16 r.limit) BadLimit
    ∷ test (nat_le bytes rooms.payload) ShortOutput
    ∷ cells_test bytes rooms.cells
    ∷ test (nat_le (plan_of bytes).c rooms.blocks) ShortBlocks
    ∷ test (nat_le (bit_count (plan_of bytes)) rooms.bits) ShortBits
    ∷ []

-- soft values of so many bits, which are in so many bytes, with room for so many values
abbrev pub noise_tests : (bits bytes : ℕ) → Channel → (number room : ℕ) → List Test
noise_tests bits bytes c number room =
    test (nat_le (byte_count bits) bytes) BadBits
    ∷ test (is_from 1 127 c.amp) BadAmp
    ∷ test (nat_le c.noise 127) BadNoise
    ∷ test (nat_le number 7) BadNumber
    ∷ test (nat_le bits room) ShortOutput
    ∷ []
