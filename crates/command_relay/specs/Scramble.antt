-- What `scramble` makes of a stream: the same blocks, each transmission scrambled (36.211 5.3.1, 6.3.1).
use Rattle.std.specs.Prelude.{ℕ, ◌+◌, ◌*◌, ◌%◌, List, length}
use Rattle.lte_bits.specs.Packing.{packed}
use Rattle.model_sender.specs.CircularBuffer.{Match}
use Rattle.gold_scramble.specs.Initial.{c_init}
use Rattle.gold_scramble.specs.Scrambling.{scrambled, turned}
use Rattle.coded_stream.specs.Header.{Header}
use Rattle.coded_stream.specs.declared.kind.Kind.{Kind}
use Rattle.coded_stream.specs.declared.kind.Kind.TheVariants.{Hard, Soft}
use Rattle.coded_stream.specs.declared.kind.Want.TheVariants as want
use Rattle.stream_loop.specs.Handling.{Handling}
use Rattle.stream_loop.specs.SoftBytes.{bytes_of, softs_of}
use Rattle.command_relay.specs.HardBits.{bits_in}
use Rattle.command_relay.specs.Conversions.{Conversion, handling_of}

-- the terminal's identity, the codeword, the slot of the first transmission, and the cell
pub record Scrambling : Type 0 where
  pub rnti : ℕ
  pub q : ℕ
  pub slot : ℕ
  pub cell : ℕ

-- the slot of a transmission, with n transmissions in each block: two slots after the one before it, which is
-- this project's own rule
abbrev pub slot_of : Scrambling → (n block number : ℕ) → ℕ
slot_of s n block number = (s.slot + 2 * (block * n + number)) % 20

-- c_init of a transmission
abbrev pub init_of : Scrambling → (n block number : ℕ) → ℕ
init_of s n block number = c_init s.rnti s.q (slot_of s n block number) s.cell

-- a transmission with its bits scrambled, or with its soft values turned
abbrev pub turned_bytes : Kind → (init : ℕ) → Match → (bytes : List ℕ) → List ℕ
turned_bytes Hard init m bytes = packed (scrambled init (bits_in m bytes))
turned_bytes Soft init m bytes = bytes_of (turned init (softs_of bytes))

abbrev pub scrambled_text : Scrambling → Header → (block number : ℕ) → Match → (bytes : List ℕ) → List ℕ
scrambled_text s h block number m bytes =
    turned_bytes h.kind (init_of s (length h.sends) block number) m bytes

-- the header is that of the stream that is read
abbrev pub scrambled_conversion : Scrambling → Conversion
scrambled_conversion s = record { want = want.Any; header = λ h. h; made = scrambled_text s }

abbrev pub scrambling : Scrambling → Handling
scrambling s = handling_of (scrambled_conversion s)
