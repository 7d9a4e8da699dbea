-- What is told of the stages between a payload and its codeword, a code block at a time.
use Rattle.std.specs.Prelude.{ℕ, ◌+◌, ◌*◌, None, Some, List, [], ◌∷◌, ◌++◌, length, map, nat_le, nat_lt}
use Rattle.std.specs.declared.option.Option.{Option}
use Rattle.std.specs.List.{range_with_len}
use Rattle.lte_bits.specs.Bits.{digit}
use Rattle.lte_bits.specs.declared.bit.Cell.{Cell}
use Rattle.lte_bits.specs.declared.bit.Cell.TheVariants.{Zero, One, Null}
use Rattle.model_sender.specs.CircularBuffer.{buffer_length, buffer_size, piece_length, spot, start}
use Rattle.model_sender.specs.CodeBlocks.{block}
use Rattle.model_sender.specs.CodedStreams.{streams}
use Rattle.model_sender.specs.Segmentation.{Plan, fill, plan_of, size}
use Rattle.model_sender.specs.declared.spot.Spot.{Spot}
use Rattle.rate_match.specs.declared.sends.Sending.{Sending}
use Rattle.gomzelat_c.specs.Tests.{Test, buffer_test, length_test, test, transmission_tests}
use Rattle.gomzelat_c.specs.declared.refusal.Refusal.TheVariants.{BadBlock, ShortOutput}
use Rattle.gomzelat_c.specs.declared.pieces.Piece.{Piece}
use Rattle.gomzelat_c.specs.declared.transmission.Transmission.{Transmission}

-- ---- What is tested.

-- a payload of so many bytes has a block r
abbrev pub block_test : (bytes r : ℕ) → Test
block_test bytes r = test (nat_lt r (plan_of bytes).c) BadBlock

-- block r of a payload of so many bytes, where so many values are to be written
abbrev pub stage_tests : (bytes r values room : ℕ) → List Test
stage_tests bytes r values room =
    length_test bytes ∷ block_test bytes r ∷ test (nat_le values room) ShortOutput ∷ []

-- what block r of a payload of so many bytes sends
abbrev pub piece_tests : (bytes r : ℕ) → Transmission → (n_ir : ℕ) → List Test
piece_tests bytes r t n_ir =
    length_test bytes ∷ transmission_tests t ++ (buffer_test bytes n_ir ∷ block_test bytes r ∷ [])

-- ---- What is written.

-- 0, 1, or 2 at a NULL
abbrev pub cell_number : Cell → ℕ
cell_number Zero = 0
cell_number One = 1
cell_number Null = 2

-- the bits of block r of a payload
abbrev pub block_digits : List ℕ → (r : ℕ) → List ℕ
block_digits payload r = map digit (block (plan_of (length payload)) payload r).bits

-- its coded streams, one after the other
abbrev pub stream_numbers : List ℕ → (r : ℕ) → List ℕ
stream_numbers payload r =
    let s = streams (block (plan_of (length payload)) payload r) in map cell_number (s.d0 ++ s.d1 ++ s.d2)

-- the places that the coded streams of block r take
abbrev pub stream_places : (bytes r : ℕ) → ℕ
stream_places bytes r = 3 * (size (plan_of bytes) r + 4)

-- 65536 for each stream before, and the index; or the greatest number at a NULL
abbrev pub spot_number : Option Spot → ℕ
spot_number None = 4294967295
spot_number (Some p) = 65536 * p.stream + p.index

-- the spots of the first so many places of a circular buffer
abbrev pub spots_to : (k fill places : ℕ) → List ℕ
spots_to k fill places = map (λ n. spot_number (spot k fill n)) (range_with_len 0 places)

-- the spots of the circular buffer of block r
abbrev pub block_spots : (bytes r : ℕ) → List ℕ
block_spots bytes r =
    let p = plan_of bytes in spots_to (size p r) (fill p r) (buffer_size (size p r))

-- K, the fillers, K_w, N_cb, k0 and E of block r
abbrev pub piece_in : Plan → (r : ℕ) → Sending → Piece
piece_in p r s =
    let k = size p r in
    let places = buffer_length s.m.limit p.c k in
    record {
      k = k;
      fill = fill p r;
      buffer = buffer_size k;
      places = places;
      start = start k places s.rv;
      bits = piece_length s.m p.c r;
    }
