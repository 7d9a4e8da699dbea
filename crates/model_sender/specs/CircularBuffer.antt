-- The sub-block interleaver (36.212 5.1.4.1.1), and the circular buffer with its numbers (5.1.4.1.2).
use Rattle.std.specs.Prelude.{◌≡◌, ◌↔◌, ℕ, ◌+◌, ◌-◌, ◌*◌, ◌/◌, ◌%◌, ◌<◌, ◌≤◌, nat_lt, ◌==◌, if◌then◌else◌, min, List, [], ◌∷◌, ◌++◌, length, replicate, slice_index, slice_index_or, Option, None, Some}
use Rattle.lte_bits.specs.declared.bit.Cell.{Cell}
use Rattle.lte_bits.specs.declared.bit.Cell.TheVariants.{Null}
use Rattle.lte_bits.specs.declared.block.Streams.{Streams}
use Rattle.std.specs.Int.{div_ceil}
use Rattle.model_sender.specs.Segmentation.{Plan}
use Rattle.model_sender.specs.declared.spot.Spot.{Spot}

-- P, the order in which the 32 columns are read
abbrev pub column_order : List ℕ
column_order =
    0 ∷ 16 ∷ 8 ∷ 24 ∷ 4 ∷ 20 ∷ 12 ∷ 28 ∷ 2 ∷ 18 ∷ 10 ∷ 26 ∷ 6 ∷ 22 ∷ 14 ∷ 30
    ∷ 1 ∷ 17 ∷ 9 ∷ 25 ∷ 5 ∷ 21 ∷ 13 ∷ 29 ∷ 3 ∷ 19 ∷ 11 ∷ 27 ∷ 7 ∷ 23 ∷ 15 ∷ 31 ∷ []

-- R, the rows that a stream of k + 4 cells takes
abbrev pub rows_of : ℕ → ℕ
rows_of k = div_ceil (k + 4) 32

-- N_D, the NULLs that stand before a stream of k + 4 cells and fill its rows
abbrev pub padding : ℕ → ℕ
padding k = 32 * rows_of k - (k + 4)

-- where place k, read by columns, stands by rows
abbrev pub read_place : ℕ → ℕ → ℕ
read_place r k = slice_index column_order (k / r) + 32 * (k % r)

-- a stream of a block of k bits: 0, 1 or 2 of the three, with so many NULLs in front
pub record Stream : Type 0 where
  pub k : ℕ
  pub number : ℕ
  pub nulls : ℕ

-- the bit at place p of y, which is the stream after its padding; none at a NULL
abbrev pub padded : Stream → ℕ → Option Spot
padded d p =
    if nat_lt p (padding d.k + d.nulls) then None
    else Some (record { stream = d.number; index = p - padding d.k })

-- the bit at place n of w, by index and fillers alone: v0 of d0 first, then v1 of d1 and v2 of d2 by turns
abbrev pub spot : ℕ → ℕ → ℕ → Option Spot
spot k fill n =
    let r = rows_of k in
    let m = n - 32 * r in
    let place = read_place r (m / 2) in
    if nat_lt n (32 * r) then padded (record { k = k; number = 0; nulls = fill }) (read_place r n)
    else if m % 2 == 0 then padded (record { k = k; number = 1; nulls = fill }) place
    else padded (record { k = k; number = 2; nulls = 0 }) ((place + 1) % (32 * r))

abbrev pub stream_of : Streams → ℕ → List Cell
stream_of s number = if number == 0 then s.d0 else if number == 1 then s.d1 else s.d2

abbrev pub cell_at : Streams → Option Spot → Cell
cell_at s None = Null
cell_at s (Some p) = slice_index_or (stream_of s p.stream) p.index Null

-- w(n) of the streams of a block of k bits, whose first `fill` are fillers
abbrev pub w : ℕ → ℕ → Streams → ℕ → Cell
w k fill s n = cell_at s (spot k fill n)

-- ---- The same in the standard's words, which the law `buffer_is_read_by_columns` ties to `w`.

-- y, a stream after the NULLs that fill its rows
abbrev pub y : ℕ → List Cell → List Cell
y k stream = replicate (padding k) Null ++ stream

-- NULL stands at exactly the first places of a stream, which are so many
abbrev pub HasNulls : ℕ → List Cell → Type 0
HasNulls nulls stream = (i : ℕ) → i < length stream → (slice_index_or stream i Null ≡ Null) ↔ (i < nulls)

-- the streams of a block of k bits: NULL stands at the fillers of d0 and d1, and nowhere in d2
pub record AreStreams (k fill : ℕ) (s : Streams) : Type 0 where
  pub d0_long : length s.d0 ≡ k + 4
  pub d1_long : length s.d1 ≡ k + 4
  pub d2_long : length s.d2 ≡ k + 4
  pub d0_nulls : HasNulls fill s.d0
  pub d1_nulls : HasNulls fill s.d1
  pub d2_nulls : HasNulls 0 s.d2

-- ---- The numbers of the buffer.

-- K_w, the places of the buffer
abbrev pub buffer_size : ℕ → ℕ
buffer_size k = 96 * rows_of k

-- what the rate matching of a transport block is told: Q_m, N_L, G, and N_IR, or None for a full buffer
pub record Match : Type 0 where
  pub qm : ℕ
  pub nl : ℕ
  pub g : ℕ
  pub limit : Option ℕ

-- N_cb of a block of k bits
abbrev pub buffer_length : Option ℕ → ℕ → ℕ → ℕ
buffer_length None c k = buffer_size k
buffer_length (Some limit) c k = min (limit / c) (buffer_size k)

-- the buffer is full, or keeps all of v0 of the largest block
abbrev pub FitsIn : Option ℕ → ℕ → ℕ → Type 0
FitsIn None c k = Unit {0}
FitsIn (Some limit) c k = 32 * rows_of k ≤ limit / c

abbrev pub Fits : Match → Plan → Type 0
Fits m plan = FitsIn m.limit plan.c plan.k_plus

-- E_r, the bits that block r sends, of G' = G/(N_L Q_m) times N_L Q_m
abbrev pub piece_length : Match → ℕ → ℕ → ℕ
piece_length m c r =
    let unit = m.nl * m.qm in
    let units = m.g / unit in
    if nat_lt (r + units % c) c then unit * (units / c) else unit * div_ceil units c

-- k0, where redundancy version rv starts in a buffer of ncb places
abbrev pub start : ℕ → ℕ → ℕ → ℕ
start k ncb rv = let r = rows_of k in r * (2 * div_ceil ncb (8 * r) * rv + 2)
