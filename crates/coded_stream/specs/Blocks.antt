-- The blocks of a stream.
use Rattle.std.specs.Prelude.{◌≡◌, ℕ, ◌-◌, ◌*◌, ◌%◌, ◌^◌, ◌≤◌, Bool, false, not, ◌==◌, List, [], ◌∷◌, ◌++◌, length, map, sum_by, slice_index}
use Rattle.std.specs.Int.{div_ceil}
use Rattle.coded_stream.specs.Header.{Header, word_text}
use Rattle.coded_stream.specs.declared.kind.Kind.{Kind}
use Rattle.coded_stream.specs.declared.kind.Kind.TheVariants.{Hard, Soft}

-- the bytes of its payload, and the bytes of its transmissions, one transmission after the other
pub record Block : Type 0 where
  pub payload : ℕ
  pub bytes : List ℕ

-- G of each transmission
abbrev pub lengths : Header → List ℕ
lengths h = map (λ s. s.m.g) h.sends

-- the bytes of a transmission of g bits, packed, or of g soft values
abbrev pub transmission_size : Kind → ℕ → ℕ
transmission_size Hard g = div_ceil g 8
transmission_size Soft g = g

-- those of transmissions of these numbers of bits
abbrev pub block_size : Kind → List ℕ → ℕ
block_size kind gs = sum_by (transmission_size kind) gs

-- the unused low bits of the last byte of g bits
abbrev pub spare_bits : ℕ → ℕ
spare_bits g = 8 * div_ceil g 8 - g

-- one of them is 1
abbrev pub has_bad_bit : Kind → ℕ → List ℕ → Bool
has_bad_bit Hard g bytes = not (slice_index bytes (length bytes - 1) % 2 ^ spare_bits g == 0)
has_bad_bit Soft g bytes = false

pub record IsTransmission (kind : Kind) (g : ℕ) (bytes : List ℕ) : Type 0 where
  pub size : length bytes ≡ transmission_size kind g
  pub good : has_bad_bit kind g bytes ≡ false

-- transmissions of these numbers of bits, one after the other
abbrev pub AreTransmissions : Kind → List ℕ → List ℕ → Type 0
AreTransmissions kind [] bytes = bytes ≡ []
AreTransmissions kind (g ∷ gs) bytes =
    (first rest : List ℕ)
    × (bytes ≡ first ++ rest) × IsTransmission kind g first × AreTransmissions kind gs rest

pub record IsBlock (h : Header) (b : Block) : Type 0 where
  pub some : 1 ≤ b.payload
  pub few : b.payload ≤ h.tb
  pub sent : AreTransmissions h.kind (lengths h) b.bytes

-- its length word and its transmissions
abbrev pub block_text : Block → List ℕ
block_text b = word_text b.payload ++ b.bytes
