-- Soft values as bytes.
use Rattle.std.specs.Prelude.{ℕ, ◌-◌, nat_lt, if◌then◌else◌, ℤ, pos, negsuc, neg_ℤ, List, map}
use Rattle.lte_bits.specs.Softs.{clamped}

-- the number of a byte in two's complement
abbrev pub signed : ℕ → ℤ
signed byte = if nat_lt byte 128 then pos byte else neg_ℤ (pos (256 - byte))

-- the soft value of a byte: -128 is read as -127
abbrev pub soft_of : ℕ → ℤ
soft_of byte = clamped 127 (signed byte)

abbrev pub softs_of : List ℕ → List ℤ
softs_of bytes = map soft_of bytes

-- the byte of a soft value
abbrev pub byte_of : ℤ → ℕ
byte_of (pos n) = n
byte_of (negsuc n) = 255 - n

abbrev pub bytes_of : List ℤ → List ℕ
bytes_of softs = map byte_of softs
