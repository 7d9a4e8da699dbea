-- Scrambling as a caller tells it.
use Rattle.std.specs.Prelude.{ℕ, ℤ, nat_le, List, [], ◌∷◌, map, take}
use Rattle.lte_bits.specs.Packing.{packed, unpacked}
use Rattle.lte_bits.specs.Softs.{clamped}
use Rattle.gold_scramble.specs.Initial.{c_init}
use Rattle.gold_scramble.specs.Scrambling.{scrambled, turned}
use Rattle.gomzelat_c.specs.Tests.{Test, byte_count, test}
use Rattle.gomzelat_c.specs.declared.refusal.Refusal.TheVariants.{BadBits, BadScrambling}
use Rattle.gomzelat_c.specs.declared.scrambling.Scrambling.{Scrambling}

-- ---- What is tested.

-- the numbers of a transmission
abbrev pub scrambling_tests : Scrambling → List Test
scrambling_tests s =
    test (nat_le s.rnti 65535) BadScrambling
    ∷ test (nat_le s.q 1) BadScrambling
    ∷ test (nat_le s.slot 19) BadScrambling
    ∷ test (nat_le s.cell 503) BadScrambling
    ∷ []

-- so many bits to be scrambled, which are in so many bytes
abbrev pub scramble_tests : (bits bytes : ℕ) → Scrambling → List Test
scramble_tests bits bytes s = test (nat_le (byte_count bits) bytes) BadBits ∷ scrambling_tests s

-- ---- What is written.

-- what the sequence begins with
abbrev pub init_in : Scrambling → ℕ
init_in s = c_init s.rnti s.q s.slot s.cell

-- the first so many bits of bytes, scrambled, as bytes
abbrev pub scrambled_bytes : (count : ℕ) → (bytes : List ℕ) → Scrambling → List ℕ
scrambled_bytes count bytes s = packed (scrambled (init_in s) (take count (unpacked bytes)))

-- soft values of scrambled bits, as those of the bits before; -128 is taken as -127
abbrev pub descrambled : (values : List ℤ) → Scrambling → List ℤ
descrambled values s = turned (init_in s) (map (clamped 127) values)
