-- Check bits of bits that are told by a byte each.
use Rattle.std.specs.Prelude.{ℕ, List, [], ◌∷◌, map, nat_le}
use Rattle.lte_bits.specs.Bits.{bit_of, digit}
use Rattle.model_sender.specs.CheckBits.{crc}
use Rattle.gomzelat_c.specs.Tests.{Test, test}
use Rattle.gomzelat_c.specs.declared.refusal.Refusal.TheVariants.{ShortOutput}

-- check bits, with room for so many
abbrev pub check_tests : (room : ℕ) → List Test
check_tests room = test (nat_le 24 room) ShortOutput ∷ []

-- the check bits of a generator, where any byte but 0 is a bit 1
abbrev pub check_digits : (generator : ℕ) → List ℕ → List ℕ
check_digits generator bits = map digit (crc generator (map bit_of bits))
