-- A code block that is decoded by itself.
use Rattle.std.specs.Prelude.{ℕ, ◌+◌, ◌*◌, ℤ, Bool, ◌==◌, nat_le, nat_lt, is_some, find, if◌then◌else◌, List, [], ◌∷◌, ◌++◌, map}
use Rattle.lte_bits.specs.Softs.{clamped}
use Rattle.model_sender.specs.declared.rows.TheConstants.{ROWS}
use Rattle.model_receiver.specs.Decoding.{code_result}
use Rattle.model_receiver.specs.HalfIteration.{Shape, shape_of}
use Rattle.model_receiver.specs.TransportBlocks.{window_count}
use Rattle.model_receiver.specs.declared.result.CheckKind.{CheckKind}
use Rattle.model_receiver.specs.declared.result.CheckKind.TheVariants.{A, B}
use Rattle.model_receiver.specs.declared.result.CodeResult.{CodeResult}
use Rattle.soft_buffers.specs.Buffers.{streams_of_cells}
use Rattle.gomzelat_c.specs.Tests.{Test, is_from, test}
use Rattle.gomzelat_c.specs.declared.codes.Code.{Code}
use Rattle.gomzelat_c.specs.declared.refusal.Refusal.TheVariants.{BadSize, BadFillers, BadCheck, BadWindows, BadLimit, BadValues, ShortOutput}

-- ---- What is tested.

-- the interleaver's table has a row of size k
abbrev pub is_size : ℕ → Bool
is_size k = is_some (find (λ r. r.0 == k) ROWS)

-- a code block
abbrev pub block_tests : Code → List Test
block_tests code =
    test (is_size code.k) BadSize
    ∷ test (nat_lt code.fill code.k) BadFillers
    ∷ test (nat_le code.check 1) BadCheck
    ∷ []

-- in how many windows at most, and with how many iterations at most, it is decoded
abbrev pub limit_tests : (windows limit : ℕ) → List Test
limit_tests windows limit =
    test (is_from 1 64 windows) BadWindows ∷ test (is_from 1 16 limit) BadLimit ∷ []

-- how a code block is to be decoded
abbrev pub shape_tests : Code → (windows limit : ℕ) → List Test
shape_tests code windows limit = block_tests code ++ limit_tests windows limit

-- from so many soft values, with room for so many bits
abbrev pub length_tests : Code → (values room : ℕ) → List Test
length_tests code values room =
    test (values == 3 * (code.k + 4)) BadValues ∷ test (nat_le code.k room) ShortOutput ∷ []

abbrev pub code_tests : Code → (windows limit values room : ℕ) → List Test
code_tests code windows limit values room = shape_tests code windows limit ++ length_tests code values room

-- ---- What it comes to.

abbrev pub kind_of : (check : ℕ) → CheckKind
kind_of check = if check == 0 then A else B

abbrev pub shape_in : Code → (windows limit : ℕ) → Shape
shape_in code windows limit =
    shape_of code.k code.fill (kind_of code.check) (window_count code.k windows) limit

-- what the decoding gives from soft values, where -128 is taken as -127
abbrev pub decoded_code : Code → (windows limit : ℕ) → (values : List ℤ) → CodeResult
decoded_code code windows limit values =
    code_result (streams_of_cells code.k code.fill (map (clamped 127) values)) (shape_in code windows limit)
