-- The decoding of one code block: iterations of two halves until the check holds, or up to a limit.
use Rattle.std.specs.Prelude.{◌≡◌, ℕ, zero, suc, ◌-◌, ◌*◌, ◌<◌, ◌≤◌, ◌==◌, ◌↔◌, if◌then◌else◌, Bool, true, false, IsTrue, IsFalse, Option, None, Some, List, ◌++◌, map, drop, replicate, find}
use Rattle.std.specs.List.{range_with_len}
use Rattle.lte_bits.specs.declared.bit.Bit.{Bit}
use Rattle.lte_bits.specs.declared.bit.Bit.TheVariants.{Zero, One}
use Rattle.lte_bits.specs.declared.block.SoftStreams.{SoftStreams}
use Rattle.model_sender.specs.CheckBits.{IsMultiple, crc24a, crc24b, remainder}
use Rattle.model_receiver.specs.declared.result.CheckKind.{CheckKind}
use Rattle.model_receiver.specs.declared.result.CheckKind.TheVariants.{A, B}
use Rattle.model_receiver.specs.declared.result.CodeResult.{CodeResult}
use Rattle.model_receiver.specs.Windows.{Extrinsic}
use Rattle.model_receiver.specs.HalfIteration.{Shape, Before, opening, after}

-- what half h starts from; iteration n, from 1, has the halves 2n - 2 and 2n - 1
unfoldable pub before : SoftStreams → Shape → ℕ → Before
before soft shape zero = opening shape
before soft shape (suc h) = after soft shape h (before soft shape h)

abbrev pub decided_bit : Extrinsic → Bit
decided_bit c = if c.one then One else Zero

-- the decided bits of cells by place, with fillers 0
abbrev pub decided_bits : ℕ → List Extrinsic → List Bit
decided_bits fill cells = replicate fill Zero ++ drop fill (map decided_bit cells)

-- the decided bits of half h
abbrev pub decided : SoftStreams → Shape → ℕ → List Bit
decided soft shape h = decided_bits shape.f (before soft shape (suc h)).cells

-- those of iteration n
abbrev pub decided_in : SoftStreams → Shape → ℕ → List Bit
decided_in soft shape n = decided soft shape (2 * n - 1)

-- the generator of a check (36.212 5.1.1)
abbrev pub generator : CheckKind → ℕ
generator A = crc24a
generator B = crc24b

-- r is that of the first iteration, up to the limit, whose decided bits are a multiple of the generator, or
-- else of the last
pub record IsDecoded (soft : SoftStreams) (shape : Shape) (r : CodeResult) : Type 0 where
  pub fill : r.block.fill ≡ shape.f
  pub bits : r.block.bits ≡ decided_in soft shape r.iterations
  pub from_one : 1 ≤ r.iterations
  pub to_limit : r.iterations ≤ shape.limit
  pub passed : IsTrue r.passed ↔ IsMultiple (generator shape.kind) r.block.bits
  pub first : (n : ℕ) → 1 ≤ n → n < r.iterations
      → IsMultiple (generator shape.kind) (decided_in soft shape n) → ⊥
  pub last : IsFalse r.passed → r.iterations ≡ shape.limit

-- ---- The same as a function, which the laws of `decoding` tie to the relation.

-- whether the check holds: nothing is left of the bits modulo the generator
abbrev pub check_holds : CheckKind → List Bit → Bool
check_holds kind bits = remainder (generator kind) 0 bits == 0

-- the first iteration whose check holds
abbrev pub passing_iteration : SoftStreams → Shape → Option ℕ
passing_iteration soft shape =
    find (λ n. check_holds shape.kind (decided_in soft shape n)) (range_with_len 1 shape.limit)

-- the result with the decided bits of iteration n
abbrev pub result_in : SoftStreams → Shape → ℕ → Bool → CodeResult
result_in soft shape n passed = record {
  block = record { fill = shape.f; bits = decided_in soft shape n };
  iterations = n;
  passed = passed;
}

abbrev pub result_of : SoftStreams → Shape → Option ℕ → CodeResult
result_of soft shape (Some n) = result_in soft shape n true
result_of soft shape None = result_in soft shape shape.limit false

-- what the decoding of a code block gives
unfoldable pub code_result : SoftStreams → Shape → CodeResult
code_result soft shape = result_of soft shape (passing_iteration soft shape)
