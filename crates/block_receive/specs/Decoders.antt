-- What is asked of whoever decodes code blocks.
use Rattle.std.specs.Prelude.{◌≡◌, Result, IfOk}
use Rattle.std.specs.Borrow.{Bor}
use Rattle.lte_bits.specs.declared.block.SoftStreams.{SoftStreams}
use Rattle.model_receiver.specs.HalfIteration.{Shape}
use Rattle.model_receiver.specs.declared.result.CodeResult.{CodeResult}
use Rattle.model_receiver.specs.Decoding.{code_result}
use Rattle.half_iteration.specs.Views.{AreStreams}

-- it may be called with the soft values of a code block of a shape
abbrev pub TakesBlocks : {A : Type 0} → (A → Bor SoftStreams → Bor Shape → Type 0) → Type 0
TakesBlocks {A} pre =
    (alloc : A) (streams : Bor SoftStreams) (shape : Bor Shape) → AreStreams streams.now shape.now → pre alloc streams shape

-- and gives what the decoding of the code block gives, where it gives anything
abbrev pub GivesResults : {A E : Type 0} → (A → Bor SoftStreams → Bor Shape → Result CodeResult E → Type 0) → Type 0
GivesResults {A} {E} post =
    (alloc : A) (streams : Bor SoftStreams) (shape : Bor Shape) (r : Result CodeResult E)
    → post alloc streams shape r → IfOk r (λ x. x ≡ code_result streams.now shape.now)
