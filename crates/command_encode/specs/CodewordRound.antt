-- What the one round of `codeword` gives where its payload was read and memory was had.
use Rattle.std.specs.Prelude.{◌≡◌, ℕ, List, [], ◌∷◌, false}
use Rattle.model_sender.specs.CircularBuffer.{Match}
use Rattle.run_loop.specs.Step.{parts_of}
use Rattle.run_loop.specs.declared.work.Part.{Part}
use Rattle.run_loop.specs.declared.work.Stop.{Stop}
use Rattle.run_loop.specs.declared.work.Stop.TheVariants.{End}
use Rattle.command_encode.specs.Codeword.{codeword_part, bits_line}

abbrev pub IsCoded : Match → (rv : ℕ) → (payload : List ℕ) → List Part → Stop → Type 0
IsCoded m rv payload blocks (End closing last failed) = (parts_of blocks ≡ codeword_part m rv payload ∷ [])
    × (closing.items ≡ []) × (last.items ≡ bits_line m) × (failed ≡ false)
IsCoded m rv payload blocks _ = ⊥
