-- What a round of `encode` gives.
use Rattle.std.specs.Prelude.{◌≡◌, ◌⊎◌, ℕ, ◌+◌, ◌*◌, ◌<◌, List, [], ◌∷◌, length, false, Ok, Err}
use Rattle.std.specs.declared.option.Option.{Option}
use Rattle.std.specs.declared.result.Result.{Result}
use Rattle.std.specs.Io.KnownBytes.{IsAtEnd}
use Rattle.edge_io.specs.Edge.{Takes}
use Rattle.coded_stream.specs.Header.{Header, word_text}
use Rattle.run_loop.specs.Step.{parts_of}
use Rattle.run_loop.specs.declared.work.Round.{Round}
use Rattle.run_loop.specs.declared.work.Stop.{Stop}
use Rattle.run_loop.specs.declared.work.Stop.TheVariants.{End}
use Rattle.run_loop.specs.declared.status.Status.{Status}
use Rattle.run_loop.specs.declared.status.Status.TheVariants.{BadStream, ReadFault, NoMemory}
use Rattle.run_loop.specs.Lines.{blocks_line}
use Rattle.command_encode.specs.Encode.{block_part}

-- the end after so many blocks
abbrev pub IsEnd : (count : ℕ) → Stop → Type 0
IsEnd count (End closing last failed) = (closing.items ≡ word_text 0) × (last.items ≡ blocks_line count)
    × (failed ≡ false)
IsEnd count _ = ⊥

-- one block, and how the round stops
abbrev pub IsOfBlock : Header → (payload : List ℕ) → (wants : ℕ) → Stop → Round → Type 0
IsOfBlock h payload wants stop round =
    (parts_of round.parts.items ≡ block_part h payload wants ∷ []) × (round.stop ≡ stop)

-- of what is left after so many blocks, which is no whole block: the end alone, or a shorter block and the end
abbrev pub IsLast : Header → (count : ℕ) → (payload : List ℕ) → Round → Type 0
IsLast h count payload round = ((length payload ≡ 0) × (round.parts.items ≡ []) × IsEnd count round.stop)
    ⊎ ((0 < length payload) × (parts_of round.parts.items ≡ block_part h payload (length payload + 1) ∷ [])
    × IsEnd (count + 1) round.stop)

-- the end, the byte that is refused, a fault before it came, or running out of memory for the end
abbrev pub IsAfterAllBlocks : Header → (old new : Option (List ℕ)) → Result Round Status → Type 0
IsAfterAllBlocks h old new (Ok round) = Takes old new [] × IsAtEnd new × IsLast h 4096 [] round
IsAfterAllBlocks h old new (Err (BadStream number place)) = (number ≡ 8) × (place ≡ 4096 * h.tb)
    × ((bytes : List ℕ) × (length bytes ≡ 1) × Takes old new bytes)
IsAfterAllBlocks h old new (Err ReadFault) = Takes old new []
IsAfterAllBlocks h old new (Err NoMemory) = Takes old new [] × IsAtEnd new
IsAfterAllBlocks h old new (Err _) = ⊥
