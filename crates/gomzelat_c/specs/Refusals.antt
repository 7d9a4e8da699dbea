-- The numbers by which a caller is told what came of a call.
use Rattle.std.specs.Prelude.{◌≡◌, ◌⊎◌, ℕ, None, Some, Err, IsOkUnless}
use Rattle.std.specs.declared.option.Option.{Option}
use Rattle.std.specs.declared.result.Result.{Result}
use Rattle.rate_match.specs.declared.matching.BadMatch.{BadMatch}
use Rattle.rate_match.specs.declared.matching.BadMatch.TheVariants as bad
use Rattle.gomzelat_c.specs.declared.refusal.Refusal.{Refusal}
use Rattle.gomzelat_c.specs.declared.refusal.Refusal.TheVariants.{NoMemory, BadLength, BadCount, BadQm, BadNl, BadG, BadVersion, BadBuffer, BadBlock, BadWindows, BadLimit, BadSize, BadFillers, BadCheck, BadValues, BadBits, BadAmp, BadNoise, BadNumber, BadScrambling, BadPoints, ShortOutput, ShortCells, ShortBlocks, ShortBits}

-- from 1 on, as the header lists them
abbrev pub number_of : Refusal → ℕ
number_of NoMemory = 1
number_of BadLength = 2
number_of BadCount = 3
number_of BadQm = 4
number_of BadNl = 5
number_of BadG = 6
number_of BadVersion = 7
number_of BadBuffer = 8
number_of BadBlock = 9
number_of BadWindows = 10
number_of BadLimit = 11
number_of BadSize = 12
number_of BadFillers = 13
number_of BadCheck = 14
number_of BadValues = 15
number_of BadBits = 16
number_of BadAmp = 17
number_of BadNoise = 18
number_of BadNumber = 19
number_of BadScrambling = 20
number_of BadPoints = 21
number_of ShortOutput = 22
number_of ShortCells = 23
number_of ShortBlocks = 24
number_of ShortBits = 25

-- the number of what is refused, or 0 where nothing is
abbrev pub told : Option Refusal → ℕ
told None = 0
told (Some refusal) = number_of refusal

-- what a call answers that allocates, where this is the first that is refused: its number; and where
-- nothing is refused, that the call is done, or that memory ran out
abbrev pub IsTold : ℕ → Option Refusal → Type 0
IsTold n (Some refusal) = n ≡ number_of refusal
IsTold n None = (n ≡ 0) ⊎ (n ≡ number_of NoMemory)

-- the same before it is told by a number
abbrev pub IsDone : Result Unit Refusal → Option Refusal → Type 0
IsDone r (Some refusal) = r ≡ Err refusal
IsDone r None = IsOkUnless r NoMemory

-- what is refused of numbers that aren't a matching
abbrev pub refusal_of : BadMatch → Refusal
refusal_of bad.BadQm = BadQm
refusal_of bad.BadNl = BadNl
refusal_of bad.BadG = BadG
