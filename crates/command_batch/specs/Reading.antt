-- How the blocks of a round are read.
use Rattle.std.specs.Prelude.{◌≡◌, ℕ, ◌+◌, ◌<◌, List, [], ◌++◌, length, sum_by, true, Some, None, Ok, Err}
use Rattle.std.specs.declared.option.Option.{Option}
use Rattle.std.specs.declared.result.Result.{Result}
use Rattle.edge_io.specs.Edge.{Takes}
use Rattle.coded_stream.specs.Blocks.{Block}
use Rattle.coded_stream.specs.Body.{Body}
use Rattle.coded_stream.specs.Steps.{Reading, remaining, GoesOn}
use Rattle.coded_stream.specs.declared.stop.StreamStop.{StreamStop}
use Rattle.command_batch.specs.declared.job.BlockJob.{BlockJob}
use Rattle.command_batch.specs.declared.reading.Reached.{Reached}
use Rattle.command_batch.specs.declared.reading.Reached.TheVariants.{Full, Stopped}

-- ---- one block

-- what the reader of the stream answered and read
abbrev pub size_got : Result (Option BlockJob) StreamStop → Result (Option ℕ) StreamStop
size_got (Ok (Some job)) = Ok (Some job.payload)
size_got (Ok None) = Ok None
size_got (Err stop) = Err stop

abbrev pub bytes_got : Result (Option BlockJob) StreamStop → List ℕ
bytes_got (Ok (Some job)) = job.bytes
bytes_got _ = []

-- the job that was made, if one was
abbrev pub OnJob : Result (Option BlockJob) StreamStop → (BlockJob → Type 0) → Type 0
OnJob (Ok (Some job)) P = P job
OnJob _ P = Unit {0}

-- ---- several

-- blocks before what a stream still says
abbrev pub onto_all : List Block → Body → Body
onto_all blocks rest = record rest { blocks = blocks ++ rest.blocks }

-- the bytes of their length words and transmissions
abbrev pub size_of_blocks : List Block → ℕ
size_of_blocks blocks = sum_by (λ b. 4 + length b.bytes) blocks

-- these blocks were read, and `left` is left
pub record Came (r s : Reading) (input left : List ℕ) (blocks : List Block) (old mid : Option (List ℕ)) : Type 0 where
  pub bytes : List ℕ
  pub took : Takes old mid bytes
  pub mid_is : mid ≡ Some left
  pub size : length bytes ≡ size_of_blocks blocks
  pub says : remaining r input ≡ onto_all blocks (remaining s left)

-- how the reader of the stream stopped after them
abbrev pub stop_of : Reached → Result (Option ℕ) StreamStop
stop_of (Stopped stop) = Err stop
stop_of _ = Ok None

-- they were read, and then the reader stopped, or there were enough
abbrev pub Comes : (r s : Reading) (input : List ℕ) → List Block → (old new : Option (List ℕ)) → Reached → Type 0
Comes r s input blocks old new Full = (left : List ℕ) × Came r s input left blocks old new
Comes r s input blocks old new reached = (left : List ℕ) × (mid : Option (List ℕ)) × (before : Reading)
    × Came r before input left blocks old mid × GoesOn (remaining before left) (remaining s) [] mid new (stop_of reached)

-- whether the source tells its bytes or not: the reader after so many blocks
pub record Passes (r s : Reading) (count : ℕ) : Type 0 where
  pub header : s.header ≡ r.header
  pub blocks : s.blocks ≡ r.blocks + count

abbrev pub Counts : (count most : ℕ) → Reading → Reached → Type 0
Counts count most s Full = (count ≡ most) × (s.live ≡ true)
Counts count most s _ = count < most
