-- What a reader of a stream is, and what its calls take, answer and leave.
use Rattle.std.specs.Prelude.{◌≡◌, ℕ, ◌+◌, ◌-◌, ◌<◌, Bool, true, false, List, [], ◌∷◌, ◌++◌, length, Some, None, Ok, Err}
use Rattle.std.specs.declared.option.Option.{Option}
use Rattle.std.specs.declared.result.Result.{Result}
use Rattle.coded_stream.specs.Header.{Header, kind_code, header_text, IsHeader}
use Rattle.coded_stream.specs.Blocks.{Block, IsBlock}
use Rattle.coded_stream.specs.Opening.{Opening, opens, is_wanted}
use Rattle.coded_stream.specs.Body.{Ending, whole, bad, Body, body, no_more, onto, next_start}
use Rattle.coded_stream.specs.Stream.{most_blocks}
use Rattle.coded_stream.specs.Units.{Stops}
use Rattle.coded_stream.specs.Takes.{StopsOpening}
use Rattle.coded_stream.specs.declared.kind.Want.{Want}
use Rattle.coded_stream.specs.declared.stop.StreamStop.{StreamStop}
use Rattle.coded_stream.specs.declared.stop.StreamStop.TheVariants.{NoMemory}

-- the header that was read, the place of the stream that was reached, the blocks that came, and whether it
-- goes on
pub record Reading : Type 0 where
  pub header : Header
  pub place : ℕ
  pub blocks : ℕ
  pub live : Bool

-- what the stream still says, for the input that is left
abbrev pub remaining : Reading → List ℕ → Body
remaining r left = body r.header (most_blocks - r.blocks) r.place left

-- how many bytes must have come before the first thing of a body is known, where the end of the input counts
-- as one
abbrev pub due_of : List Block → Ending → ℕ
due_of (b ∷ blocks) ending = 4 + length b.bytes
due_of [] whole = 5
due_of [] (bad refusal) = refusal.due

abbrev pub body_due : Body → ℕ
body_due b = due_of b.blocks b.ending

-- ---- where the source tells its bytes

-- the beginning of a stream was read
abbrev pub Begins : Opening → Option (List ℕ) → Option (List ℕ) → Result Reading StreamStop → Type 0
Begins all old new (Ok r) = (bytes left : List ℕ) × (old ≡ Some (bytes ++ left)) × (new ≡ Some left)
    × (length bytes ≡ r.place) × (all ≡ opens r.header left)
Begins all old new (Err stop) = StopsOpening all old new stop

-- of what a body was still to say: a block was read, its transmissions are in `into`, and `after` is still to
-- come
abbrev pub GoesOn : Body → (List ℕ → Body) → List ℕ → Option (List ℕ) → Option (List ℕ)
    → Result (Option ℕ) StreamStop → Type 0
GoesOn all after into old new (Ok (Some n)) = (bytes left : List ℕ) × (old ≡ Some (bytes ++ left))
    × (new ≡ Some left) × (length bytes ≡ 4 + length into)
    × (all ≡ onto (record { payload = n; bytes = into }) (after left))
GoesOn all after into old new (Ok None) = (bytes : List ℕ) × (old ≡ Some bytes) × (new ≡ Some [])
    × (length bytes ≡ 4) × (all ≡ no_more whole)
GoesOn all after into old new (Err NoMemory) = new ≡ old
GoesOn all after into old new (Err stop) = Stops (λ r. all ≡ no_more (bad r)) (λ n. n < body_due all) old new stop

-- ---- whether it tells them or not

-- a reader of a header that is accepted, of a kind that is wanted, that is at its end
pub record IsBegun (want : Want) (r : Reading) : Type 0 where
  pub kind : is_wanted want (kind_code r.header.kind) ≡ true
  pub header : IsHeader r.header
  pub place : r.place ≡ length (header_text r.header)
  pub blocks : r.blocks ≡ 0
  pub live : r.live ≡ true

-- how a reader changes: past an accepted block, or at an end of its life
abbrev pub Advances : Reading → Reading → List ℕ → Result (Option ℕ) StreamStop → Type 0
Advances old new into (Ok (Some n)) = let b : Block = record { payload = n; bytes = into } in
    (old.blocks < most_blocks) × IsBlock old.header b
    × (new ≡ record old { place = next_start old.place b; blocks = old.blocks + 1 })
Advances old new into (Err NoMemory) = new ≡ old
Advances old new into _ = new ≡ record old { live = false }
