-- What reading the parts of a stream takes, answers and leaves, where the source tells its bytes.
use Rattle.std.specs.Prelude.{◌≡◌, ℕ, ◌+◌, ◌-◌, ◌*◌, ◌<◌, ◌⊎◌, true, false, List, [], ◌++◌, length, take, Some, None, Ok, Err}
use Rattle.std.specs.declared.option.Option.{Option}
use Rattle.std.specs.declared.result.Result.{Result}
use Rattle.edge_io.specs.Edge.{Takes}
use Rattle.rate_match.specs.Sendings.{AreSendings, common}
use Rattle.rate_match.specs.declared.sends.Sending.{Sending}
use Rattle.coded_stream.specs.Header.{Header, AreHeld, header_text}
use Rattle.coded_stream.specs.Blocks.{has_bad_bit, IsBlock}
use Rattle.coded_stream.specs.Opening.{Opening, opens, refuses, version_of, first_size, described_size, count_in, limit_in, header_in, second_opening}
use Rattle.coded_stream.specs.Body.{Step, block, ended, refused, step}
use Rattle.coded_stream.specs.Units.{EndsInUnit, Stops}
use Rattle.coded_stream.specs.Words.{after_word}
use Rattle.coded_stream.specs.declared.kind.Kind.{Kind}
use Rattle.coded_stream.specs.declared.stop.StreamStop.{StreamStop}
use Rattle.coded_stream.specs.declared.stop.StreamStop.TheVariants.{Bad}
use Rattle.coded_stream.specs.declared.version.Version.{Version}

-- ---- the header

-- how many bytes must have come before the beginning of a stream is known, where the end of the input counts as
-- one
abbrev pub opening_due : Opening → ℕ
opening_due (opens h left) = length (header_text h)
opening_due (refuses refusal) = refusal.due

-- it stopped
abbrev pub StopsOpening : Opening → (old new : Option (List ℕ)) → StreamStop → Type 0
StopsOpening all old new stop = Stops (λ r. all ≡ refuses r) (λ n. n < opening_due all) old new stop

-- it stopped after a first unit
abbrev pub StopsInSecond : Version → Opening → (old new : Option (List ℕ)) → StreamStop → Type 0
StopsInSecond v all old new stop = Stops (λ r. all ≡ refuses (record r { size = first_size v + r.size }))
    (λ n. first_size v + n < opening_due all) old new stop

-- the first unit of an opening: its first four bytes tell its version, and so how long it is
abbrev pub TakesFirst : Opening → (old new : Option (List ℕ)) → (unit : List ℕ) → Result Version StreamStop
    → Type 0
TakesFirst all old new unit (Ok version) = Takes old new (take (first_size version) unit)
    × ((left : List ℕ) → version_of (take (first_size version) unit ++ left) ≡ version)
TakesFirst all old new unit (Err stop) = StopsOpening all old new stop

-- the second, after a first one
abbrev pub TakesSecond : Version → (unit input : List ℕ) → (old new : Option (List ℕ))
    → Result (List Sending) StreamStop → Type 0
TakesSecond v unit input old new (Ok sends) = (bytes left : List ℕ)
    × (input ≡ bytes ++ left) × (new ≡ Some left) × (length bytes ≡ count_in v unit * described_size v)
    × (second_opening v unit input ≡ opens (header_in v unit sends) left)
TakesSecond v unit input old new (Err stop) = StopsInSecond v (second_opening v unit input) old new stop

-- the transmissions of an accepted header, whether the source tells its bytes or not
pub record AreSentBy (v : Version) (unit : List ℕ) (sends : List Sending) : Type 0 where
  pub sent : AreSendings sends
  pub held : AreHeld v sends
  pub limit : (common sends).limit ≡ limit_in v unit
  pub count : length sends ≡ count_in v unit

-- ---- one transmission, whether the source tells its bytes or not

-- it didn't come whole, or an unused bit of its last byte is 1
abbrev pub IsBadTransmission : Kind → (g place : ℕ) → (old new : Option (List ℕ)) → (bytes : List ℕ) → StreamStop
    → Type 0
IsBadTransmission kind g place old new bytes stop = EndsInUnit place old new bytes stop
    ⊎ (Takes old new bytes × (has_bad_bit kind g bytes ≡ true) × (stop ≡ Bad 5 (place + (length bytes - 1))))

abbrev pub TakesTransmission : {T : Type 0} → Kind → (g place : ℕ) → (old new : Option (List ℕ))
    → (bytes : List ℕ) → Result T StreamStop → Type 0
TakesTransmission kind g place old new bytes (Ok _) = Takes old new bytes × (has_bad_bit kind g bytes ≡ false)
TakesTransmission kind g place old new bytes (Err stop) = IsBadTransmission kind g place old new bytes stop

-- ---- steps of the body

-- how many bytes must have come before a step is known, where the end of the input counts as one
abbrev pub step_due : Step → ℕ
step_due (block b left) = 4 + length b.bytes
step_due ended = 5
step_due (refused refusal) = refusal.due

-- a step stopped after its length word
abbrev pub StopsAfterWord : Step → (old new : Option (List ℕ)) → StreamStop → Type 0
StopsAfterWord s old new stop =
    Stops (λ r. s ≡ refused (record r { size = 4 + r.size })) (λ n. 4 + n < step_due s) old new stop

-- the step of a block, from its length word on
abbrev pub TakesTransmissions : {T : Type 0} → Step → (payload : ℕ) → (into : List ℕ)
    → (old new : Option (List ℕ)) → Result T StreamStop → Type 0
TakesTransmissions s payload into old new (Ok _) = (left : List ℕ) × (old ≡ Some (into ++ left))
    × (new ≡ Some left) × (s ≡ block (record { payload = payload; bytes = into }) left)
TakesTransmissions s payload into old new (Err stop) = StopsAfterWord s old new stop

-- the step of the end, from the end word on
abbrev pub TakesEnd : {T : Type 0} → Step → (old new : Option (List ℕ)) → Result T StreamStop → Type 0
TakesEnd s old new (Ok _) = (old ≡ Some []) × (new ≡ Some []) × (s ≡ ended)
TakesEnd s old new (Err stop) = StopsAfterWord s old new stop

-- a step stopped
abbrev pub StopsStep : Step → (old new : Option (List ℕ)) → StreamStop → Type 0
StopsStep s old new stop = Stops (λ r. s ≡ refused r) (λ n. n < step_due s) old new stop

-- the length word of a step
abbrev pub TakesWord : Header → (more start : ℕ) → (input : List ℕ) → (old new : Option (List ℕ))
    → Result (Option ℕ) StreamStop → Type 0
TakesWord h more start input old new (Ok payload) = (bytes left : List ℕ)
    × (old ≡ Some (bytes ++ left)) × (new ≡ Some left) × (length bytes ≡ 4)
    × (step h more start input ≡ after_word h start payload left)
TakesWord h more start input old new (Err stop) = StopsStep (step h more start input) old new stop

-- a step as a whole
abbrev pub TakesStep : Step → (into : List ℕ) → (old new : Option (List ℕ)) → Result (Option ℕ) StreamStop
    → Type 0
TakesStep s into old new (Ok (Some payload)) = (bytes left : List ℕ) × (old ≡ Some (bytes ++ left))
    × (new ≡ Some left) × (length bytes ≡ 4 + length into)
    × (s ≡ block (record { payload = payload; bytes = into }) left)
TakesStep s into old new (Ok None) = (bytes : List ℕ) × (old ≡ Some bytes) × (new ≡ Some [])
    × (length bytes ≡ 4) × (s ≡ ended)
TakesStep s into old new (Err stop) = StopsStep s old new stop

-- a block that was read is accepted, and came where one may come, whether the source tells its bytes or not
abbrev pub IsAccepted : Header → (more : ℕ) → (into : List ℕ) → Option ℕ → Type 0
IsAccepted h more into (Some payload) = (0 < more) × IsBlock h (record { payload = payload; bytes = into })
IsAccepted h more into None = Unit {0}
