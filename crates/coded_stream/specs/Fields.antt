-- What the units of a header are read as.
use Rattle.std.specs.Prelude.{◌≡◌, ℕ, ◌*◌, ◌≤◌, true, false, Bool, ◌&&◌, List, slice_index, Some, None, Ok, Err}
use Rattle.std.specs.declared.result.Result.{Result}
use Rattle.model_sender.specs.CircularBuffer.{Match}
use Rattle.rate_match.specs.Matching.{IsMatch, is_g, limit_of}
use Rattle.rate_match.specs.Fitting.{fits_all}
use Rattle.rate_match.specs.declared.matching.Buffer.{Buffer}
use Rattle.rate_match.specs.declared.sends.Sending.{Sending}
use Rattle.coded_stream.specs.Limit.{is_limit}
use Rattle.coded_stream.specs.Header.{word, limit_of_code}
use Rattle.coded_stream.specs.Units.{refused_at}
use Rattle.coded_stream.specs.Opening.{Check, first_refusal, count_in, tb_in, limit_in, match_in, transmission_fields, transmission_in, transmissions_fields, transmissions_in}
use Rattle.coded_stream.specs.declared.fields.Fields.{Fields}
use Rattle.coded_stream.specs.declared.stop.StreamStop.{StreamStop}
use Rattle.coded_stream.specs.declared.stop.StreamStop.TheVariants.{Bad}
use Rattle.coded_stream.specs.declared.version.Version.{Version}
use Rattle.coded_stream.specs.declared.version.Version.TheVariants.{One, Two}

-- G of version One is accepted
abbrev pub has_good_g : List ℕ → Bool
has_good_g unit = is_g (slice_index unit 6 * slice_index unit 5) (word unit 10)

-- all of these fields pass, in a unit of any size
abbrev pub Pass : List Check → Type 0
Pass checks = (size : ℕ) → first_refusal size checks ≡ None

-- the first of these fields that doesn't pass is refused so
abbrev pub AreRefused : List Check → StreamStop → Type 0
AreRefused checks (Bad number place) = (size : ℕ) → first_refusal size checks ≡ Some (refused_at number place size)
AreRefused checks _ = ⊥

-- the buffer of N_IR at a place, where it is accepted with payloads of up to tb bytes
abbrev pub BufferIsRead : (limit tb place : ℕ) → Result Buffer StreamStop → Type 0
BufferIsRead limit tb place (Ok buffer) = (limit_of buffer ≡ limit_of_code limit)
    × ((is_limit (limit_of_code limit) && fits_all (limit_of_code limit) tb) ≡ true)
BufferIsRead limit tb place (Err stop) = (stop ≡ Bad 3 place)
    × ((is_limit (limit_of_code limit) && fits_all (limit_of_code limit) tb) ≡ false)

-- the numbers of a unit whose fields pass, or the first field that doesn't
abbrev pub AreRead : Version → List Check → List ℕ → Result Fields StreamStop → Type 0
AreRead v checks unit (Ok f) = Pass checks
    × (limit_of f.buffer ≡ limit_in v unit) × (f.tb ≡ tb_in v unit) × (f.count ≡ count_in v unit)
AreRead v checks unit (Err stop) = AreRefused checks stop

-- what version One says of all transmissions in its first unit is a matching
abbrev pub IsFirst : Version → List ℕ → Type 0
IsFirst One unit = IsMatch (match_in unit)
IsFirst Two unit = Unit {0}

-- a transmission at a place whose fields pass, or the first field that doesn't
abbrev pub TransmissionIsRead : Version → (unit : List ℕ) → (place : ℕ) → (bytes : List ℕ)
    → Result (Match × ℕ) StreamStop → Type 0
TransmissionIsRead v unit place bytes (Ok s) = Pass (transmission_fields v place bytes)
    × (transmission_in v unit bytes ≡ record { m = s.0; rv = s.1 })
    × (s.1 ≤ 3) × (s.0.limit ≡ limit_in v unit)
TransmissionIsRead v unit place bytes (Err stop) = AreRefused (transmission_fields v place bytes) stop

abbrev pub TransmissionsAreRead : Version → (unit : List ℕ) → (count place : ℕ) → (bytes : List ℕ)
    → Result (List Sending) StreamStop → Type 0
TransmissionsAreRead v unit count place bytes (Ok sends) = Pass (transmissions_fields v count place bytes)
    × (sends ≡ transmissions_in v unit count bytes)
TransmissionsAreRead v unit count place bytes (Err stop) = AreRefused (transmissions_fields v count place bytes) stop
