-- How a stream begins: the two units of its header, each read whole before its fields are checked, in order
-- of place.
use Rattle.std.specs.Prelude.{ℕ, zero, suc, ◌+◌, ◌*◌, Bool, ◌&&◌, ◌||◌, nat_le, nat_lt, ◌==◌, if◌then◌else◌, List, [], ◌∷◌, ◌++◌, length, take, drop, slice_index, Some, None}
use Rattle.std.specs.declared.option.Option.{Option}
use Rattle.model_sender.specs.CircularBuffer.{Match}
use Rattle.rate_match.specs.Matching.{is_qm, is_nl, is_g}
use Rattle.rate_match.specs.Fitting.{fits_all}
use Rattle.rate_match.specs.declared.sends.Sending.{Sending}
use Rattle.coded_stream.specs.Limit.{is_limit}
use Rattle.coded_stream.specs.Header.{Header, word, half_word, magic, kind_of, limit_of_code}
use Rattle.coded_stream.specs.Units.{Refusal, refused_at, truncated}
use Rattle.coded_stream.specs.declared.version.Version.{Version}
use Rattle.coded_stream.specs.declared.version.Version.TheVariants.{One, Two}
use Rattle.coded_stream.specs.declared.kind.Want.{Want}
use Rattle.coded_stream.specs.declared.kind.Want.TheVariants.{Hard, Soft, Any}

-- a field is accepted, or it is refused with a number at its first byte
pub record Check : Type 0 where
  pub passes : Bool
  pub number : ℕ
  pub place : ℕ

abbrev pub check : Bool → ℕ → ℕ → Check
check passes number place = record { passes = passes; number = number; place = place }

-- the first refusal, of units that end after `size` bytes
abbrev pub first_refusal : ℕ → List Check → Option Refusal
first_refusal size [] = None
first_refusal size (c ∷ cs) =
    if c.passes then first_refusal size cs else Some (refused_at c.number c.place size)

-- the code is that of a kind that is wanted
abbrev pub is_wanted : Want → ℕ → Bool
is_wanted Hard code = code == 0
is_wanted Soft code = code == 1
is_wanted Any code = code == 0 || code == 1

-- ---- the first unit

-- of a stream that begins so
abbrev pub version_of : List ℕ → Version
version_of input = if word input 0 == magic Two then Two else One

abbrev pub first_size : Version → ℕ
first_size One = 18
first_size Two = 12

-- the number of transmissions
abbrev pub count_in : Version → List ℕ → ℕ
count_in One unit = slice_index unit 7
count_in Two unit = slice_index unit 5

abbrev pub tb_in : Version → List ℕ → ℕ
tb_in One unit = half_word unit 8
tb_in Two unit = half_word unit 6

abbrev pub limit_in : Version → List ℕ → Option ℕ
limit_in One unit = limit_of_code (word unit 14)
limit_in Two unit = limit_of_code (word unit 8)

abbrev pub count_check : (count place : ℕ) → Check
count_check count place = check (nat_le 1 count && nat_le count 8) 3 place

abbrev pub tb_check : (tb place : ℕ) → Check
tb_check tb place = check (nat_le 1 tb && nat_le tb 18722) 3 place

abbrev pub limit_check : Option ℕ → (tb place : ℕ) → Check
limit_check limit tb place = check (is_limit limit && fits_all limit tb) 3 place

-- from the number of transmissions on
abbrev pub size_fields : Version → List ℕ → List Check
size_fields One unit =
    count_check (count_in One unit) 7
    ∷ tb_check (tb_in One unit) 8
    ∷ check (is_g (slice_index unit 6 * slice_index unit 5) (word unit 10)) 3 10
    ∷ limit_check (limit_in One unit) (tb_in One unit) 14
    ∷ []
size_fields Two unit =
    count_check (count_in Two unit) 5
    ∷ tb_check (tb_in Two unit) 6
    ∷ limit_check (limit_in Two unit) (tb_in Two unit) 8
    ∷ []

-- after the kind
abbrev pub further_fields : Version → List ℕ → List Check
further_fields One unit =
    check (is_qm (slice_index unit 5)) 3 5
    ∷ check (is_nl (slice_index unit 6)) 3 6
    ∷ size_fields One unit
further_fields Two unit = size_fields Two unit

abbrev pub fields : Version → Want → List ℕ → List Check
fields v want unit =
    check (word unit 0 == magic v) 1 0
    ∷ check (is_wanted want (slice_index unit 4)) 2 4
    ∷ further_fields v unit

-- ---- the second unit, of so many transmissions

abbrev pub described_size : Version → ℕ
described_size One = 1
described_size Two = 7

-- the fields of one, from a place on
abbrev pub transmission_fields : Version → ℕ → List ℕ → List Check
transmission_fields One place bytes = check (nat_le (slice_index bytes 0) 3) 3 place ∷ []
transmission_fields Two place bytes =
    check (is_qm (slice_index bytes 0)) 3 place
    ∷ check (is_nl (slice_index bytes 1)) 3 (place + 1)
    ∷ check (nat_le (slice_index bytes 2) 3) 3 (place + 2)
    ∷ check (is_g (slice_index bytes 1 * slice_index bytes 0) (word bytes 3)) 3 (place + 3)
    ∷ []

abbrev pub transmissions_fields : Version → (count place : ℕ) → List ℕ → List Check
transmissions_fields v zero place bytes = []
transmissions_fields v (suc count) place bytes =
    let size = described_size v in
    transmission_fields v place (take size bytes) ++ transmissions_fields v count (place + size) (drop size bytes)

-- the rate matching of version One
abbrev pub match_in : List ℕ → Match
match_in unit = record {
  qm = slice_index unit 5;
  nl = slice_index unit 6;
  g = word unit 10;
  limit = limit_in One unit;
}

-- one transmission, after a first unit
abbrev pub transmission_in : Version → List ℕ → List ℕ → Sending
transmission_in One unit bytes = record { m = match_in unit; rv = slice_index bytes 0 }
transmission_in Two unit bytes = record {
  m = record {
    qm = slice_index bytes 0;
    nl = slice_index bytes 1;
    g = word bytes 3;
    limit = limit_in Two unit;
  };
  rv = slice_index bytes 2;
}

abbrev pub transmissions_in : Version → List ℕ → ℕ → List ℕ → List Sending
transmissions_in v unit zero bytes = []
transmissions_in v unit (suc count) bytes =
    let size = described_size v in
    transmission_in v unit (take size bytes) ∷ transmissions_in v unit count (drop size bytes)

-- ---- how the input begins

-- a header, and what is left after it, or a refusal
pub data Opening : Type 0 where
  opens : Header → List ℕ → Opening
  refuses : Refusal → Opening

abbrev pub unless : Option Refusal → Opening → Opening
unless None opening = opening
unless (Some refusal) opening = refuses refusal

-- the header of a first unit and these transmissions
abbrev pub header_in : Version → List ℕ → List Sending → Header
header_in v unit sends = record {
  version = v;
  kind = kind_of (slice_index unit 4);
  tb = tb_in v unit;
  sends = sends;
}

-- after a first unit
abbrev pub second_opening : Version → List ℕ → List ℕ → Opening
second_opening v unit left =
    let count = count_in v unit in
    let size = count * described_size v in
    if nat_lt (length left) size
    then refuses (truncated 0 (first_size v + length left))
    else unless (first_refusal (first_size v + size) (transmissions_fields v count (first_size v) (take size left)))
    (opens (header_in v unit (transmissions_in v unit count (take size left))) (drop size left))

abbrev pub first_opening : Version → Want → List ℕ → Opening
first_opening v want input =
    let size = first_size v in
    if nat_lt (length input) size
    then refuses (truncated 0 (length input))
    else unless (first_refusal size (fields v want (take size input)))
    (second_opening v (take size input) (drop size input))

-- of a stream of a kind that is wanted
abbrev pub opening : Want → List ℕ → Opening
opening want input = first_opening (version_of input) want input
