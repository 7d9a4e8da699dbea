-- The header of a coded stream, and its bytes. Numbers are big-endian.
use Rattle.std.specs.Prelude.{◌≡◌, ℕ, zero, suc, ◌+◌, ◌≤◌, true, List, [], ◌∷◌, ◌++◌, length, flat_map, slice_index, Some, None}
use Rattle.std.specs.declared.option.Option.{Option}
use Rattle.std.specs.Int.{w16, w32, to_be_bytes, from_be_bytes}
use Rattle.rate_match.specs.Fitting.{FitsAll}
use Rattle.rate_match.specs.Sendings.{AreSendings, AreEven, common}
use Rattle.rate_match.specs.declared.sends.Sending.{Sending}
use Rattle.coded_stream.specs.Limit.{is_limit}
use Rattle.coded_stream.specs.declared.version.Version.{Version}
use Rattle.coded_stream.specs.declared.version.Version.TheVariants.{One, Two}
use Rattle.coded_stream.specs.declared.kind.Kind.{Kind}
use Rattle.coded_stream.specs.declared.kind.Kind.TheVariants.{Hard, Soft}

-- the version of the container, what the transmissions are, the greatest payload in bytes, and the
-- transmissions of each block
pub record Header : Type 0 where
  pub version : Version
  pub kind : Kind
  pub tb : ℕ
  pub sends : List Sending

-- ---- numbers in bytes

unfoldable pub word_text : ℕ → List ℕ
word_text n = to_be_bytes w32 n

unfoldable pub half_word_text : ℕ → List ℕ
half_word_text n = to_be_bytes w16 n

-- the numbers of the bytes from a place on
unfoldable pub word : List ℕ → ℕ → ℕ
word bytes i = from_be_bytes w32
    (slice_index bytes i ∷ slice_index bytes (i + 1) ∷ slice_index bytes (i + 2)
    ∷ slice_index bytes (i + 3) ∷ [])

unfoldable pub half_word : List ℕ → ℕ → ℕ
half_word bytes i = from_be_bytes w16 (slice_index bytes i ∷ slice_index bytes (i + 1) ∷ [])

-- ---- fields

-- `LTC1` and `LTC2`
abbrev pub magic : Version → ℕ
magic One = 0x4C544331
magic Two = 0x4C544332

abbrev pub kind_code : Kind → ℕ
kind_code Hard = 0
kind_code Soft = 1

abbrev pub kind_of : ℕ → Kind
kind_of zero = Hard
kind_of (suc _) = Soft

-- N_IR, where 0 is a full buffer
abbrev pub limit_code : Option ℕ → ℕ
limit_code None = 0
limit_code (Some limit) = limit

abbrev pub limit_of_code : ℕ → Option ℕ
limit_of_code zero = None
limit_of_code (suc n) = Some (suc n)

-- ---- the text

-- the bytes before the transmissions; version One has the rate matching of all of them there
unfoldable pub first_text : Version → Header → List ℕ
first_text One h =
    let m = common h.sends in
    word_text (magic One) ++ kind_code h.kind ∷ m.qm ∷ m.nl ∷ length h.sends ∷ []
    ++ half_word_text h.tb ++ word_text m.g ++ word_text (limit_code m.limit)
first_text Two h =
    word_text (magic Two) ++ kind_code h.kind ∷ length h.sends ∷ []
    ++ half_word_text h.tb ++ word_text (limit_code (common h.sends).limit)

-- what the header says of a transmission alone
abbrev pub transmission_text : Version → Sending → List ℕ
transmission_text One s = s.rv ∷ []
transmission_text Two s = s.m.qm ∷ s.m.nl ∷ s.rv ∷ word_text s.m.g

abbrev pub header_text : Header → List ℕ
header_text h = first_text h.version h ++ flat_map (transmission_text h.version) h.sends

-- ---- which headers are accepted

-- version One holds transmissions with one rate matching alone
abbrev pub AreHeld : Version → List Sending → Type 0
AreHeld version sends = version ≡ One → AreEven sends

pub record IsHeader (h : Header) : Type 0 where
  pub some : 1 ≤ h.tb
  pub few : h.tb ≤ 18722
  pub sent : AreSendings h.sends
  pub held : AreHeld h.version h.sends
  pub limited : is_limit (common h.sends).limit ≡ true
  pub fits : FitsAll (common h.sends).limit h.tb
