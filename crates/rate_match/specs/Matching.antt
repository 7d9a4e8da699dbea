-- Which numbers are a matching.
use Rattle.std.specs.Prelude.{◌≡◌, ℕ, ◌*◌, ◌%◌, Bool, true, ◌&&◌, ◌||◌, not, nat_le, ◌==◌, if◌then◌else◌, Some, None, Ok, Err}
use Rattle.std.specs.declared.option.Option.{Option}
use Rattle.std.specs.declared.result.Result.{Result}
use Rattle.model_sender.specs.CircularBuffer.{Match}
use Rattle.rate_match.specs.declared.matching.Buffer.{Buffer}
use Rattle.rate_match.specs.declared.matching.Buffer.TheVariants.{Full, Limited}
use Rattle.rate_match.specs.declared.matching.BadMatch.{BadMatch}
use Rattle.rate_match.specs.declared.matching.BadMatch.TheVariants.{BadQm, BadNl, BadG}

-- N_IR, or None for a full buffer
abbrev pub limit_of : Buffer → Option ℕ
limit_of Full = None
limit_of (Limited limit) = Some limit

abbrev pub is_qm : ℕ → Bool
is_qm qm = qm == 2 || qm == 4 || qm == 6

abbrev pub is_nl : ℕ → Bool
is_nl nl = nl == 1 || nl == 2

-- G, of symbols of so many bits
abbrev pub is_g : ℕ → ℕ → Bool
is_g symbol g = nat_le 1 g && nat_le g 1000000 && g % symbol == 0

pub record IsMatch (m : Match) : Type 0 where
  pub qm : is_qm m.qm ≡ true
  pub nl : is_nl m.nl ≡ true
  pub g : is_g (m.nl * m.qm) m.g ≡ true

-- the matching of these numbers, or the first that isn't accepted
abbrev pub matched : ℕ → ℕ → ℕ → Option ℕ → Result Match BadMatch
matched qm nl g limit =
    if not (is_qm qm) then Err BadQm
    else if not (is_nl nl) then Err BadNl
    else if not (is_g (nl * qm) g) then Err BadG
    else Ok (record { qm = qm; nl = nl; g = g; limit = limit })
