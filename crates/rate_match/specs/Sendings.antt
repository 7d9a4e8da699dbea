-- The transmissions of a transport block: the rate matching and the redundancy version of each.
use Rattle.std.specs.Prelude.{◌≡◌, ◌≤◌, List, [], ◌∷◌, length, All, None}
use Rattle.model_sender.specs.CircularBuffer.{Match}
use Rattle.rate_match.specs.Matching.{IsMatch}
use Rattle.rate_match.specs.declared.sends.Sending.{Sending}

-- the rate matching of the first transmission; there is always one
abbrev pub common : List Sending → Match
common [] = record { qm = 0; nl = 0; g = 0; limit = None }
common (s ∷ _) = s.m

-- one to eight, all with the same soft buffer
pub record AreSendings (sends : List Sending) : Type 0 where
  pub some : 1 ≤ length sends
  pub few : length sends ≤ 8
  pub versions : All (λ s. s.rv ≤ 3) sends
  pub lawful : All (λ s. IsMatch s.m) sends
  pub buffer : All (λ s. s.m.limit ≡ (common sends).limit) sends

-- each has the same rate matching
abbrev pub AreEven : List Sending → Type 0
AreEven sends = All (λ s. s.m ≡ (common sends)) sends
