-- What contracts see of `Sends`: the transmissions held, after which the places repeat the first.
use Rattle.std.proofs.Common.{◌≡◌, ◌≤◌, List, [], ◌∷◌, length, take, arith}
use Rattle.std.proofs.lemmas.List.{length-take-le}
use Rattle.lte_bits.specs.Lists.{resized}
use Rattle.rate_match.specs.declared.sends.Sending.{Sending}
use Rattle.rate_match.specs.declared.sends.Sends.TheInside.{Inside}
use Rattle.rate_match.specs.Sendings.{AreSendings, common}

abbrev pub sendings_held : Inside → List Sending
sendings_held s = take s.held s.values

abbrev pub first : List Sending → Sending
first [] = record { m = common []; rv = 0 }
first (s ∷ _) = s

abbrev pub filled_up : List Sending → Inside
filled_up sends = record { values = resized sends 8 (first sends); held = length sends }

pub record IsHeld (s : Inside) : Type 0 where
  pub places : length s.values ≡ 8
  pub within : s.held ≤ 8
  pub rest : resized (sendings_held s) 8 (first (sendings_held s)) ≡ s.values
  pub sendings : AreSendings (sendings_held s)

pub filled_up-held : (s : Inside) → IsHeld s → filled_up (sendings_held s) ≡ s
filled_up-held s h i = record { values = h.rest i; held = length-take-le s.held s.values (omega (arith, h.within, h.places)) i }
