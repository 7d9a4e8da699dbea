-- What contracts see of a `Match`.
use Rattle.model_sender.specs.CircularBuffer.{Match}
use Rattle.rate_match.specs.declared.matching.Match.TheInside.{Inside}
use Rattle.rate_match.specs.Matching.{IsMatch}

abbrev pub shown : Inside → Match
shown m = record { qm = m.qm; nl = m.nl; g = m.g; limit = m.limit }

abbrev pub hidden : Match → Inside
hidden m = record { qm = m.qm; nl = m.nl; g = m.g; limit = m.limit }

abbrev pub IsKept : Inside → Type 0
IsKept m = IsMatch (shown m)
