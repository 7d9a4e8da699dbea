-- What came of the transmissions of a transport block, from one list of soft values.
use Rattle.std.specs.Prelude.{ℕ, ℤ, List, [], ◌∷◌, take, drop, sum_by}
use Rattle.rate_match.specs.declared.sends.Sending.{Sending}
use Rattle.model_receiver.specs.SoftCells.{Reception, reception}

-- the soft values of all transmissions: G of each
abbrev pub value_count : List Sending → ℕ
value_count sends = sum_by (λ s. s.m.g) sends

-- each transmission with its values, which stand after those of the transmissions before it
abbrev pub receptions : List Sending → List ℤ → List Reception
receptions [] softs = []
receptions (s ∷ sends) softs = reception s.m s.rv (take s.m.g softs) ∷ receptions sends (drop s.m.g softs)
