-- The internal interleaver (36.212 5.1.3.2.3), and the banks of its places (Takeshita 2006).
use Rattle.std.specs.Prelude.{◌≡◌, ℕ, ◌+◌, ◌*◌, ◌/◌, ◌%◌, ◌^◌, ◌≤◌, ◌==◌, List, map, find, unwrap_or}
use Rattle.model_sender.specs.declared.rows.Row.{Row}
use Rattle.model_sender.specs.declared.rows.TheConstants.{ROWS}

-- f has an inverse modulo k
abbrev pub IsUnit : ℕ → ℕ → Type 0
IsUnit k f = (v : ℕ) × (f * v % k ≡ 1 % k)

pub record Lawful (k f1 f2 : ℕ) : Type 0 where
  pub positive : 1 ≤ k
  pub unit : IsUnit k f1
  pub nilpotent : f2 ^ 7 % k ≡ 0

-- Pi(i) = (f1 i + f2 i^2) mod K
abbrev pub pi : ℕ → ℕ → ℕ → ℕ → ℕ
pi k f1 f2 i = (f1 * i + f2 * i * i) % k

-- the bank and the row of place n among windows of width w
abbrev pub bank : ℕ → ℕ → ℕ
bank w n = n / w

abbrev pub row : ℕ → ℕ → ℕ
row w n = n % w

-- the 188 sizes of code blocks
unfoldable pub sizes : List ℕ
sizes = map (λ r. r.0) ROWS

-- the table's row of size k
unfoldable pub row_of : ℕ → Row
row_of k = unwrap_or (find (λ r. r.0 == k) ROWS) (record { 0 = k; 1 = 0; 2 = 0 })

-- Pi of the row of size k
abbrev pub place : ℕ → ℕ → ℕ
place k i = pi k (row_of k).1 (row_of k).2 i
