-- What a board is made of.
use Rattle.std.specs.Prelude.{◌≡◌, ℕ, ◌<◌, ◌≤◌, List, [], ◌∷◌, Option, Some, None}
use Rattle.phase_board.specs.Slots.{AllPieces}

-- the job of the pieces is that of the first
abbrev pub job_of : {P J : Type 0} → (P → J) → List P → Option J
job_of job [] = None
job_of job (p ∷ ps) = Some (job p)

module _ {P C J : Type 0} where
  -- 1 to 64 pieces, as many as the job has windows, all of this job (`own` says which job a piece has) and
  -- ready for half 0, and the common value of half 0
  abbrev pub Opens : (P → J) → (J → ℕ) → (J → ℕ → ℕ → P → Type 0) → (J → ℕ → C → Type 0) → J → List P → C
      → Type 0
  Opens own windows ready common job ps c = (0 < windows job) × (windows job ≤ 64)
      × AllPieces (windows job) (λ t p. (own p ≡ job) × ready job 0 t p) ps × common job 0 c
