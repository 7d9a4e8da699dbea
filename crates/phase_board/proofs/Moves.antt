-- The piece of one window moves.
use Rattle.std.proofs.Common.{◌≡◌, ◌≢◌, ℕ, suc, arith}
use native.Mathlib.Decide.{ℕ_discrete}
use Rattle.phase_board.specs.Lawful.{Where}

abbrev pub choose : {P : Type 0} → Dec P → Where → Where → Where
choose (yes _) a b = a
choose (no _) a b = b

-- the place of one window changes
abbrev pub moved_to : (ℕ → Where) → ℕ → Where → ℕ → Where
moved_to at n x t = choose (ℕ_discrete t n) x (at t)

pub moved_case : (at : ℕ → Where) (n : ℕ) (x : Where) (F : Where → Type 0) (t : ℕ) → (t ≡ n → F x) → (t ≢ n → F (at t)) → F (moved_to at n x t)
moved_case at n x F t here there = go (ℕ_discrete t n)
  where
    go : (d : Dec (t ≡ n)) → F (choose d x (at t))
    go (yes e) = here e
    go (no e) = there e

pub up_ne : (t n : ℕ) → t ≢ n → suc t ≢ suc n
up_ne t n ne e = ne (omega arith)
