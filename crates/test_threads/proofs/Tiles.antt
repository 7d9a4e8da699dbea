-- A board of tiles that are all alike.
use Rattle.std.proofs.Common.{◌≡◌, ℕ, zero, suc, ◌<◌, ◌≤◌, List, replicate, ap, sym, subst, arith}
use Rattle.std.specs.Prelude.{IsSomeAnd}
use Rattle.std.proofs.lemmas.List.{length-replicate}
use lib.ListN.{get_elem?}
use Rattle.phase_board.specs.Openings.{job_of, Opens}
use mathlib.Core.Option.{some, some-injective, some-ne-none}

alike : {X : Type 0} (n t : ℕ) (x p : X) → get_elem? (replicate n x) t ≡ some p → x ≡ p
alike zero t x p e = absurd (some-ne-none p (sym e))
alike (suc n) zero x p e = some-injective x p e
alike (suc n) (suc t) x p e = alike n t x p e

-- so many pieces of a job of so many windows open a board
pub opens-alike : {P C : Type 0} (own : P → ℕ) (n : ℕ) (x : P) (ps : List P) (c : C) → own x ≡ n → 0 < n → n ≤ 64 → ps ≡ replicate n x
    → IsSomeAnd (job_of own ps) (λ job. Opens own (λ j. j) (λ _ _ _ _. Unit {0}) (λ _ _ _. Unit {0}) job ps c)
opens-alike own zero x ps c is least few all = absurd (omega (arith, least))
opens-alike {P} own (suc n) x ps c is least few all =
    subst (λ (qs : List P). IsSomeAnd (job_of own qs) (λ job. Opens own (λ j. j) (λ _ _ _ _. Unit {0}) (λ _ _ _. Unit {0}) job qs c)) (sym all) (
      omega (arith, is, least),
      omega (arith, is, few),
      (omega (arith, length-replicate (suc n) x, is), λ t p at. (sym (ap own (alike (suc n) t x p at)), tt)),
      tt,
    )
