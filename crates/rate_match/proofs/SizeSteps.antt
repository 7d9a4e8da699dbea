-- Sizes above 1024 are multiples of 32, so that a stream of one takes 32 places more than its bits.
use Rattle.std.proofs.Common.{◌≡◌, ℕ, ◌+◌, ◌*◌, ◌%◌, ◌<◌, ◌≤◌, Bool, true, false, ◌&&◌, ◌||◌, nat_le, ◌==◌, Contains, refl, subst, arith}
use Rattle.std.specs.List.{list_all}
use Rattle.std.proofs.lemmas.Bool.{and_parts, leb-true, eqb-true}
use Rattle.std.proofs.lemmas.List.Sums.{AllPass-from_list_all}
use Rattle.model_sender.specs.Interleaver.{sizes}
use Rattle.model_sender.specs.CircularBuffer.{rows_of}

abbrev step_test : ℕ → Bool
step_test k = (nat_le 1 k && nat_le k 6144) && (nat_le k 1024 || k % 32 == 0)

passed : list_all step_test sizes ≡ true
unfolding sizes
passed = refl

pub record IsStep (k : ℕ) : Type 0 where
  pub some : 1 ≤ k
  pub few : k ≤ 6144
  pub whole : 1024 < k → k % 32 ≡ 0

stepped : (k : ℕ) → step_test k ≡ true → IsStep k
stepped k pass =
    let parts = and_parts (nat_le 1 k && nat_le k 6144) (nat_le k 1024 || k % 32 == 0) pass in
    let bounds = and_parts (nat_le 1 k) (nat_le k 6144) parts.0 in
    record { some = leb-true 1 k bounds.0; few = leb-true k 6144 bounds.1; whole = λ above. by_test (nat_le k 1024) refl parts.1 above }
  where
    by_test : (t : Bool) → nat_le k 1024 ≡ t → (t || k % 32 == 0) ≡ true → 1024 < k → k % 32 ≡ 0
    by_test true e pass above = absurd (let le : k ≤ 1024 = leb-true k 1024 e in omega (arith, le, above))
    by_test false e pass above = eqb-true (k % 32) 0 pass

pub size-step : (k : ℕ) → Contains sizes k → IsStep k
size-step k inside =
    let P : ℕ → Type 0 = λ n. step_test n ≡ true in
    stepped k (subst P inside.2 (AllPass-from_list_all step_test sizes passed inside.0 k inside.1))

-- the places of a stream
pub places-most : (k : ℕ) → k ≤ 6144 → 32 * rows_of k ≤ 6176
places-most k few = omega (arith, few)

pub places-whole : (k : ℕ) → k % 32 ≡ 0 → 32 * rows_of k ≡ k + 32
places-whole k whole = omega (arith, whole)

pub places-rise : (j k : ℕ) → j ≤ k → 32 * rows_of j ≤ 32 * rows_of k
places-rise j k le = omega (arith, le)
