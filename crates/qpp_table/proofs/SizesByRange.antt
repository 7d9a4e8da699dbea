-- The sizes within a range are those of 24 rows.
use Rattle.std.proofs.Common.{◌≡◌, ℕ, ◌≤◌, Bool, true, ◌||◌, ltb, List, Contains, inl, inr, refl, arith}
use Rattle.std.specs.List.{list_all}
use Rattle.std.proofs.lemmas.Bool.{or_cases, ltb-true}
use Rattle.std.proofs.lemmas.List.Elements.{All-contains}
use Rattle.std.proofs.lemmas.List.Sums.{AllPass-from_list_all}
use Rattle.model_sender.specs.Interleaver.{sizes}
use Rattle.model_sender.specs.declared.rows.Row.{Row}
use Rattle.qpp_table.specs.Groups.{rows_from, is_among}

-- k is outside of a range, or the size of one of the rows
abbrev is_covered : ℕ → ℕ → List Row → ℕ → Bool
is_covered low high rows k = ltb k low || (ltb high k || is_among rows k)

within : (low high : ℕ) (rows : List Row) → list_all (is_covered low high rows) sizes ≡ true → (k : ℕ) → Contains sizes k → low ≤ k → k ≤ high → is_among rows k ≡ true
within low high rows all k size least most =
    let covered : is_covered low high rows k ≡ true =
    All-contains (λ n. is_covered low high rows n ≡ true) sizes k (AllPass-from_list_all (is_covered low high rows) sizes all) size in
    elim (or_cases (ltb k low) (ltb high k || is_among rows k) covered) [
      | inl below ↦ absurd (omega (arith, ltb-true k low below, least))
      | inr rest ↦ elim (or_cases (ltb high k) (is_among rows k) rest) [
        | inl above ↦ absurd (omega (arith, ltb-true high k above, most))
        | inr among ↦ among
      ]
    ]

pub from_40 : (k : ℕ) → Contains sizes k → 0 ≤ k → k ≤ 224 → is_among (rows_from 0) k ≡ true
unfolding sizes is_among
from_40 = within 0 224 (rows_from 0) refl

pub from_232 : (k : ℕ) → Contains sizes k → 225 ≤ k → k ≤ 416 → is_among (rows_from 24) k ≡ true
unfolding sizes is_among
from_232 = within 225 416 (rows_from 24) refl

pub from_424 : (k : ℕ) → Contains sizes k → 417 ≤ k → k ≤ 704 → is_among (rows_from 48) k ≡ true
unfolding sizes is_among
from_424 = within 417 704 (rows_from 48) refl

pub from_720 : (k : ℕ) → Contains sizes k → 705 ≤ k → k ≤ 1152 → is_among (rows_from 72) k ≡ true
unfolding sizes is_among
from_720 = within 705 1152 (rows_from 72) refl

pub from_1184 : (k : ℕ) → Contains sizes k → 1153 ≤ k → k ≤ 1920 → is_among (rows_from 96) k ≡ true
unfolding sizes is_among
from_1184 = within 1153 1920 (rows_from 96) refl

pub from_1952 : (k : ℕ) → Contains sizes k → 1921 ≤ k → k ≤ 3328 → is_among (rows_from 120) k ≡ true
unfolding sizes is_among
from_1952 = within 1921 3328 (rows_from 120) refl

pub from_3392 : (k : ℕ) → Contains sizes k → 3329 ≤ k → k ≤ 4864 → is_among (rows_from 144) k ≡ true
unfolding sizes is_among
from_3392 = within 3329 4864 (rows_from 144) refl

pub from_4928 : (k : ℕ) → Contains sizes k → 4865 ≤ k → k ≤ 6144 → is_among (rows_from 168) k ≡ true
unfolding sizes is_among
from_4928 = within 4865 6144 (rows_from 168) refl
