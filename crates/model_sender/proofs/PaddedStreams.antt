-- A stream after its padding, by index: which bit stands at a place, and where there is none.
use Rattle.std.proofs.Common.{◌≡◌, ◌↔◌, ℕ, ◌+◌, ◌-◌, ◌*◌, ◌/◌, ◌%◌, ◌<◌, ◌≤◌, true, false, length, replicate, slice_index, slice_index_or, None, Some, refl, ap, sym, subst, ◌∙◌, inl, inr, ◌⊎◌, arith}
use Rattle.std.specs.Prelude.{nat_lt, if◌then◌else◌, unwrap_or}
use Rattle.std.proofs.lemmas.Bool.{cases_lt, lt-ltb, le-ltb}
use Rattle.std.proofs.lemmas.Grind.{common_steps}
use Rattle.std.proofs.lemmas.List.{get_or_append_left, get_or-append_right}
use Rattle.std.proofs.lemmas.List.Folds.{list_all_at}
use Rattle.std.proofs.lemmas.Nat.{mod_below}
use Rattle.std.proofs.Math.Nat.{div-lt_iff_lt-mul}
use Rattle.lte_bits.specs.declared.bit.Cell.TheVariants.{Null}
use Rattle.lte_bits.specs.declared.block.Streams.{Streams}
use Rattle.model_sender.specs.declared.spot.Spot.{Spot}
use Rattle.model_sender.specs.CircularBuffer.{HasNulls, Stream, cell_at, column_order, padded, padding, read_place, rows_of, stream_of, y}
use Rattle.model_sender.proofs.SelectionLaws.{rows-bounds}

-- ---- places of y

-- the columns are numbered from 0 to 31
pub column-below : (i : ℕ) → i < 32 → slice_index column_order i < 32
column-below i within =
    elim (cases_lt (slice_index column_order i) 32) [
      | inl below ↦ below
      | inr above ↦
          let off = list_all_at (λ (c : ℕ). nat_lt c 32) column_order i 0 within (le-ltb (slice_index column_order i) 32 above) in
          absurd (let h : true ≡ false = off in cc)
    ]

pub read_place-below : (r j : ℕ) → j < 32 * r → read_place r j < 32 * r
read_place-below r j within =
    let some : 0 < r = omega (arith, within) in
    let column : slice_index column_order (j / r) < 32 = column-below (j / r) ((div-lt_iff_lt-mul some).1 within) in
    let row : j % r < r = mod_below j r some in
    omega (arith, column, row)

-- ---- what stands there

-- below the NULLs there is no bit
no-bit : (d : Stream) (p : ℕ) → p < padding d.k + d.nulls → padded d p ≡ None
no-bit d p below = ap (λ t. if t then None else Some (record { stream = d.number; index = p - padding d.k })) (lt-ltb p (padding d.k + d.nulls) below)

-- from there on there is one
a-bit : (d : Stream) (p : ℕ) → padding d.k + d.nulls ≤ p → padded d p ≡ Some (record { stream = d.number; index = p - padding d.k })
a-bit d p above = ap (λ t. if t then None else Some (record { stream = d.number; index = p - padding d.k })) (le-ltb p (padding d.k + d.nulls) above)

index-below : (k p : ℕ) → padding k ≤ p → p < 32 * rows_of k → p - padding k < k + 4
index-below k p above within = let fits : k + 4 ≤ 32 * rows_of k = (rows-bounds k).1 in omega (arith, above, within, fits)

spots-differ : (p : Spot) → None ≡ Some p → ⊥
spots-differ p e = cc

-- the streams' cells and NULLs
pub record IsStream (d : Stream) (s : Streams) : Type 0 where
  pub long : length (stream_of s d.number) ≡ d.k + 4
  pub nulls : HasNulls d.nulls (stream_of s d.number)

-- a cell is NULL exactly where no bit stands
pub padded-null : (d : Stream) (s : Streams) (p : ℕ) → IsStream d s → p < 32 * rows_of d.k → (cell_at s (padded d p) ≡ Null) ↔ (padded d p ≡ None)
padded-null d s p is within =
    elim (cases_lt p (padding d.k + d.nulls)) [
      | inl below ↦ (λ _. no-bit d p below, λ _. ap (cell_at s) (no-bit d p below))
      | inr above ↦
          let i : ℕ = p - padding d.k in
          let inside : i < length (stream_of s d.number) = omega (arith, is.long, index-below d.k p (omega (arith, above)) within) in (
            λ e. absurd (
                let filler : i < d.nulls = (is.nulls i inside).0 (sym (ap (cell_at s) (a-bit d p above)) ∙ e) in
                let no : ⊥ = omega (arith, filler, above) in no),
            λ e. absurd (spots-differ (record { stream = d.number; index = i }) (sym e ∙ a-bit d p above)),
          )
    ]

-- and it is that of the stream after its padding
pub padded-cell : (d : Stream) (s : Streams) (p : ℕ) → IsStream d s → p < 32 * rows_of d.k → cell_at s (padded d p) ≡ slice_index_or (y d.k (stream_of s d.number)) p Null
padded-cell d s p is within =
    elim (cases_lt p (padding d.k)) [
      | inl below ↦ ap (cell_at s) (no-bit d p (omega (arith, below))) ∙ sym (in_padding below)
      | inr above ↦ behind above (cases_lt p (padding d.k + d.nulls)) ∙ sym (in_stream above)
    ]
  where
    long : (n : ℕ) → length (replicate n Null) ≡ n
    long n = grind (arith, common_steps)

    all-null : (n i : ℕ) → slice_index_or (replicate n Null) i Null ≡ Null
    all-null n i = grind (arith, common_steps)

    in_padding : p < padding d.k → slice_index_or (y d.k (stream_of s d.number)) p Null ≡ Null
    in_padding below = get_or_append_left (replicate (padding d.k) Null) (stream_of s d.number) Null p (omega (arith, below, long (padding d.k))) ∙ all-null (padding d.k) p

    in_stream : padding d.k ≤ p → slice_index_or (y d.k (stream_of s d.number)) p Null ≡ slice_index_or (stream_of s d.number) (p - padding d.k) Null
    in_stream above = get_or-append_right (replicate (padding d.k) Null) (stream_of s d.number) (padding d.k) p Null (long (padding d.k)) above

    behind : padding d.k ≤ p → (p < padding d.k + d.nulls) ⊎ (padding d.k + d.nulls ≤ p) → cell_at s (padded d p) ≡ slice_index_or (stream_of s d.number) (p - padding d.k) Null
    behind above (inl filler) =
        let inside : p - padding d.k < length (stream_of s d.number) = omega (arith, is.long, index-below d.k p above within) in
        ap (cell_at s) (no-bit d p filler) ∙ sym ((is.nulls (p - padding d.k) inside).1 (omega (arith, above, filler)))
    behind above (inr bit) = ap (cell_at s) (a-bit d p bit)

-- a bit is one of its stream
pub padded-within : (d : Stream) (p : ℕ) (q : Spot) → p < 32 * rows_of d.k → padded d p ≡ Some q → (q.stream ≡ d.number) × (q.index < d.k + 4)
padded-within d p q within e =
    elim (cases_lt p (padding d.k + d.nulls)) [
      | inl below ↦ absurd (spots-differ q (sym (no-bit d p below) ∙ e))
      | inr above ↦
          let found : Spot = record { stream = d.number; index = p - padding d.k } in
          let same : found ≡ q = ap (λ o. unwrap_or o found) (sym (a-bit d p above) ∙ e) in
          let P : Spot → Type 0 = λ t. (t.stream ≡ d.number) × (t.index < d.k + 4) in
          subst P same (refl, index-below d.k p (omega (arith, above)) within)
    ]
