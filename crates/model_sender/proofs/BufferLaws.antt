-- The circular buffer by index is the one that is read by columns out of padded streams.
use Rattle.std.proofs.Common.{◌≡◌, ◌↔◌, ℕ, ◌+◌, ◌-◌, ◌*◌, ◌/◌, ◌%◌, ◌<◌, ◌≤◌, slice_index_or, Option, None, Some, ap, sym, subst, ◌∙◌, inl, inr, arith}
use Rattle.std.specs.Prelude.{◌==◌, if◌then◌else◌}
use Rattle.std.proofs.lemmas.Bool.{cases_lt, lt-ltb, le-ltb}
use Rattle.std.proofs.lemmas.Nat.{mod_below}
use Rattle.std.proofs.Math.Nat.{div-add-mod}
use Rattle.lte_bits.specs.declared.bit.Cell.TheVariants.{Null}
use Rattle.lte_bits.specs.declared.block.Streams.{Streams}
use Rattle.model_sender.specs.declared.spot.Spot.{Spot}
use Rattle.model_sender.specs.CircularBuffer.{AreStreams, Stream, buffer_size, cell_at, padded, read_place, rows_of, spot, w, y}
use Rattle.model_sender.proofs.SelectionLaws.{rows-bounds}
use Rattle.model_sender.proofs.PaddedStreams.{IsStream, read_place-below, padded-null, padded-cell, padded-within}

-- ---- the places of w

abbrev pub d0 : ℕ → ℕ → Stream
d0 k fill = record { k = k; number = 0; nulls = fill }

abbrev pub d1 : ℕ → ℕ → Stream
d1 k fill = record { k = k; number = 1; nulls = fill }

abbrev pub d2 : ℕ → Stream
d2 k = record { k = k; number = 2; nulls = 0 }

-- where v2 stands that is taken after place j of v1
abbrev shifted : ℕ → ℕ → ℕ
shifted k j = (read_place (rows_of k) j + 1) % (32 * rows_of k)

-- what stands at place m after v0
abbrev behind_first : ℕ → ℕ → ℕ → Option Spot
behind_first k fill m = if m % 2 == 0 then padded (d1 k fill) (read_place (rows_of k) (m / 2)) else padded (d2 k) (shifted k (m / 2))

pub spot-first : (k fill j : ℕ) → j < 32 * rows_of k → spot k fill j ≡ padded (d0 k fill) (read_place (rows_of k) j)
spot-first k fill j within =
    ap (λ t. if t then padded (d0 k fill) (read_place (rows_of k) j) else behind_first k fill (j - 32 * rows_of k)) (lt-ltb j (32 * rows_of k) within)

spot-behind : (k fill m : ℕ) → spot k fill (32 * rows_of k + m) ≡ behind_first k fill m
spot-behind k fill m =
    let r : ℕ = rows_of k in
    let n : ℕ = 32 * r + m in
    ap (λ t. if t then padded (d0 k fill) (read_place r n) else behind_first k fill (n - 32 * r)) (le-ltb n (32 * r) (omega arith))
    ∙ ap (behind_first k fill) (let e : n - 32 * r ≡ m = omega arith in e)

even : (j : ℕ) → (2 * j % 2 ≡ 0) × (2 * j / 2 ≡ j)
even j = let whole : 2 * (2 * j / 2) + 2 * j % 2 ≡ 2 * j = div-add-mod (2 * j) 2 in let rest : 2 * j % 2 < 2 = mod_below (2 * j) 2 (omega arith) in
    (omega (arith, whole, rest), omega (arith, whole, rest))

odd : (j : ℕ) → ((2 * j + 1) % 2 ≡ 1) × ((2 * j + 1) / 2 ≡ j)
odd j = let whole : 2 * ((2 * j + 1) / 2) + (2 * j + 1) % 2 ≡ 2 * j + 1 = div-add-mod (2 * j + 1) 2 in let rest : (2 * j + 1) % 2 < 2 =
    mod_below (2 * j + 1) 2 (omega arith) in (omega (arith, whole, rest), omega (arith, whole, rest))

pub spot-second : (k fill j : ℕ) → spot k fill (32 * rows_of k + 2 * j) ≡ padded (d1 k fill) (read_place (rows_of k) j)
spot-second k fill j =
    spot-behind k fill (2 * j)
    ∙ ap (λ p. if p == 0 then padded (d1 k fill) (read_place (rows_of k) (2 * j / 2)) else padded (d2 k) (shifted k (2 * j / 2))) (even j).0
    ∙ ap (λ h. padded (d1 k fill) (read_place (rows_of k) h)) (even j).1

pub spot-third : (k fill j : ℕ) → spot k fill (32 * rows_of k + 2 * j + 1) ≡ padded (d2 k) (shifted k j)
spot-third k fill j =
    ap (spot k fill) (let e : 32 * rows_of k + 2 * j + 1 ≡ 32 * rows_of k + (2 * j + 1) = omega arith in e)
    ∙ spot-behind k fill (2 * j + 1)
    ∙ ap (λ p. if p == 0 then padded (d1 k fill) (read_place (rows_of k) ((2 * j + 1) / 2)) else padded (d2 k) (shifted k ((2 * j + 1) / 2))) (odd j).0
    ∙ ap (λ h. padded (d2 k) (shifted k h)) (odd j).1

-- ---- w by its three parts

-- what holds of each part holds of all
by_parts : (k : ℕ) (P : ℕ → Type 0) → ((j : ℕ) → j < 32 * rows_of k → P j) → ((j : ℕ) → j < 32 * rows_of k → P (32 * rows_of k + 2 * j))
    → ((j : ℕ) → j < 32 * rows_of k → P (32 * rows_of k + 2 * j + 1)) → (n : ℕ) → n < buffer_size k → P n
by_parts k P first second third n within = elim (cases_lt n (32 * rows_of k)) [ inl front ↦ first n front | inr behind ↦ turns behind ]
  where
    turns : 32 * rows_of k ≤ n → P n
    turns behind =
        let m : ℕ = n - 32 * rows_of k in
        let j : ℕ = m / 2 in
        let whole : 2 * j + m % 2 ≡ m = div-add-mod m 2 in
        let rest : m % 2 < 2 = mod_below m 2 (omega arith) in
        let inside : j < 32 * rows_of k = omega (arith, whole, within, behind) in
        elim (cases_lt (m % 2) 1) [
          | inl zero ↦ subst P (let e : 32 * rows_of k + 2 * j ≡ n = omega (arith, whole, behind, zero) in e) (second j inside)
          | inr one ↦ subst P (let e : 32 * rows_of k + 2 * j + 1 ≡ n = omega (arith, whole, behind, one, rest) in e) (third j inside)
        ]

stream_0 : (k fill : ℕ) (s : Streams) → AreStreams k fill s → IsStream (d0 k fill) s
stream_0 k fill s are = record { long = are.d0_long; nulls = are.d0_nulls }

stream_1 : (k fill : ℕ) (s : Streams) → AreStreams k fill s → IsStream (d1 k fill) s
stream_1 k fill s are = record { long = are.d1_long; nulls = are.d1_nulls }

stream_2 : (k fill : ℕ) (s : Streams) → AreStreams k fill s → IsStream (d2 k) s
stream_2 k fill s are = record { long = are.d2_long; nulls = are.d2_nulls }

shifted-below : (k j : ℕ) → shifted k j < 32 * rows_of k
shifted-below k j = mod_below (read_place (rows_of k) j + 1) (32 * rows_of k) (let some : 0 < rows_of k = (rows-bounds k).0 in omega (arith, some))

pub first-read : (k fill j : ℕ) (s : Streams) → AreStreams k fill s → j < 32 * rows_of k → w k fill s j ≡ slice_index_or (y k s.d0) (read_place (rows_of k) j) Null
first-read k fill j s are within =
    ap (cell_at s) (spot-first k fill j within) ∙ padded-cell (d0 k fill) s (read_place (rows_of k) j) (stream_0 k fill s are) (read_place-below (rows_of k) j within)

pub second-read : (k fill j : ℕ) (s : Streams) → AreStreams k fill s → j < 32 * rows_of k
    → w k fill s (32 * rows_of k + 2 * j) ≡ slice_index_or (y k s.d1) (read_place (rows_of k) j) Null
second-read k fill j s are within =
    ap (cell_at s) (spot-second k fill j) ∙ padded-cell (d1 k fill) s (read_place (rows_of k) j) (stream_1 k fill s are) (read_place-below (rows_of k) j within)

pub third-read : (k fill j : ℕ) (s : Streams) → AreStreams k fill s → j < 32 * rows_of k
    → w k fill s (32 * rows_of k + 2 * j + 1) ≡ slice_index_or (y k s.d2) (shifted k j) Null
third-read k fill j s are within =
    ap (cell_at s) (spot-third k fill j) ∙ padded-cell (d2 k) s (shifted k j) (stream_2 k fill s are) (shifted-below k j)

abbrev NullWhereNone : Streams → Option Spot → Type 0
NullWhereNone s o = (cell_at s o ≡ Null) ↔ (o ≡ None)

pub null-where-none : (k fill n : ℕ) (s : Streams) → AreStreams k fill s → n < buffer_size k → (w k fill s n ≡ Null) ↔ (spot k fill n ≡ None)
null-where-none k fill n s are within =
    by_parts k (λ m. NullWhereNone s (spot k fill m))
    (λ j inside. subst (NullWhereNone s) (sym (spot-first k fill j inside)) (padded-null (d0 k fill) s (read_place (rows_of k) j) (stream_0 k fill s are) (read_place-below (rows_of k) j inside)))
    (λ j inside. subst (NullWhereNone s) (sym (spot-second k fill j)) (padded-null (d1 k fill) s (read_place (rows_of k) j) (stream_1 k fill s are) (read_place-below (rows_of k) j inside)))
    (λ j inside. subst (NullWhereNone s) (sym (spot-third k fill j)) (padded-null (d2 k) s (shifted k j) (stream_2 k fill s are) (shifted-below k j)))
    n within

pub spot-within : (k fill n : ℕ) (q : Spot) → n < buffer_size k → spot k fill n ≡ Some q → (q.stream ≤ 2) × (q.index < k + 4)
spot-within k fill n q within =
    by_parts k (λ m. spot k fill m ≡ Some q → (q.stream ≤ 2) × (q.index < k + 4))
    (λ j inside e. bounded (d0 k fill) (omega arith) (padded-within (d0 k fill) (read_place (rows_of k) j) q (read_place-below (rows_of k) j inside) (sym (spot-first k fill j inside) ∙ e)))
    (λ j inside e. bounded (d1 k fill) (omega arith) (padded-within (d1 k fill) (read_place (rows_of k) j) q (read_place-below (rows_of k) j inside) (sym (spot-second k fill j) ∙ e)))
    (λ j inside e. bounded (d2 k) (omega arith) (padded-within (d2 k) (shifted k j) q (shifted-below k j) (sym (spot-third k fill j) ∙ e)))
    n within
  where
    bounded : (d : Stream) → d.number ≤ 2 → (q.stream ≡ d.number) × (q.index < d.k + 4) → (q.stream ≤ 2) × (q.index < d.k + 4)
    bounded d few is = (omega (arith, few, is.0), is.1)
