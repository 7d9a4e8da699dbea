-- The steps of a walk round the buffer.
use Rattle.std.proofs.Common.{◌≡◌, ℕ, ◌+◌, ◌-◌, ◌*◌, ◌/◌, ◌%◌, ◌<◌, ◌≤◌, if◌then◌else◌, slice_index, sym, ap, ◌∙◌, inl, inr, arith}
use Rattle.std.proofs.lemmas.Bool.{cases_lt, lt-ltb, le-ltb}
use Rattle.std.proofs.lemmas.Nat.{div-mul-add, mod-mul-add, mod_below}
use Rattle.std.proofs.Math.Nat.{div-add-mod, div-eq_of_lt, mod-eq_of_lt, mod_self, div-lt_iff_lt-mul}
use Rattle.model_sender.specs.CircularBuffer.{column_order, read_place, rows_of, buffer_size, Stream, padded, spot}
use Rattle.model_sender.proofs.BufferLaws.{spot-third}
use Rattle.model_sender.proofs.PaddedStreams.{column-below, read_place-below}
use Rattle.rate_match.specs.Cursor.{order_of, cursor_at}
use Rattle.rate_match.specs.declared.cursor.Cursor.{Cursor}
use Rattle.rate_match.proofs.SizeSteps.{places-most}

-- ---- the order at a place

pub order-first : (r n : ℕ) → n < 32 * r → order_of r n ≡ n
order-first r n h = ap (λ t. if t then n else (n - 32 * r) / 2) (lt-ltb n (32 * r) h)

pub order-later : (r n : ℕ) → 32 * r ≤ n → order_of r n ≡ (n - 32 * r) / 2
order-later r n h = ap (λ t. if t then n else (n - 32 * r) / 2) (le-ltb n (32 * r) h)

pub order-below : (r n : ℕ) → n < 96 * r → order_of r n < 32 * r
order-below r n within =
    elim (cases_lt n (32 * r)) [
      | inl h ↦ omega (arith, h, order-first r n h)
      | inr h ↦ omega (arith, h, order-later r n h, within)
    ]

-- v1 begins again
pub order-begins : (r n : ℕ) → n ≡ 32 * r → order_of r n ≡ 0
order-begins r n at = let h : 32 * r ≤ n = omega (arith, at) in omega (arith, at, order-later r n h)

pub order-zero : (r : ℕ) → 0 < r → order_of r 0 ≡ 0
order-zero r some = order-first r 0 (omega (arith, some))

-- v2 stands beside v1
pub order-stays : (r n : ℕ) → 32 * r < n + 1 → (n + 1) % 2 ≡ 1 → order_of r (n + 1) ≡ order_of r n
order-stays r n above odd =
    let here : 32 * r ≤ n = omega (arith, above) in
    let there : 32 * r ≤ n + 1 = omega (arith, above) in
    omega (arith, order-later r n here, order-later r (n + 1) there, odd)

pub order-more : (r n : ℕ) → (n + 1 ≡ 32 * r → ⊥) → (32 * r < n + 1 → (n + 1) % 2 ≡ 1 → ⊥) → order_of r (n + 1) ≡ order_of r n + 1
order-more r n apart even =
    elim (cases_lt (n + 1) (32 * r)) [
      | inl h ↦ (let here : n < 32 * r = omega (arith, h) in omega (arith, order-first r n here, order-first r (n + 1) h))
      | inr h ↦
          let above : 32 * r < n + 1 = omega (arith, h, apart) in
          let here : 32 * r ≤ n = omega (arith, above) in
          let rest : (n + 1) % 2 < 2 = mod_below (n + 1) 2 (omega arith) in
          let none : (n + 1) % 2 ≡ 0 = omega (arith, rest, even above) in
          omega (arith, order-later r n here, order-later r (n + 1) h, none, above)
    ]

-- ---- the cursor there

abbrev pub made : (n column by_rows : ℕ) → Cursor
made n column by_rows = record { n = n; column = column; by_rows = by_rows }

same : (n : ℕ) {a b c d : ℕ} → a ≡ b → c ≡ d → made n a c ≡ made n b d
same n p q i = made n (p i) (q i)

pub begins : (r n : ℕ) → 0 < r → order_of r n ≡ 0 → made n 0 0 ≡ cursor_at r n
begins r n some order =
    let column : order_of r n / r ≡ 0 = ap (λ (i : ℕ). i / r) order ∙ div-eq_of_lt some in
    let row : order_of r n % r ≡ 0 = ap (λ (i : ℕ). i % r) order ∙ mod-eq_of_lt some in
    let first : slice_index column_order (order_of r n / r) ≡ 0 = ap (slice_index column_order) column in
    same n (sym column) (omega (arith, row, first))

-- one row further on
pub next_row : (r n : ℕ) (c : Cursor) → c ≡ cursor_at r c.n → order_of r n ≡ order_of r c.n + 1 → c.by_rows + 32 < 32 * r → made n c.column (c.by_rows + 32) ≡ cursor_at r n
next_row r n c is order within =
    let i : ℕ = order_of r c.n in
    let column : c.column ≡ i / r = ap (λ (c : Cursor). c.column) is in
    let place : c.by_rows ≡ slice_index column_order (i / r) + 32 * (i % r) = ap (λ (c : Cursor). c.by_rows) is in
    let inside : i % r + 1 < r = omega (arith, within, place) in
    let whole : r * (i / r) + i % r ≡ i = div-add-mod i r in
    let split : order_of r n ≡ i / r * r + (i % r + 1) = omega (arith, order, whole) in
    let quotient : order_of r n / r ≡ i / r = ap (λ (j : ℕ). j / r) split ∙ div-mul-add (i / r) r (i % r + 1) inside in
    let rest : order_of r n % r ≡ i % r + 1 = ap (λ (j : ℕ). j % r) split ∙ mod-mul-add (i / r) r (i % r + 1) inside in
    let at : slice_index column_order (order_of r n / r) ≡ slice_index column_order (i / r) = ap (slice_index column_order) quotient in
    same n (column ∙ sym quotient) (omega (arith, place, at, rest))

-- the column is full
pub next_column : (r n : ℕ) (c : Cursor) → c ≡ cursor_at r c.n → order_of r n ≡ order_of r c.n + 1 → order_of r n < 32 * r → 32 * r ≤ c.by_rows + 32
    → made n (c.column + 1) (slice_index column_order (c.column + 1)) ≡ cursor_at r n
next_column r n c is order within full =
    let i : ℕ = order_of r c.n in
    let some : 0 < r = omega (arith, within) in
    let column : c.column ≡ i / r = ap (λ (c : Cursor). c.column) is in
    let place : c.by_rows ≡ slice_index column_order (i / r) + 32 * (i % r) = ap (λ (c : Cursor). c.by_rows) is in
    let small : slice_index column_order (i / r) < 32 = column-below (i / r) ((div-lt_iff_lt-mul some).1 (let h : i < 32 * r = omega (arith, order, within) in h)) in
    let last : i % r < r = mod_below i r some in
    let whole : r * (i / r) + i % r ≡ i = div-add-mod i r in
    let split : order_of r n ≡ (i / r + 1) * r + 0 = omega (arith, order, whole, last, place, small, full) in
    let quotient : order_of r n / r ≡ i / r + 1 = ap (λ (j : ℕ). j / r) split ∙ div-mul-add (i / r + 1) r 0 some in
    let rest : order_of r n % r ≡ 0 = ap (λ (j : ℕ). j % r) split ∙ mod-mul-add (i / r + 1) r 0 some in
    let next : c.column + 1 ≡ order_of r n / r = omega (arith, column, quotient) in
    let at : slice_index column_order (c.column + 1) ≡ slice_index column_order (order_of r n / r) = ap (slice_index column_order) next in
    same n next (omega (arith, at, rest))

pub column-left : (r n : ℕ) (c : Cursor) → c ≡ cursor_at r c.n → order_of r n ≡ order_of r c.n + 1 → order_of r n < 32 * r → 32 * r ≤ c.by_rows + 32 → c.column + 1 < 32
column-left r n c is order within full =
    let next : c.column + 1 ≡ order_of r n / r = ap (λ (d : Cursor). d.column) (next_column r n c is order within full) in
    omega (arith, next, (div-lt_iff_lt-mul {k = r} {x = order_of r n} {y = 32} (let some : 0 < r = omega (arith, within) in some)).1 within)

-- ---- its bounds

pub place-below : (r : ℕ) (c : Cursor) → c ≡ cursor_at r c.n → order_of r c.n < 32 * r → c.by_rows < 32 * r
place-below r c is within =
    let place : c.by_rows ≡ read_place r (order_of r c.n) = ap (λ (c : Cursor). c.by_rows) is in
    omega (arith, place, read_place-below r (order_of r c.n) within)

-- a cursor at a place of a buffer of a block of k bits
pub record IsPlaced (k : ℕ) (c : Cursor) : Type 0 where
  pub place : c.by_rows < 32 * rows_of k
  pub few : 32 * rows_of k ≤ 6176
  pub reads : c.by_rows ≡ read_place (rows_of k) (order_of (rows_of k) c.n)

pub placed : (k r size : ℕ) (c : Cursor) → k ≤ 6144 → r ≡ rows_of k → size ≤ buffer_size k → c.n < size → c ≡ cursor_at r c.n → IsPlaced k c
placed k r size c few height room within is =
    let at : c ≡ cursor_at (rows_of k) c.n = is ∙ ap (λ (q : ℕ). cursor_at q c.n) height in
    record {
      place = place-below (rows_of k) c at (order-below (rows_of k) c.n (omega (arith, within, room)));
      few = places-most k few;
      reads = ap (λ (c : Cursor). c.by_rows) at;
    }

-- ---- the bit of d2 that stands at a place

abbrev third : ℕ → Stream
third k = record { k = k; number = 2; nulls = 0 }

spot-odd : (k fill n p : ℕ) → 32 * rows_of k ≤ n → (n % 2 ≡ 0 → ⊥) → p ≡ read_place (rows_of k) (order_of (rows_of k) n) →
    spot k fill n ≡ padded (third k) ((p + 1) % (32 * rows_of k))
spot-odd k fill n p later odd is =
    let r : ℕ = rows_of k in
    let rest : n % 2 < 2 = mod_below n 2 (omega arith) in
    let at : n ≡ 32 * r + 2 * order_of r n + 1 = omega (arith, later, order-later r n later, rest, odd) in
    ap (spot k fill) at ∙ spot-third k fill (order_of r n) ∙ ap (λ (q : ℕ). padded (third k) ((q + 1) % (32 * r))) (sym is)

pub third-first : (k fill n p : ℕ) → 32 * rows_of k ≤ n → (n % 2 ≡ 0 → ⊥) → p ≡ read_place (rows_of k) (order_of (rows_of k) n) → p + 1 ≡ 32 * rows_of k →
    padded (third k) 0 ≡ spot k fill n
third-first k fill n p later odd is last =
    sym (spot-odd k fill n p later odd is ∙ ap (padded (third k)) (ap (λ (m : ℕ). m % (32 * rows_of k)) last ∙ mod_self (32 * rows_of k)))

pub third-later : (k fill n p : ℕ) → 32 * rows_of k ≤ n → (n % 2 ≡ 0 → ⊥) → p ≡ read_place (rows_of k) (order_of (rows_of k) n) → p + 1 < 32 * rows_of k →
    padded (third k) (p + 1) ≡ spot k fill n
third-later k fill n p later odd is inner = sym (spot-odd k fill n p later odd is ∙ ap (padded (third k)) (mod-eq_of_lt inner))

-- a cursor's place is its own
pub lawful-at : (r m : ℕ) (c : Cursor) → c ≡ cursor_at r m → c ≡ cursor_at r c.n
lawful-at r m c is = is ∙ ap (cursor_at r) (sym (ap (λ (c : Cursor). c.n) is))
