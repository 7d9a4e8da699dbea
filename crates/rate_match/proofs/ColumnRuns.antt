-- The places of a run: bits of one column, 32 places apart in their streams.
use Rattle.std.proofs.Common.{◌≡◌, ℕ, zero, suc, ◌+◌, ◌-◌, ◌*◌, ◌/◌, ◌%◌, ◌<◌, ◌≤◌, max, min, if◌then◌else◌, slice_index, None, Some, refl, sym, ap, subst, ◌∙◌, inl, inr, arith}
use Rattle.std.specs.Int.{div_ceil}
use Rattle.std.proofs.lemmas.Bool.{cases_lt, lt-ltb, le-ltb}
use Rattle.std.proofs.lemmas.Nat.{div-mul-add, mod-mul-add, mod_below}
use Rattle.std.proofs.Math.Nat.{div-add-mod, mod-eq_of_lt, div-lt_iff_lt-mul}
use Rattle.model_sender.specs.declared.spot.Spot.{Spot}
use Rattle.model_sender.specs.CircularBuffer.{Stream, buffer_size, column_order, padded, padding, read_place, rows_of, spot}
use Rattle.model_sender.proofs.BufferLaws.{d0, d1, d2, spot-first, spot-second, spot-third, spot-within}
use Rattle.model_sender.proofs.PaddedStreams.{column-below}
use Rattle.rate_match.specs.Cursor.{IsInColumn, order_of, cursor_at, rows_down, spot_down}
use Rattle.rate_match.specs.Runs.{IsRun, bit_down}
use Rattle.rate_match.specs.declared.cursor.Cursor.{Cursor}
use Rattle.rate_match.specs.declared.runs.Run.{Run}
use Rattle.rate_match.proofs.CursorSteps.{made, order-first, order-later}

-- ---- down a column

-- a place some rows down the column
record IsDown (r o j : ℕ) : Type 0 where
  column : (o + j) / r ≡ o / r
  place : read_place r (o + j) ≡ read_place r o + 32 * j
  below : o + j < 32 * r

read-down : (r o j : ℕ) → o < 32 * r → o % r + j < r → IsDown r o j
read-down r o j within inside =
    let some : 0 < r = omega (arith, inside) in
    let whole : r * (o / r) + o % r ≡ o = div-add-mod o r in
    let split : o + j ≡ o / r * r + (o % r + j) = omega (arith, whole) in
    let quotient : (o + j) / r ≡ o / r = ap (λ (i : ℕ). i / r) split ∙ div-mul-add (o / r) r (o % r + j) inside in
    let rest : (o + j) % r ≡ o % r + j = ap (λ (i : ℕ). i % r) split ∙ mod-mul-add (o / r) r (o % r + j) inside in
    let at : slice_index column_order ((o + j) / r) ≡ slice_index column_order (o / r) = ap (slice_index column_order) quotient in
    let few : o / r < 32 = (div-lt_iff_lt-mul {k = r} {x = o} {y = 32} some).1 within in
    record {
      column = quotient;
      place = omega (arith, at, rest);
      below = (div-lt_iff_lt-mul {k = r} {x = o + j} {y = 32} some).0 (omega (arith, quotient, few));
    }

-- the row of a place
row-of : (r o p : ℕ) → o < 32 * r → p ≡ read_place r o → p / 32 ≡ o % r
row-of r o p within is =
    let some : 0 < r = omega (arith, within) in
    let small : slice_index column_order (o / r) < 32 = column-below (o / r) ((div-lt_iff_lt-mul {k = r} {x = o} {y = 32} some).1 within) in
    omega (arith, is, small)

down-first : (r : ℕ) (c : Cursor) (i : ℕ) → c.n < 32 * r → rows_down r c i ≡ i
down-first r c i front = ap (λ t. if t then i else (c.n % 2 + i) / 2) (lt-ltb c.n (32 * r) front)

down-later : (r : ℕ) (c : Cursor) (i : ℕ) → 32 * r ≤ c.n → rows_down r c i ≡ (c.n % 2 + i) / 2
down-later r c i later = ap (λ t. if t then i else (c.n % 2 + i) / 2) (le-ltb c.n (32 * r) later)

-- what stands some places further on in a column
pub record IsPlaceDown (r : ℕ) (c : Cursor) (i : ℕ) : Type 0 where
  pub order : order_of r (c.n + i) ≡ order_of r c.n + rows_down r c i
  pub column : order_of r (c.n + i) / r ≡ c.column
  pub place : read_place r (order_of r (c.n + i)) ≡ c.by_rows + 32 * rows_down r c i

pub in_column : (r : ℕ) (c : Cursor) (i : ℕ) → c ≡ cursor_at r c.n → order_of r c.n < 32 * r → c.by_rows / 32 + rows_down r c i < r → IsPlaceDown r c i
in_column r c i is within inside =
    let o : ℕ = order_of r c.n in
    let j : ℕ = rows_down r c i in
    let column : c.column ≡ o / r = ap (λ (c : Cursor). c.column) is in
    let place : c.by_rows ≡ read_place r o = ap (λ (c : Cursor). c.by_rows) is in
    let down = read-down r o j within (omega (arith, inside, row-of r o c.by_rows within place)) in
    let order : order_of r (c.n + i) ≡ o + j = elim (cases_lt c.n (32 * r)) [
      | inl front ↦
          let a : o ≡ c.n = order-first r c.n front in
          let b : j ≡ i = down-first r c i front in
          order-first r (c.n + i) (omega (arith, a, b, down.below)) ∙ omega (arith, a, b)
      | inr later ↦ omega (arith, order-later r c.n later, down-later r c i later, order-later r (c.n + i) (omega (arith, later)))
    ] in
    record {
      order = order;
      column = ap (λ (m : ℕ). m / r) order ∙ down.column ∙ sym column;
      place = ap (read_place r) order ∙ down.place ∙ omega (arith, place);
    }

pub down-at : (r : ℕ) (c : Cursor) (i : ℕ) → c ≡ cursor_at r c.n → order_of r c.n < 32 * r → c.by_rows / 32 + rows_down r c i < r
    → made (c.n + i) c.column (c.by_rows + 32 * rows_down r c i) ≡ cursor_at r (c.n + i)
down-at r c i is within inside d = let at = in_column r c i is within inside in made (c.n + i) (sym at.column d) (sym at.place d)

-- ---- the bits there

a-bit : (d : Stream) (p i : ℕ) → padding d.k + d.nulls ≤ p → i + padding d.k ≡ p → padded d p ≡ Some (record { stream = d.number; index = i })
a-bit d p i above at =
    ap (λ t. if t then None else Some (record { stream = d.number; index = p - padding d.k })) (le-ltb p (padding d.k + d.nulls) above)
    ∙ ap (λ (j : ℕ). Some (let s : Spot = record { stream = d.number; index = j } in s)) (omega (arith, at))

abbrev pub index_down : ℕ → ℕ → Cursor → ℕ → ℕ
index_down r k c i = c.by_rows - padding k + 32 * rows_down r c i

spot_down-first : (r k : ℕ) (c : Cursor) (i : ℕ) → c.n < 32 * r → spot_down r k c i ≡ record { stream = 0; index = index_down r k c i }
spot_down-first r k c i front = rw (lt-ltb c.n (32 * r) front) refl

spot_down-second : (r k : ℕ) (c : Cursor) (i : ℕ) → 32 * r ≤ c.n → (c.n + i) % 2 ≡ 0 → spot_down r k c i ≡ record { stream = 1; index = index_down r k c i }
spot_down-second r k c i later even = rw (le-ltb c.n (32 * r) later, even) refl

spot_down-third : (r k : ℕ) (c : Cursor) (i : ℕ) → 32 * r ≤ c.n → (c.n + i) % 2 ≡ 1 → spot_down r k c i ≡ record { stream = 2; index = index_down r k c i + 1 }
spot_down-third r k c i later odd = rw (le-ltb c.n (32 * r) later, odd) refl

-- in the rows of a column that are above its last place, bits stand
pub run-bit : (k fill : ℕ) (c : Cursor) (i : ℕ) → c ≡ cursor_at (rows_of k) c.n → order_of (rows_of k) c.n < 32 * rows_of k → c.by_rows / 32 + rows_down (rows_of k) c i < rows_of k
    → padding k + fill ≤ c.by_rows → (32 * rows_of k ≤ c.n → c.by_rows + 32 * rows_down (rows_of k) c i + 1 < 32 * rows_of k) → spot k fill (c.n + i) ≡ Some (spot_down (rows_of k) k c i)
run-bit k fill c i is within inside above inner =
    let r : ℕ = rows_of k in
    let j : ℕ = rows_down r c i in
    let n : ℕ = c.n + i in
    let o : ℕ = order_of r n in
    let at = in_column r c i is within inside in
    elim (cases_lt c.n (32 * r)) [
      | inl front ↦
          let b : j ≡ i = down-first r c i front in
          let low : o < 32 * r = omega (
            arith,
            at.order,
            (read-down r (order_of r c.n) j within
                (omega (arith, inside, row-of r (order_of r c.n) c.by_rows within (ap (λ (c : Cursor). c.by_rows) is)))).below,
          ) in
          let here : n < 32 * r = omega (arith, low, at.order, b, order-first r c.n front) in
          spot-first k fill n here
          ∙ ap (λ (q : ℕ). padded (d0 k fill) (read_place r q)) (sym (order-first r n here))
          ∙ ap (padded (d0 k fill)) at.place
          ∙ a-bit (d0 k fill) (c.by_rows + 32 * j) (c.by_rows - padding k + 32 * j) (omega (arith, above)) (omega (arith, above))
          ∙ sym (ap (λ (s : Spot). Some s) (spot_down-first r k c i front))
      | inr later ↦
          let there : o ≡ (n - 32 * r) / 2 = order-later r n (omega (arith, later)) in
          let rest : n % 2 < 2 = mod_below n 2 (omega arith) in
          elim (cases_lt (n % 2) 1) [
            | inl low ↦
                let even : n % 2 ≡ 0 = omega (arith, low) in
                let e : n ≡ 32 * r + 2 * o = omega (arith, there, even, later) in
                ap (spot k fill) e ∙ spot-second k fill o
                ∙ ap (padded (d1 k fill)) at.place
                ∙ a-bit (d1 k fill) (c.by_rows + 32 * j) (c.by_rows - padding k + 32 * j) (omega (arith, above)) (omega (arith, above))
                ∙ sym (ap (λ (s : Spot). Some s) (spot_down-second r k c i later even))
            | inr one ↦
                let odd : n % 2 ≡ 1 = omega (arith, one, rest) in
                let e : n ≡ 32 * r + 2 * o + 1 = omega (arith, there, odd, later) in
                ap (spot k fill) e ∙ spot-third k fill o
                ∙ ap (λ (q : ℕ). padded (d2 k) ((q + 1) % (32 * r))) at.place
                ∙ ap (padded (d2 k)) (mod-eq_of_lt (inner later))
                ∙ a-bit (d2 k) (c.by_rows + 32 * j + 1) (c.by_rows - padding k + 32 * j + 1) (omega (arith, above)) (omega (arith, above))
                ∙ sym (ap (λ (s : Spot). Some s) (spot_down-third r k c i later odd))
          ]
    ]

-- ---- how long a run is

-- rows of a column up to an end after which its places don't reach
pub rows-left : (r p j : ℕ) → j < div_ceil (32 * r - p) 32 → p / 32 + j < r
rows-left r p j below = omega (arith, below)

pub first-run : (k fill : ℕ) (c : Cursor) (count : ℕ) → c ≡ cursor_at (rows_of k) c.n → order_of (rows_of k) c.n < 32 * rows_of k → padding k + fill ≤ c.by_rows
    → c.n < 32 * rows_of k → count ≤ div_ceil (32 * rows_of k - c.by_rows) 32 → IsInColumn (rows_of k) k fill c count
first-run k fill c count is within above front few =
    let r : ℕ = rows_of k in
    let inside : (i : ℕ) → i < count → c.by_rows / 32 + rows_down r c i < r =
    λ i below. (let e : rows_down r c i ≡ i = down-first r c i front in omega (arith, e, rows-left r c.by_rows i (omega (arith, below, few)))) in
    record {
      above = λ i below. omega (arith, above);
      column = inside;
      bits = λ i below. run-bit k fill c i is within (inside i below) above (λ later. absurd (omega (arith, front, later)));
    }

pub later-run : (k fill : ℕ) (c : Cursor) (count : ℕ) → c ≡ cursor_at (rows_of k) c.n → order_of (rows_of k) c.n < 32 * rows_of k → padding k + fill ≤ c.by_rows
    → 32 * rows_of k ≤ c.n → count ≤ 2 * div_ceil (32 * rows_of k - 1 - c.by_rows) 32 - c.n % 2 → IsInColumn (rows_of k) k fill c count
later-run k fill c count is within above later few =
    let r : ℕ = rows_of k in
    let rest : c.n % 2 < 2 = mod_below c.n 2 (omega arith) in
    let inner : (i : ℕ) → i < count → c.by_rows + 32 * rows_down r c i + 1 < 32 * r =
    λ i below. (let e : rows_down r c i ≡ (c.n % 2 + i) / 2 = down-later r c i later in omega (arith, e, below, few, rest)) in
    let inside : (i : ℕ) → i < count → c.by_rows / 32 + rows_down r c i < r = λ i below. omega (arith, inner i below) in
    record {
      above = λ i below. omega (arith, above);
      column = inside;
      bits = λ i below. run-bit k fill c i is within (inside i below) above (λ _. inner i below);
    }

-- a run is no longer than what is left of its column
pub few-first : (r q p d count column m x most : ℕ) → q ≡ r → d ≡ div_ceil (32 * q - p) 32 → column ≡ d → m ≡ min column x → count ≡ min m most → count ≤ div_ceil (32 * r - p) 32
few-first r q p d count column m x most height is at least few =
    let e : d ≡ div_ceil (32 * r - p) 32 = is ∙ ap (λ (n : ℕ). div_ceil (32 * n - p) 32) height in
    subst (λ (n : ℕ). count ≤ n) e (omega (arith, at, least, few))

pub few-later : (r q p n d column s count m x most : ℕ) → q ≡ r → d ≡ div_ceil (32 * q - 1 - p) 32 → s ≡ 2 * d - n % 2 → column ≡ s → m ≡ min column x
    → count ≡ min m most → count ≤ 2 * div_ceil (32 * r - 1 - p) 32 - n % 2
few-later r q p n d column s count m x most height is twice at least few =
    let e : d ≡ div_ceil (32 * r - 1 - p) 32 = is ∙ ap (λ (n : ℕ). div_ceil (32 * n - 1 - p) 32) height in
    subst (λ (u : ℕ). count ≤ 2 * u - n % 2) e (omega (arith, twice, at, least, few))

-- ---- a run

abbrev bit_of : ℕ → ℕ → Spot
bit_of number index = record { stream = number; index = index }

bit_down-none : (number index : ℕ) → number ≤ 2 → bit_down (bit_of number index) 0 ≡ bit_of number index
bit_down-none zero index few = ap (bit_of 0) (let e : index + 0 ≡ index = omega arith in e)
bit_down-none (suc zero) index few = ap (bit_of 1) (let e : index + 0 - 0 ≡ index = omega arith in e)
bit_down-none (suc (suc zero)) index few = ap (bit_of 2) (let e : index + 0 + 1 - 1 ≡ index = omega arith in e)
bit_down-none (suc (suc (suc number))) index few = absurd (omega (arith, few))

bit_down-second : (index i : ℕ) → (0 + i) % 2 ≡ 0 → bit_down (bit_of 1 index) i ≡ bit_of 1 (index + 32 * ((0 + i) / 2) - 0)
bit_down-second index i even = rw even refl

bit_down-third : (index i : ℕ) → (0 + i) % 2 ≡ 1 → bit_down (bit_of 1 index) i ≡ bit_of 2 (index + 32 * ((0 + i) / 2) + 1 - 0)
bit_down-third index i odd = rw odd refl

bit_up-second : (index i : ℕ) → (1 + i) % 2 ≡ 0 → bit_down (bit_of 2 index) i ≡ bit_of 1 (index + 32 * ((1 + i) / 2) - 1)
bit_up-second index i even = rw even refl

bit_up-third : (index i : ℕ) → (1 + i) % 2 ≡ 1 → bit_down (bit_of 2 index) i ≡ bit_of 2 (index + 32 * ((1 + i) / 2) + 1 - 1)
bit_up-third index i odd = rw odd refl

-- down a column from its bit at the cursor
down-again : (r k : ℕ) (c : Cursor) (i : ℕ) → bit_down (spot_down r k c 0) i ≡ spot_down r k c i
down-again r k c i =
    let rest : c.n % 2 < 2 = mod_below c.n 2 (omega arith) in
    let next : (c.n + i) % 2 < 2 = mod_below (c.n + i) 2 (omega arith) in
    elim (cases_lt c.n (32 * r)) [
      | inl front ↦
          ap (λ (b : Spot). bit_down b i) (spot_down-first r k c 0 front)
          ∙ ap (bit_of 0) (let e : index_down r k c 0 + 32 * i ≡ index_down r k c i = omega (arith, down-first r c 0 front, down-first r c i front) in e)
          ∙ sym (spot_down-first r k c i front)
      | inr later ↦
          elim (cases_lt (c.n % 2) 1) [
            | inl low ↦
                let begins : bit_down (spot_down r k c 0) i ≡ bit_down (bit_of 1 (index_down r k c 0)) i =
                ap (λ (b : Spot). bit_down b i) (spot_down-second r k c 0 later (omega (arith, low))) in
                elim (cases_lt ((c.n + i) % 2) 1) [
                  | inl even ↦
                      begins ∙ bit_down-second (index_down r k c 0) i (omega (arith, even, low))
                      ∙ ap (bit_of 1) (let e : index_down r k c 0 + 32 * ((0 + i) / 2) - 0 ≡ index_down r k c i = omega (arith, down-later r c 0 later, down-later r c i later, low) in e)
                      ∙ sym (spot_down-second r k c i later (omega (arith, even)))
                  | inr odd ↦
                      begins ∙ bit_down-third (index_down r k c 0) i (omega (arith, odd, next, low))
                      ∙ ap (bit_of 2) (let e : index_down r k c 0 + 32 * ((0 + i) / 2) + 1 - 0 ≡ index_down r k c i + 1 = omega (arith, down-later r c 0 later, down-later r c i later, low) in e)
                      ∙ sym (spot_down-third r k c i later (omega (arith, odd, next)))
                ]
            | inr one ↦
                let begins : bit_down (spot_down r k c 0) i ≡ bit_down (bit_of 2 (index_down r k c 0 + 1)) i =
                ap (λ (b : Spot). bit_down b i) (spot_down-third r k c 0 later (omega (arith, one, rest))) in
                elim (cases_lt ((c.n + i) % 2) 1) [
                  | inl even ↦
                      begins ∙ bit_up-second (index_down r k c 0 + 1) i (omega (arith, even, one, rest))
                      ∙ ap (bit_of 1) (let e : index_down r k c 0 + 1 + 32 * ((1 + i) / 2) - 1 ≡ index_down r k c i = omega (arith, down-later r c 0 later, down-later r c i later, one, rest) in e)
                      ∙ sym (spot_down-second r k c i later (omega (arith, even)))
                  | inr odd ↦
                      begins ∙ bit_up-third (index_down r k c 0 + 1) i (omega (arith, odd, next, one, rest))
                      ∙ ap (bit_of 2) (let e : index_down r k c 0 + 1 + 32 * ((1 + i) / 2) + 1 - 1 ≡ index_down r k c i + 1 = omega
                      (arith, down-later r c 0 later, down-later r c i later, one, rest) in e)
                      ∙ sym (spot_down-third r k c i later (omega (arith, odd, next)))
                ]
          ]
    ]

some-same : (a b : Spot) → Some a ≡ Some b → a ≡ b
some-same a b e = cc

-- the bits from a cursor on, as far as its column goes, and the one there at least
pub run-made : (k fill size : ℕ) (c : Cursor) (run : Run) (r left : ℕ) → r ≡ rows_of k → IsInColumn r k fill c left → c.n + left ≤ size → c.n < size → size ≤ buffer_size k
    → spot k fill c.n ≡ Some run.first → run.place ≡ c.n → run.count ≡ max left 1 → IsRun k fill size run
run-made k fill size c run r left height is room within most here place count = record {
  some = omega (arith, count);
  within = omega (arith, count, place, room, within);
  bits = λ i h. ap (λ (n : ℕ). spot k fill (n + i)) place ∙ elim (cases_lt 0 i) [
    | inl more ↦
        let inside : i < left = omega (arith, h, count, more) in
        let begins : run.first ≡ spot_down r k c 0 =
        some-same run.first (spot_down r k c 0) (sym here ∙ ap (spot k fill) (let e : c.n ≡ c.n + 0 = omega arith in e) ∙ is.bits 0 (omega (arith, inside))) in
        is.bits i inside ∙ ap (λ (b : Spot). Some b) (sym (ap (λ (b : Spot). bit_down b i) begins ∙ down-again r k c i))
    | inr none ↦
        let first : i ≡ 0 = omega (arith, none) in
        ap (spot k fill) (let e : c.n + i ≡ c.n = omega (arith, first) in e) ∙ here
        ∙ ap (λ (b : Spot). Some b) (sym (ap (bit_down run.first) first ∙ bit_down-none run.first.stream run.first.index (spot-within k fill c.n run.first (omega (arith, within, most)) here).0))
  ];
}

-- its last bit stands in the column
pub run-column : (r k fill : ℕ) (c : Cursor) (count left : ℕ) → IsInColumn r k fill c left → count ≡ max left 1 → c.by_rows < 32 * r → c.by_rows / 32 + rows_down r c (count - 1) < r
run-column r k fill c count left is most within =
    elim (cases_lt 0 left) [
      | inl more ↦ is.column (count - 1) (omega (arith, more, most))
      | inr none ↦
          let one : count - 1 ≡ 0 = omega (arith, none, most) in
          let here : rows_down r c (count - 1) ≡ 0 = ap (rows_down r c) one ∙ elim (cases_lt c.n (32 * r)) [
            | inl front ↦ down-first r c 0 front
            | inr later ↦ (let rest : c.n % 2 < 2 = mod_below c.n 2 (omega arith) in omega (arith, down-later r c 0 later, rest))
          ] in
          omega (arith, here, within)
    ]

-- the bits of a run are those of the streams
pub run-inside : (k fill size : ℕ) (run : Run) (i : ℕ) → IsRun k fill size run → size ≤ buffer_size k → i < run.count
    → ((bit_down run.first i).stream ≤ 2) × ((bit_down run.first i).index < k + 4)
run-inside k fill size run i is most below =
    spot-within k fill (run.place + i) (bit_down run.first i) (omega (arith, is.within, most, below)) (is.bits i below)
