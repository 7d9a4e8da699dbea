-- Where a walk round the circular buffer stands (36.212 5.1.4.1.1, 5.1.4.1.2).
use Rattle.std.specs.Prelude.{◌≡◌, ℕ, ◌+◌, ◌-◌, ◌*◌, ◌/◌, ◌%◌, ◌<◌, ◌≤◌, ◌==◌, nat_lt, if◌then◌else◌, Some}
use Rattle.model_sender.specs.declared.spot.Spot.{Spot}
use Rattle.model_sender.specs.CircularBuffer.{padding, read_place, spot}
use Rattle.rate_match.specs.declared.cursor.Cursor.{Cursor}

-- which place of its stream, read by columns, stands at place n of w, where a stream takes r rows
abbrev pub order_of : ℕ → ℕ → ℕ
order_of r n = if nat_lt n (32 * r) then n else (n - 32 * r) / 2

-- the column that is read at place n, and where its cell stands by rows
abbrev pub cursor_at : ℕ → ℕ → Cursor
cursor_at r n = record {
  n = n;
  column = order_of r n / r;
  by_rows = read_place r (order_of r n);
}

-- ---- The places of one column.

-- how many rows of the column the place is below that stands i places further on, where a stream takes r rows
abbrev pub rows_down : ℕ → Cursor → ℕ → ℕ
rows_down r c i = if nat_lt c.n (32 * r) then i else (c.n % 2 + i) / 2

-- the bit there, of a block of k bits
abbrev pub spot_down : ℕ → ℕ → Cursor → ℕ → Spot
spot_down r k c i =
    let index = c.by_rows - padding k + 32 * rows_down r c i in
    if nat_lt c.n (32 * r) then record { stream = 0; index = index }
    else if (c.n + i) % 2 == 0 then record { stream = 1; index = index }
    else record { stream = 2; index = index + 1 }

-- from a cursor on, so many places stand in its column and hold these bits
pub record IsInColumn (r k fill : ℕ) (c : Cursor) (count : ℕ) : Type 0 where
  pub above : (i : ℕ) → i < count → padding k ≤ c.by_rows
  pub column : (i : ℕ) → i < count → c.by_rows / 32 + rows_down r c i < r
  pub bits : (i : ℕ) → i < count → spot k fill (c.n + i) ≡ Some (spot_down r k c i)
