-- The claim word: the half times 256, and how many of its windows were drawn. Bit 63 is set once the board is
-- stopped.
use Rattle.std.specs.Prelude.{◌≡◌, ℕ, ◌+◌, ◌*◌, ◌/◌, ◌%◌, ◌<◌, ◌≤◌, ◌^◌, Bool, if◌then◌else◌}

abbrev pub word_of : Bool → ℕ → ℕ → ℕ
word_of stop half n = (if stop then 2 ^ 63 else 0) + half * 256 + n

abbrev pub IsStopped : ℕ → Type 0
IsStopped w = 2 ^ 63 ≤ w

abbrev pub NotStopped : ℕ → Type 0
NotStopped w = w < 2 ^ 63

abbrev pub half_of : ℕ → ℕ
half_of w = w % 2 ^ 63 / 256

abbrev pub drawn_of : ℕ → ℕ
drawn_of w = w % 256

-- the number of the window that the word gives next: the windows of all halves are numbered through
abbrev pub next_number : ℕ → ℕ → ℕ
next_number windows w = half_of w * windows + drawn_of w

-- a isn't newer than b: its half, and then its number drawn, is at most as great, and no word follows one
-- that says stopped
abbrev pub NotNewer : ℕ → ℕ → Type 0
NotNewer a b = (a % 2 ^ 63 ≤ b % 2 ^ 63) × (IsStopped a → a ≡ b)
