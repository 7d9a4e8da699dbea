use Rattle.std.proofs.Common.{◌≡◌, ℕ, ◌<◌, length, get_or}
use Rattle.model_sender.specs.Interleaver.{place, row_of}
use Rattle.qpp_table.specs.Walk.{size_along, IsAt}
use Rattle.turbo_encode.proofs.addresses.write_first.Given as goal

-- the places so far are written, and the walk is at the next
abbrev pub invariant-loop-i : goal.invariant-loop-i
invariant-loop-i l = record {
  written : (j : ℕ) → j < l.i → get_or l.places j 0 ≡ place (length l.fn.places) j;
  size : size_along l.walk ≡ length l.fn.places;
  at : IsAt (row_of (length l.fn.places)).1 (row_of (length l.fn.places)).2 l.i l.walk;
}
