use Rattle.std.proofs.Common.{◌≡◌, ℕ, ◌<◌, ◌≤◌, true, false, get_or}
use Rattle.std.specs.Slots.{slots_items, slots_filled, slots_len}
use Rattle.phase_board.proofs.board.Board.close.Given as goal

-- the slots up to the i-th piece's are empty, and the others full
abbrev pub invariant-loop-i : goal.invariant-loop-i
invariant-loop-i g l =
    (slots_items l.closed.slots ≡ slots_items l.initial.closed.slots) × (slots_len l.closed.slots ≡ slots_len l.initial.closed.slots)
    × ((k : ℕ) → l.i < k → k < slots_len l.closed.slots → get_or (slots_filled l.closed.slots) k false ≡ true) × ((k : ℕ) → k ≤ l.i → get_or (slots_filled l.closed.slots) k false ≡ false)
