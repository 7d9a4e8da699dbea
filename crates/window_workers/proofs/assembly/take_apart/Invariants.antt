use Rattle.std.proofs.Common.{◌≡◌, ◌+◌, ◌≤◌, ◌++◌, length, map, reverse, vec_capacity}
use Rattle.window_workers.specs.Pieces.{share_of, tools_of}
use Rattle.window_workers.proofs.assembly.take_apart.Given as goal

abbrev pub invariant-loop-piece : goal.invariant-loop-piece
invariant-loop-piece l =
    (map share_of l.pieces.items ++ reverse l.shares.items ≡ map share_of l.fn.pieces.items)
    × (map tools_of l.pieces.items ++ reverse l.tools.items ≡ map tools_of l.fn.pieces.items)
    × (length l.pieces.items + length l.shares.items ≡ length l.fn.pieces.items)
    × (length l.pieces.items + length l.tools.items ≡ length l.fn.pieces.items)
    × (length l.fn.pieces.items ≤ vec_capacity l.shares) × (length l.fn.pieces.items ≤ vec_capacity l.tools)
    × (length l.fn.pieces.items ≤ vec_capacity l.pieces)

abbrev pub decreases-loop-piece : goal.decreases-loop-piece
decreases-loop-piece l = length l.pieces.items
