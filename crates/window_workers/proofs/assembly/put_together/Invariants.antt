use Rattle.std.proofs.Common.{◌≡◌, ◌+◌, ◌≤◌, ◌++◌, length, map, reverse, vec_capacity}
use Rattle.model_receiver.specs.HalfIteration.{start_by}
use Rattle.window_workers.specs.Pieces.{share_of, tools_of}
use Rattle.window_workers.proofs.MovedOver.{AreBorderedOf}
use Rattle.window_workers.proofs.assembly.put_together.Given as goal

abbrev pub invariant-loop-t : goal.invariant-loop-t
invariant-loop-t l =
    (map share_of l.pieces.items ++ reverse l.shares.items ≡ l.fn.shares.items)
    × (map tools_of l.pieces.items ++ reverse l.tools.items ≡ reverse l.fn.tools.items)
    × (length l.pieces.items ≡ l.t) × (l.t + length l.shares.items ≡ length l.fn.shares.items)
    × (l.t + length l.tools.items ≡ length l.fn.shares.items)
    × (length l.fn.shares.items ≤ vec_capacity l.shares) × (length l.fn.shares.items ≤ vec_capacity l.tools)
    × (length l.fn.shares.items ≤ vec_capacity l.pieces)
    × (l.start ≡ start_by l.left l.t) × AreBorderedOf (length l.fn.shares.items) l.left l.tail l.pieces.items
