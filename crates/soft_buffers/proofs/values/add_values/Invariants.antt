use Rattle.std.proofs.Common.{◌≡◌, ◌-◌, ◌≤◌, length, drop}
use Rattle.std.specs.List.{zip}
use Rattle.model_sender.specs.Selection.{bits_from, holds_bit, repeated}
use Rattle.model_sender.specs.declared.spot.Spot.{Spot}
use Rattle.model_receiver.specs.SoftCells.{has_bit}
use Rattle.rate_match.specs.Walk.{places_from}
use Rattle.soft_buffers.specs.Buffers.{IsBit, cell_of}
use Rattle.soft_buffers.proofs.Sums.{sum_of}
use Rattle.soft_buffers.proofs.values.add_values.Given as goal

-- each cell, and the values of its bit that are still to come, make the sum
abbrev pub invariant-loop-taken : goal.invariant-loop-taken
invariant-loop-taken l =
    let ring = l.fn.ring in
    record {
      within : l.taken ≤ length l.values;
      kept : l.walk.ring ≡ ring;
      sums : (s : Spot) → IsBit ring.k s
          → sum_of (has_bit ring.k ring.fill s) (zip (places_from l.walk (length l.values - l.taken)) (drop l.taken l.values)) (cell_of ring.k l.cells s)
          ≡ sum_of (has_bit ring.k ring.fill s) (zip (repeated (bits_from (holds_bit ring.k ring.fill) l.fn.start ring.size) (length l.values)) l.values) (cell_of ring.k l.fn.cells s);
    }

abbrev pub decreases-loop-taken : goal.decreases-loop-taken
decreases-loop-taken l = length l.values - l.taken
