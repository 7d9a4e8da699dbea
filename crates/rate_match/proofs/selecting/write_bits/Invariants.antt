use Rattle.std.proofs.Common.{◌≡◌, ◌-◌, ◌≤◌, ◌++◌, length, map, take}
use Rattle.model_sender.specs.CircularBuffer.{w}
use Rattle.model_sender.specs.Selection.{bit_of_cell, bits_from, holds_bit, repeated}
use Rattle.rate_match.specs.Walk.{places_from}
use Rattle.rate_match.proofs.selecting.write_bits.Given as goal

-- what is done, and what is still to come, are the bits
abbrev pub invariant-loop-done : goal.invariant-loop-done
invariant-loop-done l =
    let ring = l.fn.ring in
    record {
      within : l.done ≤ length l.fn.out;
      kept : l.walk.ring ≡ ring;
      written : take l.done l.out ++ map (λ n. bit_of_cell (w ring.k ring.fill l.streams n)) (places_from l.walk (length l.fn.out - l.done))
          ≡ map (λ n. bit_of_cell (w ring.k ring.fill l.streams n)) (repeated (bits_from (holds_bit ring.k ring.fill) l.fn.start ring.size) (length l.fn.out));
    }

abbrev pub decreases-loop-done : goal.decreases-loop-done
decreases-loop-done l = length l.initial.out - l.done
