use Rattle.std.proofs.Common.{◌≡◌, ℕ, ◌<◌, ◌≤◌, get_or}
use Rattle.lte_bits.specs.declared.bit.Cell.TheVariants.{Null}
use Rattle.turbo_encode.proofs.cells.write_nulls.Given as goal

abbrev pub invariant-loop-i : goal.invariant-loop-i
invariant-loop-i l = record {
  written : (k : ℕ) → k < l.i → get_or l.cells k Null ≡ Null;
  kept : (k : ℕ) → l.i ≤ k → get_or l.cells k Null ≡ get_or l.fn.cells k Null;
}
