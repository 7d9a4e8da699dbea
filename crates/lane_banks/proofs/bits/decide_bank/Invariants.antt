use Rattle.std.proofs.Common.{◌≡◌, ℕ, ◌+◌, ◌*◌, ◌<◌, length, get_or}
use Rattle.lte_bits.specs.declared.bit.Bit.TheVariants.{Zero}
use Rattle.window_rows.specs.Rows.{number_in}
use Rattle.lane_banks.specs.Banks.{bit_of}
use Rattle.lane_banks.proofs.bits.decide_bank.Given as goal

abbrev pub invariant-loop-r : goal.invariant-loop-r
invariant-loop-r g l = record {
  done : (k : ℕ) → k < l.r → get_or l.bits (l.b * length l.sums + k) Zero ≡ bit_of (number_in l.sums k l.b);
  before : (i : ℕ) → i < l.b * length l.sums → get_or l.bits i Zero ≡ get_or l.fn.bits i Zero;
}
