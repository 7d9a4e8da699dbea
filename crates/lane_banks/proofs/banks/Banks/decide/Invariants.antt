use Rattle.std.proofs.Common.{◌≡◌, ℕ, ◌*◌, ◌/◌, ◌<◌, length, get_or}
use Rattle.lte_bits.specs.declared.bit.Bit.TheVariants.{Zero}
use Rattle.model_receiver.specs.Windows.{cell_at}
use Rattle.model_receiver.specs.Decoding.{decided_bit}
use Rattle.lane_banks.proofs.banks.Banks.decide.Given as goal

abbrev pub invariant-loop-b : goal.invariant-loop-b
invariant-loop-b g l = (i : ℕ) → i < l.b * (length l.self / g.row.N) → get_or l.bits i Zero ≡ decided_bit (cell_at l.self i)
