use Rattle.std.proofs.Common.{◌≡◌, ℕ, ◌*◌, ◌/◌, ◌<◌}
use Rattle.std.specs.Prelude.{slice_index}
use Rattle.lane_banks.proofs.places.fill_banks.Given as goal

abbrev pub invariant-loop-b : goal.invariant-loop-b
invariant-loop-b g l = (i : ℕ) → i < l.b * l.width → slice_index l.banks i ≡ i / l.width
