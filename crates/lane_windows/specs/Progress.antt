-- What the next half of a decoding in lock step starts from.
use Rattle.std.specs.Prelude.{ℕ}
use Rattle.model_receiver.specs.HalfIteration.{Before}
use Rattle.lane_windows.specs.declared.decoder.LaneDecoder.{LaneDecoder}

abbrev pub before_of : {N : ℕ} → LaneDecoder N → Before
before_of d = record { cells = d.banks; left = d.left.items; left_before_last = d.left_before_last.items }
