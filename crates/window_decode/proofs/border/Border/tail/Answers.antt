use Rattle.std.proofs.Common.{arith}
use Rattle.window_decode.proofs.EightStates.{metrics_from, near_from}
use Rattle.window_decode.proofs.border.Border.tail.Goals as goal

pub relative-requires-clause-metrics : goal.relative-requires-clause-metrics
relative-requires-clause-metrics c = metrics_from _ _ 762 c.numbers.ensures.value (omega arith) c.numbers.ensures.range

pub relative-requires-clause-near : goal.relative-requires-clause-near
relative-requires-clause-near c = near_from _ _ c.numbers.ensures.value c.numbers.ensures.range
