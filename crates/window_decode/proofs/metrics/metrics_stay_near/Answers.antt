use Rattle.window_decode.proofs.WindowSpread.{to-widens, from-widens, to-by_width, from-by_width, to-after_three, from-after_three, to-at_any_width, from-at_any_width}
use Rattle.window_decode.proofs.metrics.metrics_stay_near.Goals as goal

pub returns-clause-to_widens : goal.returns-clause-to_widens
returns-clause-to_widens c = to-widens

pub returns-clause-from_widens : goal.returns-clause-from_widens
returns-clause-from_widens c = from-widens

pub returns-clause-to_by_width : goal.returns-clause-to_by_width
returns-clause-to_by_width c = to-by_width

pub returns-clause-from_by_width : goal.returns-clause-from_by_width
returns-clause-from_by_width c = from-by_width

pub returns-clause-to_after_three : goal.returns-clause-to_after_three
returns-clause-to_after_three c = to-after_three

pub returns-clause-from_after_three : goal.returns-clause-from_after_three
returns-clause-from_after_three c = from-after_three

pub returns-clause-to_at_any_width : goal.returns-clause-to_at_any_width
returns-clause-to_at_any_width c = to-at_any_width

pub returns-clause-from_at_any_width : goal.returns-clause-from_at_any_width
returns-clause-from_at_any_width c = from-at_any_width
