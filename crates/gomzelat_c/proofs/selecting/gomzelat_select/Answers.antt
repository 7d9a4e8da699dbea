use Rattle.gomzelat_c.proofs.ToldDone.{told_done}
use Rattle.gomzelat_c.proofs.selecting.gomzelat_select.Goals as goal

pub returns-clause-answer : goal.returns-clause-answer
returns-clause-answer c = told_done c.told.result c.write_selected.result _ c.told.ensures c.write_selected.ensures.answer
