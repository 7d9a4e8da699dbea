use Rattle.gomzelat_c.proofs.ToldDone.{told_done}
use Rattle.gomzelat_c.proofs.codes.gomzelat_decode_block.Goals as goal

pub returns-clause-answer : goal.returns-clause-answer
returns-clause-answer c = told_done c.told.result c.decode_block.result _ c.told.ensures c.decode_block.ensures.answer
