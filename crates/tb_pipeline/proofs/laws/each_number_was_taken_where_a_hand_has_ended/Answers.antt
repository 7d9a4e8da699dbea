use Rattle.tb_pipeline.proofs.Ended.{numbers_popped, number_taken}
use Rattle.tb_pipeline.proofs.laws.each_number_was_taken_where_a_hand_has_ended.Goals as goal

pub returns-clause-popped : goal.returns-clause-popped
returns-clause-popped c = numbers_popped

pub returns-clause-taken : goal.returns-clause-taken
returns-clause-taken c = number_taken
