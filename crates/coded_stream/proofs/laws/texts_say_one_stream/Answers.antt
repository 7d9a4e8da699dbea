use Rattle.coded_stream.proofs.StreamTexts.{one-spelling}
use Rattle.coded_stream.proofs.laws.texts_say_one_stream.Goals as goal

pub returns-clause-header : goal.returns-clause-header
returns-clause-header c h i a b first second same = (one-spelling h i a b first second same).header

pub returns-clause-blocks : goal.returns-clause-blocks
returns-clause-blocks c h i a b first second same = (one-spelling h i a b first second same).blocks
