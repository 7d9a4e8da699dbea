use Rattle.coded_stream.proofs.StreamTexts.{stream-read}
use Rattle.coded_stream.proofs.laws.texts_are_accepted.Goals as goal

pub returns : goal.returns
returns c = stream-read
