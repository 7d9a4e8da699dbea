use Rattle.coded_stream.proofs.StreamTexts.{stream-spelled}
use Rattle.coded_stream.proofs.laws.only_texts_are_accepted.Goals as goal

pub returns-clause-text : goal.returns-clause-text
returns-clause-text c want input h blocks are is = (stream-spelled want input h blocks are is).text

pub returns-clause-stream : goal.returns-clause-stream
returns-clause-stream c want input h blocks are is = (stream-spelled want input h blocks are is).stream

pub returns-clause-want : goal.returns-clause-want
returns-clause-want c want input h blocks are is = (stream-spelled want input h blocks are is).wanted
