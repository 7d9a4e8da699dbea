use Rattle.std.proofs.Common.{ap, ◌∙◌}
use Rattle.coded_stream.specs.Body.{end_step}
use Rattle.edge_io.proofs.Told.{told_rest}
use Rattle.coded_stream.proofs.WordSteps.{end-followed}
use Rattle.coded_stream.proofs.word.read_end.Goals as goal

pub returns-in-Ok-clause-told : goal.returns-in-Ok-clause-told
returns-in-Ok-clause-told g c input is =
    let unit = c.read_exactly.new.buf in
    let t = told_rest _ _ unit input c.in-Ok.ensures.bytes is in
    rw c.bad.ensures (unit, t.left, 5, t.old_is, t.new_is, ap (end_step c.args.start) t.input_is ∙ end-followed c.args.start unit t.left c.read_exactly.auto.buf)
