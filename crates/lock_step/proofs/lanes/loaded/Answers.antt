use Rattle.std.proofs.Common.{ap, ◌∙◌, arith}
use Rattle.std.proofs.lemmas.List.{take_all}
use Rattle.window_decode.proofs.LaneNumbers.{passed}
use Rattle.lock_step.proofs.Vectors.{vector_passed}
use Rattle.lock_step.proofs.lanes.loaded.Goals as goal

pub returns : goal.returns
returns g c =
    ap passed (take_all g.row.N c.args.row.now (omega (arith, c.requires.long)))
    ∙ vector_passed g.row.N 32767 c.args.row.now (omega arith) c.requires
