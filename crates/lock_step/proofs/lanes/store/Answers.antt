use Rattle.std.proofs.Common.{sym, ap, ◌∙◌, arith}
use lib.Lanes.{put_chunk}
use Rattle.lock_step.proofs.Vectors.{vector_passed, put_all}
use Rattle.lock_step.proofs.lanes.store.Goals as goal

pub returns : goal.returns
returns g c =
    ap (λ xs. put_chunk 0 c.args.row.now xs) (vector_passed g.row.N 32767 c.args.lanes (omega arith) c.requires)
    ∙ put_all c.args.row.now c.args.lanes (c.told-row ∙ sym c.requires.long)
