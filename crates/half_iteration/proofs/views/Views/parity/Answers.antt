use Rattle.half_iteration.proofs.ReadingOrder.{parity-even, parity-odd}
use Rattle.half_iteration.proofs.views.Views.parity.Goals as goal

pub returns-then-h-eq0 : goal.returns-then-h-eq0
returns-then-h-eq0 c =
    let v = c.args.self.now in
    rw (c.k.ensures.value, c.as_slice.ensures) (parity-even v.streams.now v.shape c.args.h c.if-h-eq0.true v.whole)

pub returns-else-h-eq0 : goal.returns-else-h-eq0
returns-else-h-eq0 c =
    let v = c.args.self.now in
    rw (c.k-else-h-eq0.ensures.value, c.as_slice-else-h-eq0.ensures) (parity-odd v.streams.now v.shape c.args.h c.if-h-eq0.false v.whole)
