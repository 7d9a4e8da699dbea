use Rattle.half_iteration.proofs.ReadingOrder.{systematic-even}
use Rattle.half_iteration.proofs.views.Views.systematic.Goals as goal

pub returns-then-h-eq0 : goal.returns-then-h-eq0
returns-then-h-eq0 c =
    let v = c.args.self.now in
    rw (c.k.ensures.value, c.as_slice.ensures) (systematic-even v.streams.now v.shape c.args.h c.if-h-eq0.true v.whole)
