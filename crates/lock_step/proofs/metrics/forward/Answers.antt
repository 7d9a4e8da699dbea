use Rattle.std.proofs.Common.{ap, ◌∙◌, arith, rules}
use Rattle.window_rows.specs.Rows.{column}
use Rattle.lock_step.proofs.Vectors.{small-vector, vector_more}
use Rattle.lock_step.proofs.StateRows.{s0, s1, s2, s3, s4, s5, s6, s7, row-vector, nothing-vector, at-nothing, set_eight}
use Rattle.lock_step.proofs.Steps.{forward-lane}
use Rattle.lock_step.proofs.metrics.forward.Goals as goal

pub greater-requires : goal.greater-requires
greater-requires g c =
    let n = g.row.N in (
      search rules,
      (
        (row-vector n c.args.m.now c.requires.before s0, vector_more n 1149 6391 _ (omega arith) c.add.ensures.vector),
        (row-vector n c.args.m.now c.requires.before s1, nothing-vector n 6391),
      ),
    )

pub next-requires : goal.next-requires
next-requires g c =
    let n = g.row.N in (
      search rules,
      (
        (row-vector n c.args.m.now c.requires.before s0, vector_more n 1149 6391 _ (omega arith) c.add.ensures.vector),
        ((row-vector n c.args.m.now c.requires.before s1, nothing-vector n 6391), c.greater.ensures.vector),
      ),
    )

pub next-requires-2 : goal.next-requires-2
next-requires-2 g c =
    let n = g.row.N in (
      search rules,
      (
        (row-vector n c.args.m.now c.requires.before s2, vector_more n 127 6391 _ (omega arith) (small-vector n 127 _ c.told-p c.requires.parity)),
        ((row-vector n c.args.m.now c.requires.before s3, vector_more n 638 6391 _ (omega arith) (small-vector n 638 _ c.told-x c.requires.input)), c.greater.ensures.vector),
      ),
    )

pub next-requires-3 : goal.next-requires-3
next-requires-3 g c =
    let n = g.row.N in (
      search rules,
      (
        (row-vector n c.args.m.now c.requires.before s4, vector_more n 638 6391 _ (omega arith) (small-vector n 638 _ c.told-x c.requires.input)),
        ((row-vector n c.args.m.now c.requires.before s5, vector_more n 127 6391 _ (omega arith) (small-vector n 127 _ c.told-p c.requires.parity)), c.greater.ensures.vector),
      ),
    )

pub next-requires-4 : goal.next-requires-4
next-requires-4 g c =
    let n = g.row.N in (
      search rules,
      (
        (row-vector n c.args.m.now c.requires.before s6, nothing-vector n 6391),
        ((row-vector n c.args.m.now c.requires.before s7, vector_more n 1149 6391 _ (omega arith) c.add.ensures.vector), c.greater.ensures.vector),
      ),
    )

pub next-requires-5 : goal.next-requires-5
next-requires-5 g c =
    let n = g.row.N in (
      search rules,
      (
        (row-vector n c.args.m.now c.requires.before s0, nothing-vector n 6391),
        ((row-vector n c.args.m.now c.requires.before s1, vector_more n 1149 6391 _ (omega arith) c.add.ensures.vector), c.greater.ensures.vector),
      ),
    )

pub next-requires-6 : goal.next-requires-6
next-requires-6 g c =
    let n = g.row.N in (
      search rules,
      (
        (row-vector n c.args.m.now c.requires.before s2, vector_more n 638 6391 _ (omega arith) (small-vector n 638 _ c.told-x c.requires.input)),
        ((row-vector n c.args.m.now c.requires.before s3, vector_more n 127 6391 _ (omega arith) (small-vector n 127 _ c.told-p c.requires.parity)), c.greater.ensures.vector),
      ),
    )

pub next-requires-7 : goal.next-requires-7
next-requires-7 g c =
    let n = g.row.N in (
      search rules,
      (
        (row-vector n c.args.m.now c.requires.before s4, vector_more n 127 6391 _ (omega arith) (small-vector n 127 _ c.told-p c.requires.parity)),
        ((row-vector n c.args.m.now c.requires.before s5, vector_more n 638 6391 _ (omega arith) (small-vector n 638 _ c.told-x c.requires.input)), c.greater.ensures.vector),
      ),
    )

pub next-requires-8 : goal.next-requires-8
next-requires-8 g c =
    let n = g.row.N in (
      search rules,
      (
        (row-vector n c.args.m.now c.requires.before s6, vector_more n 1149 6391 _ (omega arith) c.add.ensures.vector),
        ((row-vector n c.args.m.now c.requires.before s7, nothing-vector n 6391), c.greater.ensures.vector),
      ),
    )

pub returns-clause-lanes : goal.returns-clause-lanes
returns-clause-lanes g c = λ t lt.
    ap (column t) (set_eight c.args.after.now _ _ _ _ _ _ _ _ c.told-after)
    ∙ forward-lane t c.args.m.now c.args.x.now c.args.p.now _ c.add.new.out c.greater.new.out _ _ _ _ _ _ _ _ c.told-m (at-nothing g.row.N t lt)
    (c.add.ensures.lanes t lt) (c.greater.ensures.lanes t lt)
    (c.next.ensures.lanes t lt) (c.next-2.ensures.lanes t lt) (c.next-3.ensures.lanes t lt) (c.next-4.ensures.lanes t lt) (c.next-5.ensures.lanes t lt)
    (c.next-6.ensures.lanes t lt) (c.next-7.ensures.lanes t lt) (c.next-8.ensures.lanes t lt)
