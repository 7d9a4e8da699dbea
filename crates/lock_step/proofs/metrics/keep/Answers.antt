use Rattle.std.proofs.Common.{◌∙◌, arith, rules}
use Rattle.lock_step.proofs.Vectors.{vector_more}
use Rattle.lock_step.proofs.StateRows.{s0, s1, s2, s3, s4, s5, s6, s7, row-vector, set_eight, rows_kept, copied, loaded-still}
use Rattle.lock_step.proofs.metrics.keep.Goals as goal

pub loaded-requires : goal.loaded-requires
loaded-requires g c = let n = g.row.N in (search rules, vector_more n 6391 32767 _ (omega arith) (row-vector n c.args.m.now c.requires s0))

pub store-requires : goal.store-requires
store-requires g c = let n = g.row.N in (search rules, loaded-still n _ _ (row-vector n c.args.m.now c.requires s0) c.loaded.ensures)

pub loaded-requires-2 : goal.loaded-requires-2
loaded-requires-2 g c = let n = g.row.N in (search rules, vector_more n 6391 32767 _ (omega arith) (row-vector n c.args.m.now c.requires s1))

pub store-requires-2 : goal.store-requires-2
store-requires-2 g c = let n = g.row.N in (search rules, loaded-still n _ _ (row-vector n c.args.m.now c.requires s1) c.loaded-2.ensures)

pub loaded-requires-3 : goal.loaded-requires-3
loaded-requires-3 g c = let n = g.row.N in (search rules, vector_more n 6391 32767 _ (omega arith) (row-vector n c.args.m.now c.requires s2))

pub store-requires-3 : goal.store-requires-3
store-requires-3 g c = let n = g.row.N in (search rules, loaded-still n _ _ (row-vector n c.args.m.now c.requires s2) c.loaded-3.ensures)

pub loaded-requires-4 : goal.loaded-requires-4
loaded-requires-4 g c = let n = g.row.N in (search rules, vector_more n 6391 32767 _ (omega arith) (row-vector n c.args.m.now c.requires s3))

pub store-requires-4 : goal.store-requires-4
store-requires-4 g c = let n = g.row.N in (search rules, loaded-still n _ _ (row-vector n c.args.m.now c.requires s3) c.loaded-4.ensures)

pub loaded-requires-5 : goal.loaded-requires-5
loaded-requires-5 g c = let n = g.row.N in (search rules, vector_more n 6391 32767 _ (omega arith) (row-vector n c.args.m.now c.requires s4))

pub store-requires-5 : goal.store-requires-5
store-requires-5 g c = let n = g.row.N in (search rules, loaded-still n _ _ (row-vector n c.args.m.now c.requires s4) c.loaded-5.ensures)

pub loaded-requires-6 : goal.loaded-requires-6
loaded-requires-6 g c = let n = g.row.N in (search rules, vector_more n 6391 32767 _ (omega arith) (row-vector n c.args.m.now c.requires s5))

pub store-requires-6 : goal.store-requires-6
store-requires-6 g c = let n = g.row.N in (search rules, loaded-still n _ _ (row-vector n c.args.m.now c.requires s5) c.loaded-6.ensures)

pub loaded-requires-7 : goal.loaded-requires-7
loaded-requires-7 g c = let n = g.row.N in (search rules, vector_more n 6391 32767 _ (omega arith) (row-vector n c.args.m.now c.requires s6))

pub store-requires-7 : goal.store-requires-7
store-requires-7 g c = let n = g.row.N in (search rules, loaded-still n _ _ (row-vector n c.args.m.now c.requires s6) c.loaded-7.ensures)

pub loaded-requires-8 : goal.loaded-requires-8
loaded-requires-8 g c = let n = g.row.N in (search rules, vector_more n 6391 32767 _ (omega arith) (row-vector n c.args.m.now c.requires s7))

pub store-requires-8 : goal.store-requires-8
store-requires-8 g c = let n = g.row.N in (search rules, loaded-still n _ _ (row-vector n c.args.m.now c.requires s7) c.loaded-8.ensures)

pub returns : goal.returns
returns g c =
    let n = g.row.N in
    set_eight c.args.row.now _ _ _ _ _ _ _ _ c.told-row
    ∙ rows_kept c.args.m.now _ _ _ _ _ _ _ _ c.told-m
    (copied n _ _ _ (row-vector n c.args.m.now c.requires s0) c.loaded.ensures c.store.ensures)
    (copied n _ _ _ (row-vector n c.args.m.now c.requires s1) c.loaded-2.ensures c.store-2.ensures)
    (copied n _ _ _ (row-vector n c.args.m.now c.requires s2) c.loaded-3.ensures c.store-3.ensures)
    (copied n _ _ _ (row-vector n c.args.m.now c.requires s3) c.loaded-4.ensures c.store-4.ensures)
    (copied n _ _ _ (row-vector n c.args.m.now c.requires s4) c.loaded-5.ensures c.store-5.ensures)
    (copied n _ _ _ (row-vector n c.args.m.now c.requires s5) c.loaded-6.ensures c.store-6.ensures)
    (copied n _ _ _ (row-vector n c.args.m.now c.requires s6) c.loaded-7.ensures c.store-7.ensures)
    (copied n _ _ _ (row-vector n c.args.m.now c.requires s7) c.loaded-8.ensures c.store-8.ensures)
