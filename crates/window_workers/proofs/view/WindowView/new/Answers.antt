use Rattle.std.proofs.Common.{◌≡◌, ℕ, ◌*◌, ap, ◌∙◌, arith}
use Rattle.std.specs.Prelude.{pos}
use Rattle.model_sender.proofs.RowLaws.{range-of_size}
use Rattle.model_receiver.specs.HalfIteration.{Shape, order, parity_at, systematic_at, window_width}
use Rattle.half_iteration.specs.Views.{AreWhole}
use Rattle.half_iteration.proofs.WindowParts.{part-is, part-fits, window_within}
use Rattle.window_workers.proofs.view.WindowView.new.Goals as goal

covers : {shape : Shape} {w : ℕ} → w ≡ window_width shape → AreWhole shape → shape.windows * w ≡ shape.k
covers {shape} e whole = ap (λ (n : ℕ). shape.windows * n) e ∙ whole.whole

pub overflow_mul-from : goal.overflow_mul-from
overflow_mul-from c =
    let shape = c.args.views.now.shape in let w = c.width-width.ensures in
    let most = (range-of_size shape.k w.whole.size).1 in
    let within = window_within shape.windows c.width-width.result shape.k c.args.t (covers w.value w.whole) c.requires in
    record { fits = omega (arith, most, within) }

pub part-requires : goal.part-requires
part-requires c =
    let v = c.args.views.now in let w = c.width-width.ensures in
    part-fits (systematic_at v.streams.now v.shape.k c.args.h) v.shape c.args.t c.width-width.result c.systematic.result.now (covers w.value w.whole) c.requires c.systematic.ensures

pub part-requires-2 : goal.part-requires-2
part-requires-2 c =
    let v = c.args.views.now in let w = c.width-width.ensures in
    part-fits (parity_at v.streams.now c.args.h) v.shape c.args.t c.width-width.result c.parity.result.now (covers w.value w.whole) c.requires c.parity.ensures

pub part-requires-3 : goal.part-requires-3
part-requires-3 c =
    let v = c.args.views.now in let w = c.width-width.ensures in
    part-fits (order v.shape.k c.args.h) v.shape c.args.t c.width-width.result c.places.result.now (covers w.value w.whole) c.requires c.places.ensures

pub returns-clause-systematic : goal.returns-clause-systematic
returns-clause-systematic c =
    let v = c.args.views.now in let w = c.width-width.ensures in
    c.in_ok-systematic.ensures.items
    ∙ part-is (systematic_at v.streams.now v.shape.k c.args.h) v.shape c.args.t c.width-width.result (pos 0) c.systematic.result.now c.part.result.now
    w.value (covers w.value w.whole) c.requires c.systematic.ensures c.part.ensures

pub returns-clause-parity : goal.returns-clause-parity
returns-clause-parity c =
    let v = c.args.views.now in let w = c.width-width.ensures in
    c.in_ok-parity.ensures.items
    ∙ part-is (parity_at v.streams.now c.args.h) v.shape c.args.t c.width-width.result (pos 0) c.parity.result.now c.part-2.result.now
    w.value (covers w.value w.whole) c.requires c.parity.ensures c.part-2.ensures

pub returns-clause-places : goal.returns-clause-places
returns-clause-places c =
    let v = c.args.views.now in let w = c.width-width.ensures in
    c.in_ok-places.ensures.items
    ∙ part-is (order v.shape.k c.args.h) v.shape c.args.t c.width-width.result 0 c.places.result.now c.part-3.result.now
    w.value (covers w.value w.whole) c.requires c.places.ensures c.part-3.ensures
