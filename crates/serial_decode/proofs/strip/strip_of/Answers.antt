use Rattle.std.proofs.Common.{◌≡◌, ℕ, ◌*◌, sym, ap, ◌∙◌, arith}
use Rattle.std.specs.Prelude.{pos}
use Rattle.model_receiver.specs.HalfIteration.{Shape, order, systematic_at, parity_at, window_width}
use Rattle.half_iteration.specs.Views.{AreWhole}
use Rattle.half_iteration.proofs.WindowParts.{part-is, part-fits, length-part}
use Rattle.serial_decode.proofs.StripParts.{places-below, places-apart}
use Rattle.serial_decode.proofs.strip.strip_of.Goals as goal

covers : {shape : Shape} {w : ℕ} → w ≡ window_width shape → AreWhole shape → shape.windows * w ≡ shape.k
covers {shape} e whole = ap (λ (n : ℕ). shape.windows * n) e ∙ whole.whole

pub part-requires : goal.part-requires
part-requires c = let v = c.args.views.now in
    part-fits (systematic_at v.streams.now v.shape.k c.args.h) v.shape c.args.t c.width-width.result c.systematic.result.now
    (covers c.width-width.ensures.value c.width-width.ensures.whole) c.requires.window c.systematic.ensures

pub part-requires-2 : goal.part-requires-2
part-requires-2 c = let v = c.args.views.now in
    part-fits (parity_at v.streams.now c.args.h) v.shape c.args.t c.width-width.result c.parity.result.now
    (covers c.width-width.ensures.value c.width-width.ensures.whole) c.requires.window c.parity.ensures

pub part-requires-3 : goal.part-requires-3
part-requires-3 c = let v = c.args.views.now in
    part-fits (order v.shape.k c.args.h) v.shape c.args.t c.width-width.result c.places.result.now (covers c.width-width.ensures.value c.width-width.ensures.whole) c.requires.window c.places.ensures

pub returns-clause-systematic : goal.returns-clause-systematic
returns-clause-systematic c = let v = c.args.views.now in
    part-is (systematic_at v.streams.now v.shape.k c.args.h) v.shape c.args.t c.width-width.result (pos 0) c.systematic.result.now c.part.result.now
    c.width-width.ensures.value (covers c.width-width.ensures.value c.width-width.ensures.whole) c.requires.window c.systematic.ensures c.part.ensures

pub returns-clause-parity : goal.returns-clause-parity
returns-clause-parity c = let v = c.args.views.now in
    part-is (parity_at v.streams.now c.args.h) v.shape c.args.t c.width-width.result (pos 0) c.parity.result.now c.part-2.result.now
    c.width-width.ensures.value (covers c.width-width.ensures.value c.width-width.ensures.whole) c.requires.window c.parity.ensures c.part-2.ensures

pub returns-clause-places : goal.returns-clause-places
returns-clause-places c = let v = c.args.views.now in
    part-is (order v.shape.k c.args.h) v.shape c.args.t c.width-width.result 0 c.places.result.now c.part-3.result.now
    c.width-width.ensures.value (covers c.width-width.ensures.value c.width-width.ensures.whole) c.requires.window c.places.ensures c.part-3.ensures

pub invariant_of-result : goal.invariant_of-result
invariant_of-result c =
    let v = c.args.views.now in
    let own = part-is (systematic_at v.streams.now v.shape.k c.args.h) v.shape c.args.t c.width-width.result (pos 0) c.systematic.result.now c.part.result.now
    c.width-width.ensures.value (covers c.width-width.ensures.value c.width-width.ensures.whole) c.requires.window c.systematic.ensures c.part.ensures in
    let par = part-is (parity_at v.streams.now c.args.h) v.shape c.args.t c.width-width.result (pos 0) c.parity.result.now c.part-2.result.now
    c.width-width.ensures.value (covers c.width-width.ensures.value c.width-width.ensures.whole) c.requires.window c.parity.ensures c.part-2.ensures in
    let places = part-is (order v.shape.k c.args.h) v.shape c.args.t c.width-width.result 0 c.places.result.now c.part-3.result.now
    c.width-width.ensures.value (covers c.width-width.ensures.value c.width-width.ensures.whole) c.requires.window c.places.ensures c.part-3.ensures in
    let long = length-part (order v.shape.k c.args.h) v.shape c.args.t c.part-3.result.now places in
    let whole = c.width-width.ensures.whole in
    record {
      systematic_long = length-part (systematic_at v.streams.now v.shape.k c.args.h) v.shape c.args.t c.part.result.now own ∙ sym long;
      parity_long = length-part (parity_at v.streams.now c.args.h) v.shape c.args.t c.part-2.result.now par ∙ sym long;
      below = λ j lj. let b = places-below v.shape c.args.h c.args.t c.part-3.result.now whole c.requires.window places j lj in omega (arith, b, c.requires.cells);
      apart = places-apart v.shape c.args.h c.args.t c.part-3.result.now whole c.requires.window places;
    }
