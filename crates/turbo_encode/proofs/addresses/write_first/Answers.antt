use Rattle.std.proofs.Common.{◌≡◌, ◌≢◌, ◌<◌, length, get_or-set_other, get_or-set_same, below_more, ap, ◌∙◌, arith}
use Rattle.model_sender.specs.Interleaver.{pi, place, row_of}
use Rattle.model_sender.proofs.RowLaws.{range-of_size}
use Rattle.turbo_encode.proofs.addresses.write_first.Goals as goal

pub loop-i-preserved : goal.loop-i-preserved
loop-i-preserved c =
    let k = length c.args.places.now in
    let row = row_of k in
    let loop = c.loop-i in
    let i = loop.i in
    let is : loop.walk.place ≡ place k i = loop.invariant.at.place ∙ ap (λ n. pi n row.1 row.2 i) loop.invariant.size in
    record {
      written = below_more _ _
          (λ j h. let ne : j ≢ i = omega (arith, h) in rw get_or-set_other (loop.invariant.written j h))
          (let lt : i < length loop.places = omega (arith, loop.auto.places, c.loop-i-test.true, c.requires.room) in rw get_or-set_same is);
      size = c.next-walk.ensures.size ∙ loop.invariant.size;
      at = c.next-walk.ensures.at row.1 row.2 i loop.invariant.at;
    }

pub new-walk-requires-clause-some : goal.new-walk-requires-clause-some
new-walk-requires-clause-some c = let range = range-of_size (length c.args.places.now) c.requires.size in omega (arith, range.0)
