use Rattle.std.proofs.Common.{◌≡◌, ◌≢◌, ◌<◌, length, get_or-set_other, get_or-set_same, below_more, sym, ap, ◌∙◌, arith}
use Rattle.std.proofs.lemmas.List.FromFn.{fill_by_all}
use Rattle.model_sender.specs.Interleaver.{pi, place}
use Rattle.model_sender.specs.declared.rows.Row.{Row}
use Rattle.model_sender.proofs.RowLaws.{row-of_find}
use Rattle.qpp_table.specs.Groups.{addresses_of}
use Rattle.qpp_table.proofs.FoundRows.{found_row-kept}
use Rattle.qpp_table.proofs.fixed.FixedQpp.fill.Goals as goal

pub new-walk-requires-clause-first : goal.new-walk-requires-clause-first
new-walk-requires-clause-first g c = omega (arith, (found_row-kept g.row.K _ c.requires.row).first)

pub new-walk-requires-clause-second : goal.new-walk-requires-clause-second
new-walk-requires-clause-second g c = omega (arith, (found_row-kept g.row.K _ c.requires.row).second)

pub overflow_cast-address : goal.overflow_cast-address
overflow_cast-address g c =
    omega (arith, (found_row-kept g.row.K _ c.requires.row).greatest, c.loop-address.walk.place_below, c.loop-address.invariant.size)

pub loop-address-preserved : goal.loop-address-preserved
loop-address-preserved g c =
    let k = g.row.K in let i = c.loop-address.address-index in let walk = c.loop-address.walk in
    let old = c.loop-address.invariant in
    let stands : walk.place ≡ place k i =
    old.at.place
    ∙ (ap (λ n. pi n g.row.F1 g.row.F2 i) old.size ∙ ap (λ (r : Row). pi k r.1 r.2 i) (sym (row-of_find k _ c.requires.row))) in
    record {
      written = below_more _ _
          (λ j h. let ne : j ≢ i = omega arith in rw get_or-set_other (old.written j h))
          (let lt : i < length c.loop-address.out = omega arith in rw get_or-set_same stands);
      size = c.next-walk.ensures.size ∙ old.size;
      at = c.next-walk.ensures.at g.row.F1 g.row.F2 i old.at;
    }

pub returns : goal.returns
unfolding addresses_of
returns g c = fill_by_all (place g.row.K) c.loop-address.out g.row.K 0 (omega arith) (λ j h. c.loop-address.invariant.written j (omega arith))
