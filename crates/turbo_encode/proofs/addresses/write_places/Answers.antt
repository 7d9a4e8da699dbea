use Rattle.std.proofs.Common.{◌≡◌, ◌*◌, ◌/◌, ℕ, length, ap, ◌∙◌, arith}
use Rattle.std.proofs.lemmas.List.FromFn.{fill_by_all}
use Rattle.std.proofs.lemmas.Nat.{mod_below}
use Rattle.model_sender.specs.Interleaver.{place}
use Rattle.model_sender.specs.declared.rows.Row.{Row}
use Rattle.model_sender.proofs.RowLaws.{range-of_size}
use Rattle.model_sender.proofs.SizeTable.{size-whole}
use Rattle.turbo_encode.proofs.Quarters.{further-by}
use Rattle.turbo_encode.proofs.addresses.write_places.Goals as goal

pub nonzero_rem-f1 : goal.nonzero_rem-f1
nonzero_rem-f1 c = let range = range-of_size (length c.args.places.now) c.requires in omega (arith, range.0)

pub nonzero_rem-f1-2 : goal.nonzero_rem-f1-2
nonzero_rem-f1-2 c = let range = range-of_size (length c.args.places.now) c.requires in omega (arith, range.0)

pub write_further-requires-clause-apart : goal.write_further-requires-clause-apart
write_further-requires-clause-apart c =
    let k : ℕ = length c.args.places.now in
    let range = range-of_size k c.requires in
    omega (arith, mod_below (c.f1-f1.result * (k / 4)) k (omega (arith, range.0)), c.write_first.auto.places)

pub write_further-requires-2-clause-apart : goal.write_further-requires-2-clause-apart
write_further-requires-2-clause-apart c =
    let k : ℕ = length c.args.places.now in
    let range = range-of_size k c.requires in
    omega (arith, mod_below (c.f1-f1.result * (2 * (k / 4))) k (omega (arith, range.0)), c.write_first.auto.places, c.write_further.auto.places)

pub write_further-requires-clause-further : goal.write_further-requires-clause-further
write_further-requires-clause-further c = λ i.
    let k : ℕ = length c.args.places.now in
    let long : length c.write_first.new.places ≡ k = omega (arith, c.write_first.auto.places) in
    further-by k (length c.write_first.new.places) c.f1-f1.result (k / 4) 1 i c.requires long (c.f1-f1.ensures ∙ ap (λ (r : Row). r.1) (rw c.unwrap.ensures at c.qpp.ensures.row)) (omega arith)

pub write_further-requires-2-clause-further : goal.write_further-requires-2-clause-further
write_further-requires-2-clause-further c = λ i.
    let k : ℕ = length c.args.places.now in
    let long : length c.write_further.new.places ≡ k = omega (arith, c.write_first.auto.places, c.write_further.auto.places) in
    further-by k (length c.write_further.new.places) c.f1-f1.result (2 * (k / 4)) 2 i c.requires long (c.f1-f1.ensures ∙ ap (λ (r : Row). r.1) (rw c.unwrap.ensures at c.qpp.ensures.row)) (omega arith)

pub returns : goal.returns
returns c =
    let k : ℕ = length c.args.places.now in
    let before : length c.write_further.new.places ≡ k = omega (arith, c.write_first.auto.places, c.write_further.auto.places) in
    let long : length c.write_further-2.new.places ≡ k = omega (arith, before, c.write_further-2.auto.places) in
    fill_by_all (place k) c.write_further-2.new.places k 0 long
    (λ j h. c.write_further-2.ensures j (omega (arith, h, size-whole k c.requires)) ∙ ap (λ (n : ℕ). place n j) before)
