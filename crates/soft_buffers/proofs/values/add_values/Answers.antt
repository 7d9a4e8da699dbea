use Rattle.std.proofs.Common.{◌≡◌, ℕ, ◌+◌, ◌-◌, ◌<◌, ◌≤◌, ◌++◌, ℤ, List, length, take, drop, ap, sym, subst, ◌∙◌, arith}
use Rattle.std.specs.List.{zip}
use Rattle.std.proofs.lemmas.List.FromFn.{length-map-range_with_len}
use Rattle.model_receiver.specs.SoftCells.{has_bit}
use Rattle.rate_match.specs.Runs.{IsRun, bit_down, run_places}
use Rattle.rate_match.specs.Walk.{places_from}
use Rattle.rate_match.specs.declared.rings.Ring.{Ring}
use Rattle.rate_match.specs.declared.runs.Run.{Run}
use Rattle.rate_match.proofs.ColumnRuns.{run-inside}
use Rattle.rate_match.proofs.Parts.{part-long}
use Rattle.soft_buffers.specs.Buffers.{IsBit, cell_of}
use Rattle.soft_buffers.specs.Runs.{with_values}
use Rattle.soft_buffers.proofs.Adding.{sums-kept, values-added}
use Rattle.soft_buffers.proofs.Sums.{sum_of}
use Rattle.soft_buffers.proofs.values.add_values.Goals as goal

-- a run of the walk is one of the ring
run_of : (ring own : Ring) (run : Run) → ring ≡ own → IsRun ring.k ring.fill ring.size run → IsRun own.k own.fill own.size run
run_of ring own run same is = subst (λ (r : Ring). IsRun r.k r.fill r.size run) same is

run_bit : (ring : Ring) (run : Run) (i : ℕ) → IsRun ring.k ring.fill ring.size run → i < run.count → IsBit ring.k (bit_down run.first i)
run_bit ring run i is h = let at = run-inside ring.k ring.fill ring.size run i is ring.within h in record { stream = at.0; index = at.1 }

pub add_run-requires-clause-long : goal.add_run-requires-clause-long
add_run-requires-clause-long c =
    part-long c.loop-taken.taken c.next_run-run.result.count c.args.values.now (omega (arith, c.next_run-run.ensures.most, c.loop-taken.invariant.within))

pub add_run-requires-clause-bits : goal.add_run-requires-clause-bits
add_run-requires-clause-bits c = λ i h.
    let ring = c.args.ring in
    let run = c.next_run-run.result in
    run_bit ring run i (run_of c.loop-taken.walk.ring ring run c.loop-taken.invariant.kept c.next_run-run.ensures.run) h

pub loop-taken-init : goal.loop-taken-init
loop-taken-init c =
    let values = c.args.values.now in
    let ring = c.args.ring in
    record {
      within = omega arith;
      kept = c.new-walk.ensures.ring;
      sums = λ s inside. ap (λ places. sum_of (has_bit ring.k ring.fill s) (zip places values) (cell_of ring.k c.args.cells.now s))
          (ap (places_from c.new-walk.result) (let e : length values - 0 ≡ length values = omega arith in e) ∙ c.new-walk.ensures.places (length values));
    }

pub loop-taken-preserved : goal.loop-taken-preserved
loop-taken-preserved c =
    let ring = c.args.ring in
    let values = c.args.values.now in
    let walk = c.loop-taken.walk in
    let run = c.next_run-run.result in
    let taken : ℕ = c.loop-taken.taken in
    let cells = c.loop-taken.cells in
    let fits : taken + run.count ≤ length values = omega (arith, c.next_run-run.ensures.most, c.loop-taken.invariant.within) in
    let left : ℕ = length values - (taken + run.count) in
    let is = run_of walk.ring ring run c.loop-taken.invariant.kept c.next_run-run.ensures.run in
    let part : List ℤ = take run.count (drop taken values) in
    let same : take (taken + run.count - taken) (drop taken values) ≡ part = ap (λ n. take n (drop taken values)) (let e : taken + run.count - taken ≡ run.count = omega arith in e) in
    let long : length part ≡ run.count = ap length (sym same) ∙ part-long taken run.count values fits in
    let new : c.add_run.new.cells ≡ with_values ring.k (bit_down run.first) part run.count cells =
    c.add_run.ensures ∙ ap (λ vs. with_values ring.k (bit_down run.first) vs (length vs) cells) same ∙ ap (λ n. with_values ring.k (bit_down run.first) part n cells) long in
    let next : places_from walk (length values - taken) ≡ run_places run ++ places_from c.next_run-run.new.self left =
    ap (places_from walk) (let e : length values - taken ≡ run.count + left = omega (arith, fits) in e) ∙ c.next_run-run.ensures.places left in
    record {
      within = fits;
      kept = c.next_run-run.ensures.ring ∙ c.loop-taken.invariant.kept;
      sums = λ s inside.
          sums-kept (has_bit ring.k ring.fill s) (places_from walk (length values - taken)) (run_places run) (places_from c.next_run-run.new.self left) values taken run.count (taken + run.count)
          (cell_of ring.k cells s) (cell_of ring.k c.add_run.new.cells s) fits (length-map-range_with_len (λ i. run.place + i) 0 run.count)
          (let e : taken + run.count ≡ taken + run.count = omega arith in e) next
          (ap (λ xs. cell_of ring.k xs s) new
          ∙ values-added ring.k ring.fill run.place run.count (bit_down run.first) part cells s is.bits (λ i h. run_bit ring run i is h)
          (omega (arith, c.requires.cells, c.loop-taken.auto.cells)) (omega (arith, long)) inside)
          ∙ c.loop-taken.invariant.sums s inside;
    }

pub loop-taken-smaller : goal.loop-taken-smaller
loop-taken-smaller c = omega (arith, c.loop-taken-test.true, c.next_run-run.ensures.run.some)

pub returns-clause-cells : goal.returns-clause-cells
returns-clause-cells c = λ s inside.
    let ring = c.args.ring in
    let values = c.args.values.now in
    let all : length values - c.loop-taken.taken ≡ 0 = omega (arith, c.loop-taken-test.false) in
    sym (ap (λ n. sum_of (has_bit ring.k ring.fill s) (zip (places_from c.loop-taken.walk n) (drop c.loop-taken.taken values)) (cell_of ring.k c.loop-taken.cells s)) all)
    ∙ c.loop-taken.invariant.sums s inside
