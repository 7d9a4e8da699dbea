use Rattle.std.proofs.Common.{◌≡◌, ℕ, ◌+◌, ◌-◌, ◌≤◌, Bool, true, false, cond, List, ◌++◌, Some, length, map, take, ap, sym, ◌∙◌, append_assoc, arith}
use Rattle.std.specs.Prelude.{◌==◌}
use Rattle.std.specs.List.{range_with_len}
use Rattle.std.proofs.lemmas.List.{append-nil, map-append, take_all}
use Rattle.std.proofs.lemmas.List.FromFn.{length-map-range_with_len}
use Rattle.lte_bits.specs.declared.bit.Bit.{Bit}
use Rattle.lte_bits.specs.declared.block.Streams.{Streams}
use Rattle.model_sender.specs.CircularBuffer.{AreStreams, cell_at, spot, stream_of, w}
use Rattle.model_sender.specs.Selection.{bit_of_cell}
use Rattle.rate_match.specs.Runs.{IsRun, bit_down, run_places}
use Rattle.rate_match.specs.Walk.{places_from}
use Rattle.rate_match.specs.declared.rings.Ring.{Ring}
use Rattle.rate_match.specs.declared.runs.Run.{Run}
use Rattle.rate_match.proofs.ColumnRuns.{run-inside}
use Rattle.rate_match.proofs.Parts.{map-alike, part-long, part_written}
use Rattle.rate_match.proofs.selecting.write_bits.Goals as goal

stream-long : (k fill : ℕ) (s : Streams) (number : ℕ) → AreStreams k fill s → length (stream_of s number) ≡ k + 4
stream-long k fill s number are = picked (number == 0) (number == 1)
  where
    picked : (a b : Bool) → length (cond a s.d0 (cond b s.d1 s.d2)) ≡ k + 4
    picked true b = are.d0_long
    picked false true = are.d1_long
    picked false false = are.d2_long

-- the bit at a place of the buffer
bit_in : Streams → (k fill n : ℕ) → Bit
bit_in s k fill n = bit_of_cell (w k fill s n)

-- a run more
goes_on : (f : ℕ → Bit) (before after new whole : List Bit) (places run rest : List ℕ) → after ≡ before ++ new → new ≡ map f run → places ≡ run ++ rest → before ++ map f places ≡ whole
    → after ++ map f rest ≡ whole
goes_on f before after new whole places run rest grown is next so_far =
    ap (λ (xs : List Bit). xs ++ map f rest) (grown ∙ ap (λ (ys : List Bit). before ++ ys) is)
    ∙ append_assoc before (map f run) (map f rest)
    ∙ ap (λ (ys : List Bit). before ++ ys) (sym (ap (map f) next ∙ map-append f run rest))
    ∙ so_far

-- the bits of a run are those at its places
run_bits : (s : Streams) (ring own : Ring) (run : Run) → ring ≡ own → IsRun ring.k ring.fill ring.size run
    → map (λ i. bit_of_cell (cell_at s (Some (bit_down run.first i)))) (range_with_len 0 run.count) ≡ map (bit_in s own.k own.fill) (run_places run)
unfolding bit_in
run_bits s ring own run same is =
    map-alike (λ i. bit_of_cell (cell_at s (Some (bit_down run.first i)))) (λ i. run.place + i) (bit_in s own.k own.fill) run.count
    (λ i h. ap (λ o. bit_of_cell (cell_at s o)) (sym (is.bits i h)) ∙ ap (λ (r : Ring). bit_of_cell (cell_at s (spot r.k r.fill (run.place + i)))) same)

pub write_run-requires-clause-long : goal.write_run-requires-clause-long
write_run-requires-clause-long c =
    part-long c.loop-done.done c.next_run-run.result.count c.loop-done.out (omega (arith, c.next_run-run.ensures.most, c.loop-done.invariant.within, c.loop-done.auto.out))

pub write_run-requires-clause-bits : goal.write_run-requires-clause-bits
write_run-requires-clause-bits c = λ i h.
    let ring = c.loop-done.walk.ring in
    let b = bit_down c.next_run-run.result.first i in
    let inside = run-inside ring.k ring.fill ring.size c.next_run-run.result i c.next_run-run.ensures.run ring.within h in
    omega (arith, inside.1, ap (λ (r : Ring). r.k) c.loop-done.invariant.kept, stream-long c.args.ring.k c.args.ring.fill c.args.streams.now b.stream c.requires.streams)

pub loop-done-init : goal.loop-done-init
unfolding bit_in
loop-done-init c =
    let f : ℕ → Bit = bit_in c.args.streams.now c.args.ring.k c.args.ring.fill in
    record {
      within = omega arith;
      kept = c.new-walk.ensures.ring;
      written = ap (map f) (ap (places_from c.new-walk.result) (let e : length c.args.out.now - 0 ≡ length c.args.out.now = omega arith in e) ∙ c.new-walk.ensures.places (length c.args.out.now));
    }

pub loop-done-preserved : goal.loop-done-preserved
unfolding bit_in
loop-done-preserved c =
    let s = c.args.streams.now in
    let ring = c.args.ring in
    let walk = c.loop-done.walk in
    let run = c.next_run-run.result in
    let done : ℕ = c.loop-done.done in
    let out = c.loop-done.out in
    let count : ℕ = length c.args.out.now in
    let f : ℕ → Bit = bit_in s ring.k ring.fill in
    let fits : done + run.count ≤ length out = omega (arith, c.next_run-run.ensures.most, c.loop-done.invariant.within, c.loop-done.auto.out) in
    let left : ℕ = count - (done + run.count) in
    let new : c.write_run.new.out ≡ map f (run_places run) = c.write_run.ensures ∙ run_bits s walk.ring ring run c.loop-done.invariant.kept c.next_run-run.ensures.run in
    let long : length c.write_run.new.out ≡ run.count = ap length c.write_run.ensures ∙ length-map-range_with_len (λ i. bit_of_cell (cell_at s (Some (bit_down run.first i)))) 0 run.count in
    let next : places_from walk (count - done) ≡ run_places run ++ places_from c.next_run-run.new.self left =
    ap (places_from walk) (let e : count - done ≡ run.count + left = omega (arith, fits, c.loop-done.auto.out) in e) ∙ c.next_run-run.ensures.places left in
    record {
      within = omega (arith, fits, c.loop-done.auto.out);
      kept = c.next_run-run.ensures.ring ∙ c.loop-done.invariant.kept;
      written = goes_on f (take done out) _ c.write_run.new.out _ (places_from walk (count - done)) (run_places run) (places_from c.next_run-run.new.self left)
          (part_written done run.count _ out c.write_run.new.out fits long) new next c.loop-done.invariant.written;
    }

pub loop-done-smaller : goal.loop-done-smaller
loop-done-smaller c = omega (arith, c.loop-done-test.true, c.loop-done.auto.out, c.next_run-run.ensures.run.some)

pub returns : goal.returns
unfolding bit_in
returns c =
    let done : ℕ = c.loop-done.done in
    let out = c.loop-done.out in
    let all : done ≡ length out = omega (arith, c.loop-done-test.false, c.loop-done.invariant.within, c.loop-done.auto.out) in
    let f : ℕ → Bit = bit_in c.args.streams.now c.args.ring.k c.args.ring.fill in
    sym (ap (λ m. take done out ++ map f (places_from c.loop-done.walk m)) (let e : length c.args.out.now - done ≡ 0 = omega (arith, all, c.loop-done.auto.out) in e)
    ∙ append-nil (take done out) ∙ take_all done out (omega (arith, all)))
    ∙ c.loop-done.invariant.written
