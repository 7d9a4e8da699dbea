use Rattle.std.proofs.Common.{◌≡◌, ℕ, ◌+◌, ◌-◌, ◌%◌, ◌<◌, ◌++◌, length, is_some, refl, sym, ap, ◌∙◌, arith}
use Rattle.std.proofs.lemmas.Nat.{mod_below}
use Rattle.std.proofs.Math.Nat.{mod-eq_of_lt}
use Rattle.model_sender.specs.Selection.{bits_from, holds_bit, repeated}
use Rattle.model_sender.proofs.SelectionLaws.{some_bit}
use Rattle.rate_match.specs.Cursor.{cursor_at}
use Rattle.rate_match.specs.Runs.{run_places}
use Rattle.rate_match.specs.declared.cursor.Cursor.{Cursor}
use Rattle.rate_match.specs.declared.rings.Ring.{Ring}
use Rattle.rate_match.specs.declared.walk.Walk.{Walk}
use Rattle.rate_match.proofs.CursorSteps.{lawful-at}
use Rattle.rate_match.proofs.Walked.{next_place, place_after, run-next, step_left, walked}
use Rattle.rate_match.proofs.walk.Walk.next_run.Goals as goal

-- a cursor stands in the ring, some places after another
record IsThere (ring : Ring) (m : ℕ) (c : Cursor) : Type 0 where
  place : c.n ≡ m % ring.size
  within : c.n < ring.size
  lawful : c ≡ cursor_at ring.rows c.n

there : (ring : Ring) (m : ℕ) (c : Cursor) → c ≡ cursor_at ring.rows (m % ring.size) → IsThere ring m c
there ring m c is =
    let place : c.n ≡ m % ring.size = ap (λ (c : Cursor). c.n) is in
    record { place = place; within = omega (arith, place, mod_below m ring.size ring.some); lawful = lawful-at ring.rows (m % ring.size) c is }

pub run-requires-clause-within : goal.run-requires-clause-within
run-requires-clause-within c = (there c.args.self.now.ring _ c.loop-place.cursor c.loop-place.invariant.at).within

pub run-requires-clause-lawful : goal.run-requires-clause-lawful
run-requires-clause-lawful c = (there c.args.self.now.ring _ c.loop-place.cursor c.loop-place.invariant.at).lawful

pub down-requires-clause-within : goal.down-requires-clause-within
down-requires-clause-within c =
    let run = c.in-Some.ensures.run in
    omega (arith, run.some, run.within, c.in-Some.ensures.here)

pub down-requires-clause-lawful : goal.down-requires-clause-lawful
down-requires-clause-lawful c = (there c.args.self.now.ring _ c.loop-place.cursor c.loop-place.invariant.at).lawful

pub down-requires-clause-column : goal.down-requires-clause-column
down-requires-clause-column c = c.in-Some.ensures.column

-- the walk's next place
record IsNext (walk : Walk) (c : Cursor) : Type 0 where
  within : c.n < walk.ring.size
  lawful : c ≡ cursor_at walk.ring.rows c.n

next_there : (walk old : Walk) (m : ℕ) (c : Cursor) → walk ≡ old → c ≡ cursor_at old.ring.rows (m % old.ring.size) → IsNext walk c
next_there walk old m c same is =
    let at = there old.ring m c is in
    record {
      within = omega (arith, at.within, ap (λ (w : Walk). w.ring.size) same);
      lawful = at.lawful ∙ ap (λ (w : Walk). cursor_at w.ring.rows c.n) (sym same);
    }

pub invariant_of-self : goal.invariant_of-self
invariant_of-self c =
    let at = next_there c.loop-place.self c.args.self.now (c.down.result.n + 1) c.next-self.result c.loop-place.invariant.same c.next-self.ensures in
    record { within = at.within; lawful = at.lawful }

pub returns-in-Some-clause-ring : goal.returns-in-Some-clause-ring
returns-in-Some-clause-ring c = ap (λ (w : Walk). w.ring) c.loop-place.invariant.same

pub returns-in-Some-clause-places : goal.returns-in-Some-clause-places
returns-in-Some-clause-places c = λ e.
    let walk = c.args.self.now in
    let ring = walk.ring in
    let run = c.in-Some.run' in
    let is = c.in-Some.ensures.run in
    let gone : ℕ = c.loop-place._place in
    let at = there ring (walk.cursor.n + gone) c.loop-place.cursor c.loop-place.invariant.at in
    let next : ℕ = c.next-self.result.n in
    let here : run.place ≡ (walk.cursor.n + gone) % ring.size = c.in-Some.ensures.here ∙ at.place in
    let last : c.down.result.n ≡ run.place + (run.count - 1) = ap (λ (c : Cursor). c.n) c.down.ensures ∙ ap (λ (n : ℕ). n + (run.count - 1)) (sym c.in-Some.ensures.here) in
    run-next (holds_bit ring.k ring.fill) walk.cursor.n ring.size gone run.place run.count next e ring.some c.loop-place.invariant.none here is.within (λ i h. ap is_some (is.bits i h))
    (ap (λ (c : Cursor). c.n) c.next-self.ensures ∙ place_after walk.cursor.n gone ring.size run.place c.down.result.n run.count here is.some last)
    (some_bit ring.k ring.fill ring.size next ring.fills (omega (arith, ring.keeps)))
    ∙ ap (λ (w : Walk). run_places run ++ repeated (bits_from (holds_bit w.ring.k w.ring.fill) next w.ring.size) e) (sym c.loop-place.invariant.same)

pub next-cursor-requires-clause-within : goal.next-cursor-requires-clause-within
next-cursor-requires-clause-within c = (there c.args.self.now.ring _ c.loop-place.cursor c.loop-place.invariant.at).within

pub next-cursor-requires-clause-lawful : goal.next-cursor-requires-clause-lawful
next-cursor-requires-clause-lawful c = (there c.args.self.now.ring _ c.loop-place.cursor c.loop-place.invariant.at).lawful

pub loop-place-init : goal.loop-place-init
loop-place-init c =
    let walk = c.args.self.now in
    record {
      same = refl;
      at = walk.lawful ∙ ap (cursor_at walk.ring.rows) (sym (mod-eq_of_lt walk.within) ∙ ap (λ (n : ℕ). n % walk.ring.size) (let e : walk.cursor.n ≡ walk.cursor.n + 0 = omega arith in e));
      none = refl;
    }

pub loop-place-preserved : goal.loop-place-preserved
loop-place-preserved c =
    let walk = c.args.self.now in
    let ring = walk.ring in
    let at = there ring (walk.cursor.n + c.loop-place._place) c.loop-place.cursor c.loop-place.invariant.at in
    record {
      same = c.loop-place.invariant.same;
      at = c.next-cursor.ensures ∙ ap (cursor_at ring.rows) (next_place walk.cursor.n c.loop-place._place ring.size c.loop-place.cursor.n at.place);
      none =
          step_left (holds_bit ring.k ring.fill) walk.cursor.n ring.size c.loop-place._place c.loop-place.cursor.n at.place (ap is_some (c.in_default.ensures.none refl))
          ∙ c.loop-place.invariant.none;
    }

pub unreachable-requires : goal.unreachable-requires
unreachable-requires c =
    let walk = c.args.self.now in
    let ring = walk.ring in
    let all : c.loop-place._place ≡ ring.size = omega (arith, c.loop-place-test.false, c.loop-place.auto._place-end) in
    let keep = holds_bit ring.k ring.fill in
    let none : length (walked keep walk.cursor.n ring.size ring.size) ≡ 0 = ap length (ap (walked keep walk.cursor.n ring.size) (sym all) ∙ c.loop-place.invariant.none) in
    omega (arith, none, some_bit ring.k ring.fill ring.size walk.cursor.n ring.fills (omega (arith, ring.keeps)))
