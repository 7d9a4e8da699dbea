-- The seat that turns resets the mask.
use Rattle.std.proofs.Common.{◌≡◌, ℕ, ◌*◌, List, set, sym, subst, refl, ap, ◌∙◌, arith, Some}
use mathlib.Core.Option.{none}
use Rattle.std.proofs.Math.Pow.{pow_pos}
use Rattle.atomic_table.specs.Table.{Me, step, keeps, Allows}
use Rattle.phase_board.specs.declared.view.View.{View}
use Rattle.phase_board.specs.declared.view.Slot.{Slot}
use Rattle.phase_board.specs.declared.view.Activity.TheVariants.{Turning, Reset}
use Rattle.phase_board.specs.Numbers.{times, total, once_below}
use Rattle.phase_board.specs.Lawful.{Phase, running, turning, resetting, InPhase, HasJob, Knows, Seated, done_once}
use Rattle.phase_board.specs.Steps.{IsFor, cleared}
use Rattle.phase_board.proofs.Dones.{all_marked, next_half}
use Rattle.phase_board.proofs.Totals.{total_set}
use Rattle.phase_board.proofs.Views.{set_each, at_here}
use Rattle.phase_board.proofs.Settles.{alone}
use Rattle.phase_board.proofs.Rule.{St, Law, claim}

module _ {J P C : Type 0} (windows : J → ℕ) (ready done : J → ℕ → ℕ → P → Type 0) (common ended : J → ℕ → C → Type 0) (job : J) where
  abbrev V : Type 0
  V = View J

  abbrev L : St windows ready done common ended job → Type 0
  L = Law windows ready done common ended job

  pub clears : (slots id : ℕ) (me : Me (Slot P C) V) → me.0.job ≡ Some job → me.0.activity ≡ Turning → Allows L slots id me 1 (λ _. 0) (cleared windows (step slots 1 0 0 none) me)
  clears slots id me is turns s r wide at small =
      let v : V = me.0 in let m : ℕ = windows job in let c : ℕ = claim windows ready done common ended job s r in let w : V = record v { activity = Reset } in
      let mine = r.each_seat id v at in
      let kn : Knows windows job r.half r.at r.phase id v Turning = subst (Knows windows job r.half r.at r.phase id v) turns mine.knows in
      let now : InPhase windows ready done common ended job s.homes r.half r.n r.mask r.stop r.at (turning id) = subst
      (InPhase windows ready done common ended job s.homes r.half r.n r.mask r.stop r.at) kn.0 r.in_phase in
      let mine' : Seated windows job c r.half r.at (resetting id) id w =
      record {
        found_is = mine.found_is;
        found_drawn = mine.found_drawn;
        loaded_is = mine.loaded_is;
        loaded_drawn = mine.loaded_drawn;
        below = mine.below;
        job_is = subst (HasJob job w) (sym is) refl;
        knows = (refl, kn.1);
      } in (
        w,
        keeps,
        tt,
        record {
          half = r.half;
          n = r.n;
          stop = r.stop;
          mask = 0;
          at = r.at;
          phase = resetting id;
          words = ap (λ (l : List ℕ). set l 1 0) r.words;
          mask_small = pow_pos m;
          small = r.small;
          most = r.most;
          size = r.size;
          slots = r.slots;
          draws = λ x. let t = total_set (λ (u : V). times x u.drawn) s.views id v w at in let d = r.draws x in omega arith;
          dones = λ x. (let t = total_set (λ (u : V). times x u.done) s.views id v w at in
              let e : total (λ (u : V). times x u.done) (set s.views id w) ≡ total (λ (u : V). times x u.done) s.views = omega arith in e)
              ∙ r.dones x ∙ ap (λ (z : Phase). done_once m r.half r.mask z x) kn.0 ∙ all_marked (r.half * m) m r.mask x r.mask_small now.2 ∙ ap (once_below x) (sym (next_half r.half m));
          in_phase = (now.0, now.1, refl, now.3);
          in_hands = at_here s.views id v w Reset at refl;
          each_seat = set_each (Seated windows job c r.half r.at (resetting id)) s.views id w mine'
              (λ i u ne q. let old = r.each_seat i u q in
              record {
                found_is = old.found_is;
                found_drawn = old.found_drawn;
                loaded_is = old.loaded_is;
                loaded_drawn = old.loaded_drawn;
                below = old.below;
                job_is = old.job_is;
                knows = alone windows job id r.phase (λ e. let f : turning id ≡ running = sym kn.0 ∙ e in cc) (λ j d e. d (let f : turning id ≡ turning j = sym kn.0 ∙ e in cc))
                    (λ j d e. let f : turning id ≡ resetting j = sym kn.0 ∙ e in cc)
                    r.half r.half r.at r.at (resetting id) i u u.activity ne old.knows;
              });
        },
        (refl, subst (IsFor _) (sym is) (sym r.slots ∙ wide)),
      )
