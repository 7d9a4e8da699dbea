-- A seat marks the window t, on which it works, in the mask: what the step makes of the rule, whatever comes out of the slots.
use Rattle.std.proofs.Common.{◌≡◌, ◌≢◌, ℕ, ◌+◌, ◌*◌, ◌^◌, ◌<◌, ◌≤◌, List, [], ◌∷◌, ◌++◌, length, set, sym, subst, refl, ap, ◌∙◌, arith, Some}
use mathlib.Core.Option.{some, none}
use mathlib.Core.Option as maybe
use lib.ListN.{get_elem?}
use Rattle.std.specs.Int.{bit_at}
use Rattle.std.specs.Int.Bits.{bit_or}
use Rattle.phase_board.specs.declared.view.View.{View}
use Rattle.phase_board.specs.declared.view.Slot.{Slot}
use Rattle.phase_board.specs.ClaimWord.{half_of, drawn_of, next_number, NotNewer}
use Rattle.phase_board.specs.Numbers.{times, total}
use Rattle.phase_board.specs.Lawful.{Where, Phase, running, InPhase, InHands, HasJob, Knows, Seated, done_once}
use Rattle.phase_board.proofs.Dones.{by_mask, marked}
use Rattle.phase_board.proofs.Totals.{total_set, times_append}
use Rattle.phase_board.proofs.Views.{set_each}
use Rattle.phase_board.proofs.Rule.{St, Law, claim}

module _ {J P C : Type 0} (windows : J → ℕ) (ready done : J → ℕ → ℕ → P → Type 0) (common ended : J → ℕ → C → Type 0) (job : J) where
  abbrev V : Type 0
  V = View J

  abbrev T : Type 0
  T = St windows ready done common ended job

  abbrev L : T → Type 0
  L = Law windows ready done common ended job

  -- the seat id has the view v, and mask' is the mask with the bit of t
  module _ (s : T) (r : L s) (id : ℕ) (v : V) (at : get_elem? s.views id ≡ some v) (t mask' : ℕ) (runs : r.phase ≡ running) (half_is : half_of v.loaded ≡ r.half)
      (low : mask' < 2 ^ windows job) (mask_is : mask' ≡ bit_or r.mask (2 ^ t)) (zero : bit_at r.mask t ≡ 0) where
    abbrev m : ℕ
    m = windows job

    seated : (w : V) (ph : Phase) (pl : ℕ → Where) → w.found ≡ v.found → w.loaded ≡ v.loaded → w.drawn ≡ v.drawn → w.job ≡ Some job → Knows windows job r.half pl ph id w w.activity →
        Seated windows job (claim windows ready done common ended job s r) r.half pl ph id w
    seated w ph pl f l d j know = let old = r.each_seat id v at in
        record {
          found_is = subst (λ (z : ℕ). NotNewer z (claim windows ready done common ended job s r)) (sym f) old.found_is;
          found_drawn = subst (λ (z : ℕ). drawn_of z ≤ m) (sym f) old.found_drawn;
          loaded_is = subst (λ (z : ℕ × ℕ). NotNewer z.0 z.1) (λ i. (sym l i, sym f i)) old.loaded_is;
          loaded_drawn = subst (λ (z : ℕ). drawn_of z ≤ m) (sym l) old.loaded_drawn;
          below = subst (λ (z : ℕ × List ℕ). (x : ℕ) → next_number m z.0 ≤ x → times x z.1 ≡ 0) (λ i. (sym f i, sym d i)) old.below;
          job_is = subst (HasJob job w) (sym j) refl;
          knows = know;
        }

    -- what the step makes of the rule, for the view and the phase that follow
    pub step_to : (w : V) (ph : Phase) (pl : ℕ → Where) (homes : List (maybe.Option (Slot P C))) → w.found ≡ v.found → w.loaded ≡ v.loaded → w.drawn ≡ v.drawn →
        w.done ≡ v.done ++ (half_of v.loaded * m + t) ∷ [] → w.job ≡ Some job → length homes ≡ m + 1
        → ((x : ℕ) → done_once m r.half mask' ph x ≡ by_mask (r.half * m) mask' x) → InPhase windows ready done common ended job homes r.half r.n mask' r.stop pl ph →
        InHands (set s.views id w) m pl ph
        → Knows windows job r.half pl ph id w w.activity → ((j : ℕ) (u : V) → j ≢ id → Knows windows job r.half r.at r.phase j u u.activity → Knows windows job r.half pl ph j u u.activity)
        → L record { words = set s.words 1 mask'; homes = homes; views = set s.views id w }
    step_to w ph pl homes f l d e j long by_it phase_is hands know others =
        record {
          half = r.half;
          n = r.n;
          stop = r.stop;
          mask = mask';
          at = pl;
          phase = ph;
          words = ap (λ (l : List ℕ). set l 1 mask') r.words;
          mask_small = low;
          small = r.small;
          most = r.most;
          size = r.size;
          slots = long;
          draws = λ x. let q = total_set (λ (u : V). times x u.drawn) s.views id v w at in let o = r.draws x in let g : times x w.drawn ≡ times x v.drawn = ap (times x) d in omega arith;
          dones = λ x.
              let q = total_set (λ (u : V). times x u.done) s.views id v w at in
              let o : total (λ (u : V). times x u.done) s.views ≡ by_mask (r.half * m) r.mask x = r.dones x ∙ ap (λ (z : Phase). done_once m r.half r.mask z x) runs in
              let g : times x w.done ≡ times x v.done + times x ((r.half * m + t) ∷ []) = ap (times x) e ∙ times_append x v.done ((half_of v.loaded * m + t) ∷ [])
              ∙ ap (λ (z : ℕ). times x v.done + times x ((z * m + t) ∷ [])) half_is in
              let b : by_mask (r.half * m) mask' x ≡ by_mask (r.half * m) r.mask x + times x ((r.half * m + t) ∷ []) = ap (λ (z : ℕ). by_mask (r.half * m) z x) mask_is
              ∙ marked (r.half * m) r.mask t x zero in
              (let sum : total (λ (u : V). times x u.done) (set s.views id w) ≡ by_mask (r.half * m) mask' x = omega arith in sum) ∙ sym (by_it x);
          in_phase = phase_is;
          in_hands = hands;
          each_seat = set_each (Seated windows job (claim windows ready done common ended job s r) r.half pl ph) s.views id w (seated w ph pl f l d j know)
              (λ i u ne q. let old = r.each_seat i u q in
              record {
                found_is = old.found_is;
                found_drawn = old.found_drawn;
                loaded_is = old.loaded_is;
                loaded_drawn = old.loaded_drawn;
                below = old.below;
                job_is = old.job_is;
                knows = others i u ne old.knows;
              });
        }
