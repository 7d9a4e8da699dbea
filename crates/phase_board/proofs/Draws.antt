-- A draw keeps the rule: the piece of the next window comes out.
use Rattle.std.proofs.Common.{◌≡◌, ◌≢◌, ℕ, suc, ◌+◌, ◌*◌, ◌^◌, ◌<◌, ◌≤◌, List, [], ◌∷◌, ◌++◌, Bool, false, set, sym, subst, refl, ap, ◌∙◌, arith, Some, length-set}
use mathlib.Core.Option.{some, none}
use mathlib.Core.Option as maybe
use lib.ListN.{get_elem?}
use Rattle.std.specs.Int.{bit_at}
use Rattle.atomic_table.specs.Table.{Me, takes, Act, Valid, stepped, carried_after}
use Rattle.atomic_table.proofs.Lists.{set_here, set_else}
use Rattle.phase_board.specs.declared.view.View.{View}
use Rattle.phase_board.specs.declared.view.Slot.{Slot}
use Rattle.phase_board.specs.declared.view.Slot.TheVariants.{Piece}
use Rattle.phase_board.specs.declared.view.Activity.{Activity}
use Rattle.phase_board.specs.declared.view.Activity.TheVariants.{Idle, Working, Turning, Reset}
use Rattle.phase_board.specs.ClaimWord.{half_of, drawn_of, next_number, word_of, NotNewer}
use Rattle.phase_board.specs.Numbers.{times, total, once_below}
use Rattle.phase_board.specs.Lawful.{Where, waits, out, home, Phase, running, turning, resetting, stopped, Stands, InPhase, InHands, IsAt, HasJob, Knows, Seated, done_once}
use Rattle.phase_board.specs.Steps.{Draws, after_draw}
use Rattle.phase_board.proofs.Totals.{total_set, times_append, once_more, not_there}
use Rattle.phase_board.proofs.Views.{set_there, set_each, at_here, at_kept, not_idle}
use Rattle.phase_board.proofs.Moves.{moved_to, moved_case, up_ne}
use Rattle.phase_board.proofs.Words.{half_word, drawn_word, same_newer, goes_up, not_stopped}
use Rattle.phase_board.proofs.Rule.{St, Law, claim, fits, drawn_once}

module _ {J P C : Type 0} (windows : J → ℕ) (ready done : J → ℕ → ℕ → P → Type 0) (common ended : J → ℕ → C → Type 0) (job : J) where
  abbrev V : Type 0
  V = View J

  abbrev S : Type 0
  S = Slot P C

  abbrev T : Type 0
  T = St windows ready done common ended job

  abbrev L : T → Type 0
  L = Law windows ready done common ended job

  module _ (half n mask : ℕ) (stop : Bool) (at : ℕ → Where) (homes : List (maybe.Option S)) where
    abbrev In : Phase → Type 0
    In = InPhase windows ready done common ended job homes half n mask stop at

    run : (ph : Phase) → In ph → n ≢ windows job → (ph ≡ running) × In running
    run running h ne = (refl, h)
    run (turning j) h ne = absurd (ne h.1)
    run (resetting j) h ne = absurd (ne h.1)
    run stopped h ne = absurd (ne h.1)

    abbrev Put : ℕ → Where → Type 0
    Put t = Stands (ready job half) (done job half) homes n mask t

    waiting : (x : Where) → Put n x → (x ≡ waits) × Put n waits
    waiting waits h = (refl, h)
    waiting (out j) h = absurd (let a = h.0 in omega arith)
    waiting home h = absurd (let a = h.0 in omega arith)

    keep : (x : Where) (t : ℕ) → t ≢ n → Put t x → Stands (ready job half) (done job half) (set homes (suc n) none) (n + 1) mask t x
    keep waits t ne h = ((let a = h.0 in omega arith), h.1, (h.2.0, set_else homes (suc n) (suc t) none (up_ne t n ne) ∙ h.2.1, h.2.2))
    keep (out j) t ne h = ((let a = h.0 in omega arith), h.1, set_else homes (suc n) (suc t) none (up_ne t n ne) ∙ h.2)
    keep home t ne h = ((let a = h.0 in omega arith), h.1, (h.2.0, set_else homes (suc n) (suc t) none (up_ne t n ne) ∙ h.2.1, h.2.2))

  knows_else : (half n id : ℕ) (at : ℕ → Where) (ph : Phase) (j : ℕ) (v : V) (x : Activity) → at n ≡ waits → Knows windows job half at ph j v x →
      Knows windows job half (moved_to at n (out id)) ph j v x
  knows_else half n id at ph j v Idle free h = tt
  knows_else half n id at ph j v (Working t) free h =
      (h.0, moved_case at n (out id) (λ p. p ≡ out j) t (λ e. let f : waits ≡ out j = sym free ∙ ap at (sym e) ∙ h.1 in cc) (λ _. h.1), h.2, h.3)
  knows_else half n id at ph j v Turning free h = h
  knows_else half n id at ph j v Reset free h = h

  pub draws_one : (s : T) (r : L s) (id : ℕ) (me : Me S V) → get_elem? s.views id ≡ some me.0 → me.0.job ≡ Some job → me.0.activity ≡ Idle → me.1 ≡ [] →
      me.0.loaded ≡ claim windows ready done common ended job s r → me.0.found ≡ claim windows ready done common ended job s r
      → claim windows ready done common ended job s r < 2 ^ 63 → r.n ≢ windows job
      → (w : V) × (a : Act S) × Valid s.homes me.1 a × L (stepped s 0 (claim windows ready done common ended job s r + 1) id me.1 w a) × Draws windows ready job me (w, carried_after me.1 a)
  draws_one s r id me at is rests free seen found low more =
      let n : ℕ = r.n in let m : ℕ = windows job in let h : ℕ = r.half in let c : ℕ = claim windows ready done common ended job s r in
      let size : n ≤ 64 = fits windows ready done common ended job s r in
      let going : r.stop ≡ false = not_stopped r.stop h n low in
      let runs = run h n r.mask r.stop r.at s.homes r.phase r.in_phase more in
      let lt : n < m = (let a = r.most in omega arith) in
      let there = waiting h n r.mask r.stop r.at s.homes (r.at n) (runs.1.1 n lt) in
      let p : P = there.1.2.0 in
      let drawn : drawn_of me.0.loaded ≡ n = ap drawn_of seen ∙ drawn_word r.stop h n r.small size in
      let half : half_of me.0.loaded ≡ h = ap half_of seen ∙ half_word r.stop h n r.small size in
      let x0 : ℕ = next_number m me.0.loaded in
      let number : x0 ≡ h * m + n = λ i. half i * m + drawn i in
      let w : V = after_draw m me.0 in
      let at' : ℕ → Where = moved_to r.at n (out id) in
      let homes' : List (maybe.Option S) = set s.homes (suc n) none in
      let views' : List V = set s.views id w in
      let next : c + 1 ≡ word_of r.stop h (n + 1) = omega arith in
      let up : c + 1 < 2 ^ 63 = (let g = ap (λ (b : Bool). word_of b h n) going in let q = r.small in omega arith) in
      let found_w : w.found ≡ c + 1 = ap (λ (z : ℕ). z + 1) seen in
      let old_below : (x : ℕ) → x0 ≤ x → times x me.0.drawn ≡ 0 = λ x le. (r.each_seat id me.0 at).below x
      (let z : next_number m me.0.found ≡ x0 = ap (next_number m) (found ∙ sym seen) in omega arith) in
      let mine : Seated windows job (c + 1) h at' running id w =
      record {
        found_is = subst (λ (z : ℕ). NotNewer z (c + 1)) (sym found_w) (same_newer (c + 1));
        found_drawn = rw (found_w, next, drawn_word r.stop h (n + 1) r.small (let q = r.size in omega arith)) (omega arith);
        loaded_is = subst (λ (z : ℕ × ℕ). NotNewer z.0 z.1) (λ i. (sym seen i, sym found_w i)) (goes_up c c up (same_newer c));
        loaded_drawn = (r.each_seat id me.0 at).loaded_drawn;
        below = λ x le.
            let nx : next_number m w.found ≡ h * m + (n + 1) = ap (next_number m) (found_w ∙ next)
            ∙ (λ i. half_word r.stop h (n + 1) r.small (let q = r.size in omega arith) i * m + drawn_word r.stop h (n + 1) r.small (let q = r.size in omega arith) i) in
            let b : times x me.0.drawn ≡ 0 = old_below x (omega arith) in
            let a : times x (x0 ∷ []) ≡ 0 = not_there x x0 (omega arith) in
            let t : times x (me.0.drawn ++ x0 ∷ []) ≡ times x me.0.drawn + times x (x0 ∷ []) = times_append x me.0.drawn (x0 ∷ []) in omega arith;
        job_is = subst (HasJob job w) (sym is) refl;
        knows = subst (Knows windows job h at' running id w) (ap Working (sym drawn)) (refl, moved_case r.at n (out id) (λ x. x ≡ out id) n (λ _. refl) (λ e. absurd (e refl)), half, lt);
      } in
      let law : L (stepped s 0 (c + 1) id me.1 w (takes (suc n) (Piece p))) =
      record {
        half = h;
        n = n + 1;
        stop = r.stop;
        mask = r.mask;
        mask_small = r.mask_small;
        at = at';
        phase = running;
        words = ap (λ (l : List ℕ). set l 0 (c + 1)) r.words ∙ ap (λ (z : ℕ). z ∷ r.mask ∷ []) next;
        small = r.small;
        most = (omega arith);
        size = r.size;
        slots = length-set s.homes (suc n) none ∙ r.slots;
        draws = λ x.
            let t = total_set (λ (u : V). times x u.drawn) s.views id me.0 w at in let d = r.draws x in let o = once_more x (h * m + n) in
            let e : times x (x0 ∷ []) ≡ times x ((h * m + n) ∷ []) = ap (λ (z : ℕ). times x (z ∷ [])) number in
            let g : times x (me.0.drawn ++ x0 ∷ []) ≡ times x me.0.drawn + times x (x0 ∷ []) = times_append x me.0.drawn (x0 ∷ []) in
            let k : once_below x (h * m + (n + 1)) ≡ once_below x (h * m + n + 1) = ap (once_below x) (omega arith) in omega arith;
        dones = λ x. (let t = total_set (λ (u : V). times x u.done) s.views id me.0 w at in
            let e : total (λ (u : V). times x u.done) views' ≡ total (λ (u : V). times x u.done) s.views = omega arith in e)
            ∙ r.dones x ∙ ap (λ (ph : Phase). done_once m h r.mask ph x) runs.0;
        in_phase = (
          going,
          λ t l. moved_case r.at n (out id) (Stands (ready job h) (done job h) homes' (n + 1) r.mask t) t
              (λ e. ((omega arith), ap (bit_at r.mask) e ∙ there.1.1, (ap (λ (z : ℕ). get_elem? homes' (suc z)) e ∙ set_here s.homes (suc n) none (let q = r.slots in omega arith))))
              (λ ne. keep h n r.mask r.stop r.at s.homes (r.at t) t ne (runs.1.1 t l)),
          runs.1.2,
          (runs.1.3.0, runs.1.3.1, set_else s.homes (suc n) 0 none (λ e. omega arith) ∙ runs.1.3.2, runs.1.3.3),
        );
        in_hands = λ t j l. moved_case r.at n (out id) (λ p. p ≡ out j → IsAt views' j (Working t)) t
            (λ e q. let f : id ≡ j = cc in subst (λ (z : ℕ). IsAt views' z (Working t)) f (at_here s.views id me.0 w (Working t) at (ap Working (drawn ∙ sym e))))
            (λ ne q. at_kept s.views id me.0 w j (Working t) at (not_idle me.0 (Working t) rests (λ z. cc)) (subst (λ (ph : Phase). InHands s.views m r.at ph) runs.0 r.in_hands t j l q));
        each_seat = λ j u e. subst (λ (z : ℕ). Seated windows job z h at' running j u) next (set_each (Seated windows job (c + 1) h at' running) s.views id w mine
            (λ i q ne f. let old = r.each_seat i q f in
            record {
              found_is = goes_up q.found c up old.found_is;
              found_drawn = old.found_drawn;
              loaded_is = old.loaded_is;
              loaded_drawn = old.loaded_drawn;
              below = old.below;
              job_is = old.job_is;
              knows = subst (λ (ph : Phase). Knows windows job h at' ph i q q.activity) runs.0 (knows_else h n id r.at r.phase i q q.activity there.0 old.knows);
            }) j u e);
      } in (
        w,
        takes (suc n) (Piece p),
        there.1.2.1,
        law,
        (
          p,
          ap (λ (z : ℕ). (w, (z, Piece p) ∷ me.1)) (let d = drawn in omega arith),
          subst (λ (z : ℕ × ℕ). ready job z.0 z.1 p) (λ i. (sym half i, sym drawn i)) there.1.2.2,
          old_below,
          drawn_once windows ready done common ended job (stepped s 0 (c + 1) id me.1 w (takes (suc n) (Piece p))) law id w (set_there s.views id me.0 w at),
        ),
      )
