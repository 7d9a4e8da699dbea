-- A seat that turns or stops changes the claim word to a later one, and all slots come home.
use Rattle.std.proofs.Common.{◌≡◌, ◌≢◌, ℕ, ◌+◌, ◌*◌, ◌%◌, ◌^◌, ◌<◌, ◌≤◌, List, [], ◌∷◌, Bool, false, length, set, sym, subst, refl, ap, ◌∙◌, arith, Some}
use mathlib.Core.Option.{some}
use mathlib.Core.Option as maybe
use lib.ListN.{get_elem?}
use Rattle.phase_board.specs.declared.view.View.{View}
use Rattle.phase_board.specs.declared.view.Slot.{Slot}
use Rattle.phase_board.specs.declared.view.Activity.{Activity}
use Rattle.phase_board.specs.declared.view.Activity.TheVariants.{Idle, Working, Turning, Reset}
use Rattle.phase_board.specs.ClaimWord.{drawn_of, word_of, NotNewer}
use Rattle.phase_board.specs.Numbers.{times, total, once_below}
use Rattle.phase_board.specs.Lawful.{Where, Phase, running, turning, resetting, InPhase, InHands, HasJob, Knows, Seated, done_once}
use Rattle.phase_board.proofs.Totals.{total_set}
use Rattle.phase_board.proofs.Views.{set_each}
use Rattle.phase_board.proofs.Words.{same_newer, newer_trans, number_le, drawn_word}
use Rattle.phase_board.proofs.Rule.{St, Law, claim, fits}

-- a word that isn't stopped may rise to any later one
rises : (a c d : ℕ) → c < 2 ^ 63 → c % 2 ^ 63 ≤ d % 2 ^ 63 → NotNewer a c → NotNewer a d
rises a c d low up p = (let x = p.0 in omega arith, λ h. let e : a ≡ c = p.1 h in absurd (omega arith))

low_claim : (stop : Bool) (h n : ℕ) → stop ≡ false → h ≤ 1000000 → n ≤ 64 → word_of stop h n < 2 ^ 63
low_claim stop h n e a b = let f : word_of stop h n ≡ word_of false h n = ap (λ (z : Bool). word_of z h n) e in omega arith

module _ {J : Type 0} (windows : J → ℕ) (job : J) where
  -- while a seat turns, the others are idle, and know the same of whatever follows
  pub alone : (id : ℕ) (ph : Phase) → ph ≢ running → ((j : ℕ) → j ≢ id → ph ≢ turning j) → ((j : ℕ) → j ≢ id → ph ≢ resetting j) →
      (half half' : ℕ) (at at' : ℕ → Where) (ph' : Phase) (j : ℕ) (u : View J) (x : Activity) → j ≢ id
      → Knows windows job half at ph j u x → Knows windows job half' at' ph' j u x
  alone id ph a b c half half' at at' ph' j u Idle ne q = tt
  alone id ph a b c half half' at at' ph' j u (Working t) ne q = absurd (a q.0)
  alone id ph a b c half half' at at' ph' j u Turning ne q = absurd (b j ne q.0)
  alone id ph a b c half half' at at' ph' j u Reset ne q = absurd (c j ne q.0)

module _ {J P C : Type 0} (windows : J → ℕ) (ready done : J → ℕ → ℕ → P → Type 0) (common ended : J → ℕ → C → Type 0) (job : J) where
  abbrev V : Type 0
  V = View J

  abbrev T : Type 0
  T = St windows ready done common ended job

  abbrev L : T → Type 0
  L = Law windows ready done common ended job

  pub settle : (s : T) (r : L s) (id : ℕ) (v : V) (new half n : ℕ) (stop : Bool) (at : ℕ → Where) (ph : Phase) (homes : List (maybe.Option (Slot P C))) → get_elem? s.views id ≡ some v →
      v.job ≡ Some job → r.stop ≡ false → new ≡ word_of stop half n
      → claim windows ready done common ended job s r % 2 ^ 63 ≤ new % 2 ^ 63 → half ≤ 1000000 → n ≤ windows job → half * windows job + n ≡ r.half * windows job + r.n → length homes ≡ windows job + 1
      → ((x : ℕ) → done_once (windows job) half r.mask ph x ≡ done_once (windows job) r.half r.mask r.phase x) → InPhase windows ready done common ended job homes half n r.mask stop at ph
      → InHands (set s.views id (record v { activity = Idle; found = new })) (windows job) at ph →
      ((j : ℕ) (u : V) → j ≢ id → Knows windows job r.half r.at r.phase j u u.activity → Knows windows job half at ph j u u.activity)
      → L record { words = set s.words 0 new; homes = homes; views = set s.views id (record v { activity = Idle; found = new }) }
  settle s r id v new half n stop at ph homes there is going new_is up small most same long dones phase_is hands others =
      let m : ℕ = windows job in let c : ℕ = claim windows ready done common ended job s r in let w : V = record v { activity = Idle; found = new } in
      let low : c < 2 ^ 63 = low_claim r.stop r.half r.n going r.small (fits windows ready done common ended job s r) in
      let mine = r.each_seat id v there in
      let drawn : drawn_of new ≤ m = rw (new_is, drawn_word stop half n small (let q = r.size in omega arith)) most in
      let mine' : Seated windows job new half at ph id w =
      record {
        found_is = same_newer new;
        found_drawn = drawn;
        loaded_is = rises v.loaded c new low up (newer_trans v.loaded v.found c mine.loaded_is mine.found_is);
        loaded_drawn = mine.loaded_drawn;
        below = λ x le. mine.below x (let a = number_le m v.found new mine.found_drawn (let b = mine.found_is.0 in omega arith) in omega arith);
        job_is = subst (HasJob job w) (sym is) refl;
        knows = tt;
      } in
      record {
        half = half;
        n = n;
        stop = stop;
        mask = r.mask;
        at = at;
        phase = ph;
        words = ap (λ (l : List ℕ). set l 0 new) r.words ∙ ap (λ (z : ℕ). z ∷ r.mask ∷ []) new_is;
        mask_small = r.mask_small;
        small = small;
        most = most;
        size = r.size;
        slots = long;
        draws = λ x. let t = total_set (λ (u : V). times x u.drawn) s.views id v w there in let d = r.draws x in
            let e : once_below x (half * m + n) ≡ once_below x (r.half * m + r.n) = ap (once_below x) same in omega arith;
        dones = λ x. (let t = total_set (λ (u : V). times x u.done) s.views id v w there in
            let e : total (λ (u : V). times x u.done) (set s.views id w) ≡ total (λ (u : V). times x u.done) s.views = omega arith in e) ∙ r.dones x ∙ sym (dones x);
        in_phase = phase_is;
        in_hands = hands;
        each_seat = λ j u e. subst (λ (z : ℕ). Seated windows job z half at ph j u) new_is (set_each (Seated windows job new half at ph) s.views id w mine'
            (λ i q ne f. let old = r.each_seat i q f in
            record {
              found_is = rises q.found c new low up old.found_is;
              found_drawn = old.found_drawn;
              loaded_is = old.loaded_is;
              loaded_drawn = old.loaded_drawn;
              below = old.below;
              job_is = old.job_is;
              knows = others i q ne old.knows;
            }) j u e);
      }
