-- A look keeps the rule, and so does an exchange that found another word.
use Rattle.std.proofs.Common.{◌≡◌, ℕ, ◌≤◌, List, slice_index, set, sym, subst, refl, ap, ◌∙◌, arith, Some}
use mathlib.Core.Option.{some, none}
use lib.ListN.{get_elem?}
use Rattle.atomic_table.specs.Table.{Me, step, keeps, Allows}
use Rattle.phase_board.specs.declared.view.View.{View}
use Rattle.phase_board.specs.declared.view.Slot.{Slot}
use Rattle.phase_board.specs.declared.view.Activity.TheVariants.{Idle}
use Rattle.phase_board.specs.ClaimWord.{half_of, drawn_of, next_number, NotNewer}
use Rattle.phase_board.specs.Numbers.{times}
use Rattle.phase_board.specs.Lawful.{Knows, Seated, HasJob}
use Rattle.phase_board.specs.Steps.{IsFor, DrawnOnce, after_look, looked}
use Rattle.phase_board.proofs.Totals.{total_set}
use Rattle.phase_board.proofs.Views.{set_there, set_each, at_kept, not_idle}
use Rattle.phase_board.proofs.Words.{half_word, drawn_word, same_newer, number_le}
use Rattle.phase_board.proofs.Rule.{St, Law, claim, claim_is, fits, drawn_once, reviewed}

module _ {J P C : Type 0} (windows : J → ℕ) (ready done : J → ℕ → ℕ → P → Type 0) (common ended : J → ℕ → C → Type 0) (job : J) where
  abbrev V : Type 0
  V = View J

  abbrev T : Type 0
  T = St windows ready done common ended job

  abbrev L : T → Type 0
  L = Law windows ready done common ended job

  -- the seat has seen the claim word, and nothing else changes
  abbrev pub after : T → ℕ → V → T
  after s id w = record { words = set s.words 0 (slice_index s.words 0); homes = s.homes; views = set s.views id w }

  pub stays : (s : T) (r : L s) (id : ℕ) (v w : V) → get_elem? s.views id ≡ some v → v.activity ≡ Idle → w.activity ≡ Idle → w.drawn ≡ v.drawn → w.done ≡ v.done → v.job ≡ Some job → w.job ≡ Some job →
      w.found ≡ slice_index s.words 0
      → NotNewer w.loaded w.found → drawn_of w.loaded ≤ windows job → L (after s id w) × DrawnOnce (windows job) w
  stays s r id v w at rests rests' same same' has has' sees older within =
      let c : ℕ = claim windows ready done common ended job s r in
      let c_is : slice_index s.words 0 ≡ c = claim_is windows ready done common ended job s r in
      let mine = r.each_seat id v at in
      let more : next_number (windows job) v.found ≤ next_number (windows job) c = number_le (windows job) v.found c mine.found_drawn mine.found_is.0 in
      let is : w.found ≡ c = sees ∙ c_is in
      let mine' : Seated windows job c r.half r.at r.phase id w =
      record {
        found_is = subst (λ (z : ℕ). NotNewer z c) (sym is) (same_newer c);
        found_drawn = rw (is, drawn_word r.stop r.half r.n r.small (fits windows ready done common ended job s r)) r.most;
        loaded_is = older;
        loaded_drawn = within;
        below = λ x le. let e : next_number (windows job) w.found ≡ next_number (windows job) c = ap (next_number (windows job)) is in ap (times x) same ∙ mine.below x (omega arith);
        job_is = subst (HasJob job w) (sym has') refl;
        knows = subst (Knows windows job r.half r.at r.phase id w) (sym rests') tt;
      } in
      let again : s.words ≡ set s.words 0 (slice_index s.words 0) = r.words ∙ sym (ap (λ (l : List ℕ). set l 0 (slice_index l 0)) r.words) in
      let law : L record { words = s.words; homes = s.homes; views = set s.views id w } =
      reviewed windows ready done common ended job s r (set s.views id w)
      (λ x. let t = total_set (λ (u : V). times x u.drawn) s.views id v w at in let e : times x w.drawn ≡ times x v.drawn = ap (times x) same in omega arith)
      (λ x. let t = total_set (λ (u : V). times x u.done) s.views id v w at in let e : times x w.done ≡ times x v.done = ap (times x) same' in omega arith)
      (λ j x ne. at_kept s.views id v w j x at (not_idle v x rests ne)) (set_each (Seated windows job c r.half r.at r.phase) s.views id w mine' (λ j u ne e. r.each_seat j u e)) in
      let law' : L (after s id w) = subst (λ (l : List ℕ). L record { words = l; homes = s.homes; views = set s.views id w }) again law in
      (law', drawn_once windows ready done common ended job (after s id w) law' id w (set_there s.views id v w at))

  pub looks : (slots id : ℕ) (me : Me (Slot P C) V) → me.0.job ≡ Some job → me.0.activity ≡ Idle → Allows L slots id me 0 (λ n. n) (looked windows (step slots 0 0 0 none) me)
  looks slots id me is rests s r wide at small =
      let y : ℕ = slice_index s.words 0 in
      let c_is : y ≡ claim windows ready done common ended job s r = claim_is windows ready done common ended job s r in
      let w : V = after_look me.0 y in
      let size : r.n ≤ 64 = fits windows ready done common ended job s r in
      let drawn : drawn_of y ≤ windows job = rw (c_is, drawn_word r.stop r.half r.n r.small size) r.most in
      let half : half_of y ≤ 1000000 = rw (c_is, half_word r.stop r.half r.n r.small size) r.small in
      let law = stays s r id me.0 w at rests rests refl refl is is refl (same_newer y) drawn in (
        w,
        keeps,
        tt,
        law.0,
        (refl, subst (NotNewer me.0.found) (sym c_is) (r.each_seat id me.0 at).found_is, subst (IsFor _) (sym is) (sym r.slots ∙ wide, r.size, drawn, half, law.1)),
      )
