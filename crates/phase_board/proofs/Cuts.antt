-- A seat is cut in two, and two are made one.
use Rattle.std.proofs.Common.{◌≡◌, ℕ, ◌+◌, ◌≤◌, List, [], ◌∷◌, ◌++◌, set, sym, subst, refl, ap, ◌∙◌, ⊎_elim, arith, Some}
use mathlib.Core.Option.{some}
use lib.ListN.{get_elem?}
use Rattle.atomic_table.specs.Table.{Splits, Joins}
use Rattle.atomic_table.proofs.Lists.{at_snoc, at_longer, set_again, set_else}
use Rattle.phase_board.specs.declared.view.View.{View}
use Rattle.phase_board.specs.declared.view.Activity.TheVariants.{Idle}
use Rattle.phase_board.specs.ClaimWord.{drawn_of, next_number, NotNewer}
use Rattle.phase_board.specs.Numbers.{times, total}
use Rattle.phase_board.specs.Lawful.{spent_view, HasJob, Knows, Seated}
use Rattle.phase_board.specs.Steps.{twin, merged}
use Rattle.phase_board.proofs.Totals.{total_set, total_snoc, times_append}
use Rattle.phase_board.proofs.Views.{set_each, at_kept, not_idle}
use Rattle.phase_board.proofs.Words.{newer_trans, number_le}
use Rattle.phase_board.proofs.Newer.{pick_max, below_max}
use Rattle.phase_board.proofs.Rule.{St, Law, claim, reviewed}

module _ {J P C : Type 0} (windows : J → ℕ) (ready done : J → ℕ → ℕ → P → Type 0) (common ended : J → ℕ → C → Type 0) (job : J) where
  abbrev V : Type 0
  V = View J

  abbrev L : St windows ready done common ended job → Type 0
  L = Law windows ready done common ended job

  -- counts in a list of the views, where a view is added or two are merged
  module _ (part : V → List ℕ) where
    counted : (views : List V) (v : V) (x : ℕ) → part v ≡ [] → total (λ (u : V). times x (part u)) (views ++ v ∷ []) ≡ total (λ (u : V). times x (part u)) views
    counted views v x e = let t = total_snoc (λ (u : V). times x (part u)) views v in let f : times x (part v) ≡ 0 = ap (times x) e in omega arith

    moved : (views : List V) (id other : ℕ) (v w b z : V) (x : ℕ) → get_elem? views id ≡ some v → get_elem? (set views id b) other ≡ some w → part b ≡ part v ++ part w → part z ≡ []
        → total (λ (u : V). times x (part u)) (set (set views id b) other z) ≡ total (λ (u : V). times x (part u)) views
    moved views id other v w b z x at at' e f =
        let t = total_set (λ (u : V). times x (part u)) views id v b at in let t' = total_set (λ (u : V). times x (part u)) (set views id b) other w z at' in
        let a : times x (part b) ≡ times x (part v) + times x (part w) = ap (times x) e ∙ times_append x (part v) (part w) in let o : times x (part z) ≡ 0 = ap (times x) f in omega arith

  pub splits : (id : ℕ) (v : V) → v.job ≡ Some job → Splits L id v v (twin v)
  splits id v is s r at =
      let views' : List V = s.views ++ twin v ∷ [] in
      let same : views' ≡ set s.views id v ++ twin v ∷ [] = sym (ap (λ (l : List V). l ++ twin v ∷ []) (set_again s.views id v at)) in
      let old = r.each_seat id v at in
      let mine : (j : ℕ) → Seated windows job (claim windows ready done common ended job s r) r.half r.at r.phase j (twin v) = λ j.
      record {
        found_is = old.found_is;
        found_drawn = old.found_drawn;
        loaded_is = old.loaded_is;
        loaded_drawn = old.loaded_drawn;
        below = λ x le. refl;
        job_is = subst (HasJob job (twin v)) (sym is) refl;
        knows = tt;
      } in
      subst (λ (l : List V). L record { words = s.words; homes = s.homes; views = l }) same
      (reviewed windows ready done common ended job s r views' (λ x. counted (λ u. u.drawn) s.views (twin v) x refl) (λ x. counted (λ u. u.done) s.views (twin v) x refl)
      (λ j x ne h. (h.0, at_longer s.views (twin v ∷ []) j h.0 h.1, h.2))
      (λ j u e. ⊎_elim (λ (was : get_elem? s.views j ≡ some u). r.each_seat j u was)
      (λ (new : twin v ≡ u). subst (Seated windows job (claim windows ready done common ended job s r) r.half r.at r.phase j) new (mine j))
      (at_snoc s.views (twin v) u j e)))

  pub joins : (id : ℕ) (v : V) (other : ℕ) (w : V) → v.job ≡ Some job → v.activity ≡ Idle → w.activity ≡ Idle → Joins L id v other w (merged v w) spent_view
  joins id v other w is rests rests' s r at apart at' =
      let m : ℕ = windows job in let c : ℕ = claim windows ready done common ended job s r in let S : ℕ → V → Type 0 = Seated windows job c r.half r.at r.phase in
      let both : V = merged v w in let mid : List V = set s.views id both in
      let mine = r.each_seat id v at in let theirs = r.each_seat other w (sym (set_else s.views id other both apart) ∙ at') in
      let ups = below_max v.found w.found c mine.found_is theirs.found_is in
      let up_v : next_number m v.found ≤ next_number m both.found = number_le m v.found both.found mine.found_drawn ups.0.0 in
      let up_w : next_number m w.found ≤ next_number m both.found = number_le m w.found both.found theirs.found_drawn ups.1.0 in
      let seat_both : S id both =
      record {
        found_is = pick_max v.found w.found (λ z. NotNewer z c) (λ _. mine.found_is) (λ _. theirs.found_is);
        found_drawn = pick_max v.found w.found (λ z. drawn_of z ≤ m) (λ _. mine.found_drawn) (λ _. theirs.found_drawn);
        loaded_is = newer_trans v.loaded v.found both.found mine.loaded_is ups.0;
        loaded_drawn = mine.loaded_drawn;
        below = λ x le. let a : times x v.drawn ≡ 0 = mine.below x (omega arith) in let b : times x w.drawn ≡ 0 = theirs.below x (omega arith) in times_append x v.drawn w.drawn ∙ (omega arith);
        job_is = subst (HasJob job both) (sym is) refl;
        knows = subst (Knows windows job r.half r.at r.phase id both) (sym rests) tt;
      } in
      let seat_spent : S other spent_view =
      record {
        found_is = (omega arith, λ h. absurd (omega arith));
        found_drawn = omega arith;
        loaded_is = (omega arith, λ _. refl);
        loaded_drawn = omega arith;
        below = λ x le. refl;
        job_is = refl;
        knows = tt;
      } in
      reviewed windows ready done common ended job s r (set mid other spent_view) (λ x. moved (λ u. u.drawn) s.views id other v w both spent_view x at at' refl refl)
      (λ x. moved (λ u. u.done) s.views id other v w both spent_view x at at' refl refl)
      (λ j x ne h. at_kept mid other w spent_view j x at' (not_idle w x rests' ne) (at_kept s.views id v both j x at (not_idle v x rests ne) h))
      (set_each S mid other spent_view seat_spent (λ j u ne e. set_each S s.views id both seat_both (λ i q d f. r.each_seat i q f) j u e))
