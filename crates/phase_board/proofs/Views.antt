-- Lists of views, where one view changes.
use Rattle.std.proofs.Common.{◌≡◌, ◌≢◌, ℕ, zero, suc, List, [], ◌∷◌, set, sym, subst, ap, ◌∙◌, ⊎_elim}
use mathlib.Core.Option.{some, some-injective, some-ne-none}
use lib.ListN.{get_elem?}
use Rattle.atomic_table.proofs.Lists.{at_set, set_else}
use Rattle.phase_board.specs.declared.view.View.{View}
use Rattle.phase_board.specs.declared.view.Activity.{Activity}
use Rattle.phase_board.specs.declared.view.Activity.TheVariants.{Idle, Working, Turning, Reset}
use Rattle.phase_board.specs.Lawful.{Where, Phase, running, turning, resetting, stopped, IsAt, InHands}

module _ {A : Type 0} where
  pub set_there : (l : List A) (i : ℕ) (a b : A) → get_elem? l i ≡ some a → get_elem? (set l i b) i ≡ some b
  set_there [] i a b e = absurd (some-ne-none a (sym e))
  set_there (x ∷ xs) zero a b e = λ _. some b
  set_there (x ∷ xs) (suc i) a b e = set_there xs i a b e

  -- what holds of the new element and of each other one holds of all
  pub set_each : (F : ℕ → A → Type 0) (l : List A) (i : ℕ) (a : A) → F i a → ((j : ℕ) (b : A) → j ≢ i → get_elem? l j ≡ some b → F j b) → (j : ℕ) (b : A) → get_elem? (set l i a) j ≡ some b → F j b
  set_each F l i a mine others j b e = ⊎_elim (λ (q : (j ≡ i) × (a ≡ b)). subst (F j) q.1 (subst (λ (k : ℕ). F k a) (sym q.0) mine))
      (λ (q : (j ≢ i) × (get_elem? l j ≡ some b)). others j b q.0 q.1) (at_set l i j a b e)

module _ {J : Type 0} where
  pub at_here : (views : List (View J)) (id : ℕ) (v w : View J) (x : Activity) → get_elem? views id ≡ some v → w.activity ≡ x → IsAt (set views id w) id x
  at_here views id v w x at is = (w, set_there views id v w at, is)

  -- a seat that is at another activity than the one that changes keeps it
  pub at_kept : (views : List (View J)) (id : ℕ) (v w : View J) (j : ℕ) (x : Activity) → get_elem? views id ≡ some v → v.activity ≢ x → IsAt views j x → IsAt (set views id w) j x
  at_kept views id v w j x at ne h = (h.0, set_else views id j w apart ∙ h.1, h.2)
    where
      apart : j ≢ id
      apart e = let same : get_elem? views j ≡ some v = ap (get_elem? views) e ∙ at in ne (ap (λ (u : View J). u.activity) (sym (some-injective h.0 v (sym h.1 ∙ same))) ∙ h.2)

  pub not_idle : (v : View J) (x : Activity) → v.activity ≡ Idle → x ≢ Idle → v.activity ≢ x
  not_idle v x is ne e = ne (sym e ∙ is)

  pub hands : (views views' : List (View J)) (m : ℕ) (at : ℕ → Where) → ((j : ℕ) (x : Activity) → x ≢ Idle → IsAt views j x → IsAt views' j x) → (ph : Phase) → InHands views m at ph →
      InHands views' m at ph
  hands views views' m at keep running h = λ t j l e. keep j (Working t) (λ q. cc) (h t j l e)
  hands views views' m at keep (turning j) h = keep j Turning (λ q. cc) h
  hands views views' m at keep (resetting j) h = keep j Reset (λ q. cc) h
  hands views views' m at keep stopped h = tt
