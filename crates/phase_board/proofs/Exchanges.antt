-- The exchange of a claim keeps the rule, whatever word it finds.
use Rattle.std.proofs.Common.{◌≡◌, ◌≢◌, ℕ, ◌+◌, ◌^◌, ◌<◌, [], slice_index, eqb, sym, subst, refl, ap, ◌∙◌, arith, Some}
use mathlib.Core.Option.{none}
use prog.Atomic.{either}
use Rattle.atomic_table.specs.Table.{Me, Act, step, keeps, Allows, Valid, carried_after, stepped}
use Rattle.atomic_table.proofs.Lists.{exchanged}
use Rattle.phase_board.specs.declared.view.View.{View}
use Rattle.phase_board.specs.declared.view.Slot.{Slot}
use Rattle.phase_board.specs.declared.view.Activity.TheVariants.{Idle}
use Rattle.phase_board.specs.ClaimWord.{drawn_of, NotNewer}
use Rattle.phase_board.specs.Steps.{IsFor, drew}
use Rattle.phase_board.proofs.Words.{drawn_word, newer_trans}
use Rattle.phase_board.proofs.Rule.{St, Law, claim, claim_is, fits}
use Rattle.phase_board.proofs.Looks.{stays}
use Rattle.phase_board.proofs.Draws.{draws_one}

module _ {J P C : Type 0} (windows : J → ℕ) (ready done : J → ℕ → ℕ → P → Type 0) (common ended : J → ℕ → C → Type 0) (job : J) where
  abbrev V : Type 0
  V = View J

  abbrev S : Type 0
  S = Slot P C

  abbrev T : Type 0
  T = St windows ready done common ended job

  abbrev L : T → Type 0
  L = Law windows ready done common ended job

  abbrev Goes : T → ℕ → Me S V → (ℕ → Me S V → Type 0) → ℕ → Type 0
  Goes s id me tells new = (w : V) × (a : Act S) × Valid s.homes me.1 a × L (stepped s 0 new id me.1 w a) × tells (slice_index s.words 0) (w, carried_after me.1 a)

  pub exchanges : (slots id : ℕ) (me : Me S V) (old new : ℕ) → me.0.job ≡ Some job → me.0.activity ≡ Idle → me.1 ≡ [] → me.0.loaded ≡ old → me.0.found ≡ old → old < 2 ^ 63 →
      drawn_of old ≢ windows job → new ≡ old + 1
      → Allows L slots id me 0 (λ n. either (eqb n old) new n) (drew windows ready (step slots 0 old new none) me)
  exchanges slots id me old new is rests free seen found low more next s r wide at small =
      let y : ℕ = slice_index s.words 0 in let c : ℕ = claim windows ready done common ended job s r in let c_is : y ≡ c = claim_is windows ready done common ended job s r in
      exchanged y old new (Goes s id me (drew windows ready (step slots 0 old new none) me))
      (λ (hit : y ≡ old). let now : old ≡ c = sym hit ∙ c_is in
      let got = draws_one windows ready done common ended job s r id me at is rests free (seen ∙ now) (found ∙ now) (subst (λ (z : ℕ). z < 2 ^ 63) now low)
      (λ e. more (ap drawn_of now ∙ (drawn_word r.stop r.half r.n r.small (fits windows ready done common ended job s r) ∙ e))) in
      let e : c + 1 ≡ new = (let q = next in omega arith) in (
        got.0,
        got.1,
        got.2,
        subst (λ (z : ℕ). L (stepped s 0 z id me.1 got.0 got.1)) e got.3,
        subst (IsFor _) (sym is) ((λ _. got.4), λ miss. absurd (miss hit)),
      ))
      (λ (miss : y ≢ old). let w : V = record me.0 { found = y } in let mine = r.each_seat id me.0 at in
      let older : NotNewer me.0.loaded y = subst (NotNewer me.0.loaded) (sym c_is) (newer_trans me.0.loaded me.0.found c mine.loaded_is mine.found_is) in
      let law = stays windows ready done common ended job s r id me.0 w at rests rests refl refl is is refl older mine.loaded_drawn in (
        w,
        keeps,
        tt,
        law.0,
        subst (IsFor _) (sym is) ((λ hit. absurd (miss hit)), λ _. (refl, law.1)),
      ))
