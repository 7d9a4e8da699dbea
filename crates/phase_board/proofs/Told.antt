-- What a finish told, in terms of the seat before its piece was put back.
use Rattle.std.proofs.Common.{◌≡◌, ◌≢◌, ℕ, ◌+◌, ◌-◌, ◌^◌, List, [], ◌∷◌, sym, subst, ap, ◌∙◌, arith, Some}
use mathlib.Core.Option.{none}
use Rattle.std.specs.Int.Bits.{bit_or}
use Rattle.atomic_table.specs.Table.{Me, step, rest}
use Rattle.phase_board.specs.declared.view.View.{View}
use Rattle.phase_board.specs.declared.view.Slot.{Slot}
use Rattle.phase_board.specs.declared.view.Slot.TheVariants.{Empty, Piece}
use Rattle.phase_board.specs.declared.view.Activity.TheVariants.{Working, Turning}
use Rattle.phase_board.specs.ClaimWord.{half_of}
use Rattle.phase_board.specs.Slots.{AllOut}
use Rattle.phase_board.specs.Steps.{IsFor, after_finish, finished, HasOthers, LacksAnother}

module _ {J P C : Type 0} where
  -- the seat k after its finish of window w, where the mask lacked another: the view before was v
  abbrev pub GaveBack : (windows w : ℕ) → View J → Me (Slot P C) (View J) → Type 0
  GaveBack windows w v k = (k.1 ≡ []) × (k.0 ≡ after_finish windows w k.0.mask v) × LacksAnother windows w k.0.mask

  -- and where it lacked none: the seat turns, and has everything
  abbrev pub HasEverything : (windows w : ℕ) → (C → Type 0) → (ℕ → P → Type 0) → View J → Me (Slot P C) (View J) → Type 0
  HasEverything windows w common done v k = (k.0 ≡ record (after_finish windows w k.0.mask v) { activity = Turning })
      × HasOthers windows w k.0.mask × AllOut windows common done k.1

module _ {J P C : Type 0} (windows : J → ℕ) (done : J → ℕ → ℕ → P → Type 0) (common : J → ℕ → C → Type 0) (job : J) (slots count w bit old : ℕ) (p : P) (v : View J) (c : List (ℕ × Slot P C))
    (me k : Me (Slot P C) (View J))
    (put : me ≡ (v, (w + 1, Piece p) ∷ rest c)) (is : v.job ≡ Some job) (works : v.activity ≡ Working w) (size : slots ≡ count + 1)
    (told : finished windows done common (step slots 1 bit 0 none) me old k) where
  abbrev Told : View J → List (ℕ × Slot P C) → Type 0
  Told u d = (windows job + 1 ≡ slots)
      × ((t : ℕ) → u.activity ≡ Working t →
      (bit_or old bit ≢ 2 ^ windows job - 1 → (k ≡ (after_finish (windows job) t old u, rest d)) × LacksAnother (windows job) t old)
      × (bit_or old bit ≡ 2 ^ windows job - 1 →
      (k.0 ≡ record (after_finish (windows job) t old u) { activity = Turning }) × HasOthers (windows job) t old
      × AllOut (windows job) (common job (half_of u.loaded)) (done job (half_of u.loaded)) k.1))

  here : Told v ((w + 1, Piece p) ∷ rest c)
  here = subst (λ (m : Me (Slot P C) (View J)). Told m.0 m.1) put (subst (IsFor (λ j. (windows j + 1 ≡ slots)
      × ((t : ℕ) → me.0.activity ≡ Working t →
      (bit_or old bit ≢ 2 ^ windows j - 1 → (k ≡ (after_finish (windows j) t old me.0, rest me.1)) × LacksAnother (windows j) t old)
      × (bit_or old bit ≡ 2 ^ windows j - 1 → (k.0 ≡ record (after_finish (windows j) t old me.0) { activity = Turning }) × HasOthers (windows j) t old
      × AllOut (windows j) (common j (half_of me.0.loaded)) (done j (half_of me.0.loaded)) k.1))))
      (ap (λ (m : Me (Slot P C) (View J)). m.0.job) put ∙ is) told)

  pub counted : windows job ≡ count
  counted = let a = here.0 in omega arith

  pub given_is : c ≡ (w + 1, Empty) ∷ [] → bit_or old bit ≢ 2 ^ count - 1 → GaveBack (windows job) w v k
  given_is one ne =
      let g = (here.1 w works).0 (λ e. ne (e ∙ ap (λ (n : ℕ). 2 ^ n - 1) counted)) in let mask : old ≡ k.0.mask = sym (ap (λ (m : Me (Slot P C) (View J)). m.0.mask) g.0) in (
        ap (λ (m : Me (Slot P C) (View J)). m.1) g.0 ∙ ap rest one,
        ap (λ (m : Me (Slot P C) (View J)). m.0) g.0 ∙ ap (λ (z : ℕ). after_finish (windows job) w z v) mask,
        subst (LacksAnother (windows job) w) mask g.1,
      )

  pub last_is : bit_or old bit ≡ 2 ^ count - 1 → HasEverything (windows job) w (common job (half_of v.loaded)) (done job (half_of v.loaded)) v k
  last_is e =
      let g = (here.1 w works).1 (e ∙ ap (λ (n : ℕ). 2 ^ n - 1) (sym counted)) in let mask : old ≡ k.0.mask = sym (ap (λ (u : View J). u.mask) g.0) in
      (g.0 ∙ ap (λ (z : ℕ). let u : View J = record (after_finish (windows job) w z v) { activity = Turning } in u) mask, subst (HasOthers (windows job) w) mask g.1, g.2)
