-- What each step tells its seat: of the seat m before, the word r that was found, and the seat k after.
use Rattle.std.specs.Prelude.{◌≡◌, ◌≢◌, ℕ, max, ◌+◌, ◌-◌, ◌*◌, ◌<◌, ◌≤◌, ◌^◌, [], ◌∷◌, ◌++◌, Option, Some, None}
use Rattle.std.specs.Int.{bit_at}
use Rattle.std.specs.Int.Bits.{bit_or}
use Rattle.atomic_table.specs.Table.{Me, Step, rest}
use Rattle.phase_board.specs.declared.view.View.{View}
use Rattle.phase_board.specs.declared.view.Slot.{Slot}
use Rattle.phase_board.specs.declared.view.Slot.TheVariants.{Piece}
use Rattle.phase_board.specs.declared.view.Activity.TheVariants.{Idle, Working, Turning, Reset}
use Rattle.phase_board.specs.ClaimWord.{half_of, drawn_of, next_number, NotNewer}
use Rattle.phase_board.specs.Numbers.{AllBelow, NoneTwice}
use Rattle.phase_board.specs.Slots.{AllOut}

-- the mask has the bit of each window but t
abbrev pub HasOthers : ℕ → ℕ → ℕ → Type 0
HasOthers windows t mask = (i : ℕ) → i < windows → i ≢ t → bit_at mask i ≡ 1

-- it lacks the bit of a window that isn't t
abbrev pub LacksAnother : ℕ → ℕ → ℕ → Type 0
LacksAnother windows t mask = (i : ℕ) × (i < windows) × (i ≢ t) × (bit_at mask i ≡ 0)

module _ {J : Type 0} where
  -- the job of a view, where it has one
  abbrev pub IsFor : (J → Type 0) → Option J → Type 0
  IsFor F None = ⊥
  IsFor F (Some j) = F j

  -- the drawn list has no number twice, and only those below the next one of the found word
  abbrev pub DrawnOnce : ℕ → View J → Type 0
  DrawnOnce windows v = NoneTwice v.drawn × AllBelow (next_number windows v.found) v.drawn

  -- the view after a look that found w
  abbrev pub after_look : View J → ℕ → View J
  after_look v w = record v { loaded = w; found = w; looks = v.looks + 1 }

  -- the view after a draw of the window that the loaded word gives
  abbrev pub after_draw : ℕ → View J → View J
  after_draw windows v = record v {
    activity = Working (drawn_of v.loaded);
    drawn = v.drawn ++ next_number windows v.loaded ∷ [];
    found = v.loaded + 1;
  }

  -- the view after window t was marked in the mask r
  abbrev pub after_finish : ℕ → ℕ → ℕ → View J → View J
  after_finish windows t r v = record v {
    activity = Idle;
    done = v.done ++ (half_of v.loaded * windows + t) ∷ [];
    mask = r;
  }

  -- a look: nothing but the words seen and the number of looks
  abbrev pub looked : {S : Type 0} → (J → ℕ) → Step S → Me S (View J) → ℕ → Me S (View J) → Type 0
  looked windows st m r k = (k ≡ (after_look m.0 r, m.1)) × NotNewer m.0.found r
      × IsFor (λ j. (windows j + 1 ≡ st.slots) × (windows j ≤ 64) × (drawn_of r ≤ windows j)
      × (half_of r ≤ 1000000) × DrawnOnce (windows j) (after_look m.0 r)) m.0.job

  abbrev pub Draws : {P C : Type 0} → (J → ℕ) → (J → ℕ → ℕ → P → Type 0) → J → Me (Slot P C) (View J)
      → Me (Slot P C) (View J) → Type 0
  Draws {P} {C} windows ready j m k = (p : P)
      × (k ≡ (after_draw (windows j) m.0, (drawn_of m.0.loaded + 1, Piece p) ∷ m.1))
      × ready j (half_of m.0.loaded) (drawn_of m.0.loaded) p
      × AllBelow (next_number (windows j) m.0.loaded) m.0.drawn
      × DrawnOnce (windows j) (after_draw (windows j) m.0)

  -- a claim: where the exchange found the loaded word, the piece of the next window comes out
  abbrev pub drew : {P C : Type 0} → (J → ℕ) → (J → ℕ → ℕ → P → Type 0) → Step (Slot P C)
      → Me (Slot P C) (View J) → ℕ → Me (Slot P C) (View J) → Type 0
  drew windows ready st m r k = IsFor (λ j. (r ≡ st.first → Draws windows ready j m k)
      × (r ≢ st.first → (k ≡ (record m.0 { found = r }, m.1))
      × DrawnOnce (windows j) (record m.0 { found = r }))) m.0.job

  -- a finish of window t: where its bit was the last, all pieces and the common value come out
  abbrev pub finished : {P C : Type 0} → (J → ℕ) → (J → ℕ → ℕ → P → Type 0) → (J → ℕ → C → Type 0)
      → Step (Slot P C) → Me (Slot P C) (View J) → ℕ → Me (Slot P C) (View J) → Type 0
  finished windows done common st m r k = IsFor (λ j. (windows j + 1 ≡ st.slots)
      × ((t : ℕ) → m.0.activity ≡ Working t →
      (bit_or r st.first ≢ 2 ^ windows j - 1 → (k ≡ (after_finish (windows j) t r m.0, rest m.1))
      × LacksAnother (windows j) t r)
      × (bit_or r st.first ≡ 2 ^ windows j - 1
      → (k.0 ≡ record (after_finish (windows j) t r m.0) { activity = Turning }) × HasOthers (windows j) t r
      × AllOut (windows j) (common j (half_of m.0.loaded)) (done j (half_of m.0.loaded)) k.1))) m.0.job

  -- a reset of the mask, before a turn
  abbrev pub cleared : {S : Type 0} → (J → ℕ) → Step S → Me S (View J) → ℕ → Me S (View J) → Type 0
  cleared windows st m r k = (k ≡ (record m.0 { activity = Reset }, m.1))
      × IsFor (λ j. windows j + 1 ≡ st.slots) m.0.job

  -- a turn or a stop: all slots come home
  abbrev pub settled : {S : Type 0} → (J → ℕ) → Step S → Me S (View J) → ℕ → Me S (View J) → Type 0
  settled windows st m r k = (k ≡ (record m.0 { activity = Idle; found = st.first }, []))
      × IsFor (λ j. windows j + 1 ≡ st.slots) m.0.job

  -- what a new seat starts with that is split off
  abbrev pub twin : View J → View J
  twin v = record {
    job = v.job;
    activity = Idle;
    drawn = [];
    done = [];
    loaded = v.loaded;
    found = v.found;
    looks = 0;
    mask = 0;
  }

  -- a seat that took in another's lists and the newer of the two words
  abbrev pub merged : View J → View J → View J
  merged v w = record v { drawn = v.drawn ++ w.drawn; done = v.done ++ w.done; found = max v.found w.found }
