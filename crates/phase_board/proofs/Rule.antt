-- The rule in short, and what it says of each seat.
use Rattle.std.proofs.Common.{◌≡◌, ◌≢◌, ℕ, ◌+◌, ◌*◌, ◌≤◌, List, slice_index, ap, ◌∙◌, arith}
use mathlib.Core.Option.{some}
use lib.ListN.{get_elem?}
use Rattle.atomic_table.specs.Table.{State}
use Rattle.phase_board.specs.declared.view.View.{View}
use Rattle.phase_board.specs.declared.view.Slot.{Slot}
use Rattle.phase_board.specs.declared.view.Activity.{Activity}
use Rattle.phase_board.specs.declared.view.Activity.TheVariants.{Idle}
use Rattle.phase_board.specs.ClaimWord.{word_of}
use Rattle.phase_board.specs.Numbers.{times, total}
use Rattle.phase_board.specs.Lawful.{IsAt, Seated, Lawful}
use Rattle.phase_board.specs.Steps.{DrawnOnce}
use Rattle.phase_board.proofs.Totals.{part_of_total, once_small}
use Rattle.phase_board.proofs.Views.{hands}

module _ {J P C : Type 0} (windows : J → ℕ) (ready done : J → ℕ → ℕ → P → Type 0) (common ended : J → ℕ → C → Type 0) (job : J) where
  abbrev pub St : Type 0
  St = State (Slot P C) (View J)

  abbrev pub Law : St → Type 0
  Law = Lawful windows ready done common ended job

  abbrev pub claim : (s : St) → Law s → ℕ
  claim s r = word_of r.stop r.half r.n

  pub claim_is : (s : St) (r : Law s) → slice_index s.words 0 ≡ claim s r
  claim_is s r = ap (λ (l : List ℕ). slice_index l 0) r.words

  pub fits : (s : St) (r : Law s) → r.n ≤ 64
  fits s r = let a = r.most in let b = r.size in omega arith

  pub drawn_once : (s : St) → Law s → (j : ℕ) (v : View J) → get_elem? s.views j ≡ some v → DrawnOnce (windows job) v
  drawn_once s r j v at = (
    λ x. let a = part_of_total (λ (u : View J). times x u.drawn) s.views j v at in let b = r.draws x in let c = once_small x (r.half * windows job + r.n) in omega arith,
    (r.each_seat j v at).below,
  )

  -- only views change
  pub reviewed : (s : St) (r : Law s) (views : List (View J)) → ((x : ℕ) → total (λ (u : View J). times x u.drawn) views ≡ total (λ (u : View J). times x u.drawn) s.views)
      → ((x : ℕ) → total (λ (u : View J). times x u.done) views ≡ total (λ (u : View J). times x u.done) s.views) → ((j : ℕ) (x : Activity) → x ≢ Idle → IsAt s.views j x → IsAt views j x)
      → ((j : ℕ) (v : View J) → get_elem? views j ≡ some v → Seated windows job (claim s r) r.half r.at r.phase j v) → Law record { words = s.words; homes = s.homes; views = views }
  reviewed s r views drawn did keep seats =
      record {
        half = r.half;
        n = r.n;
        stop = r.stop;
        mask = r.mask;
        at = r.at;
        phase = r.phase;
        words = r.words;
        mask_small = r.mask_small;
        small = r.small;
        most = r.most;
        size = r.size;
        slots = r.slots;
        draws = λ x. drawn x ∙ r.draws x;
        dones = λ x. did x ∙ r.dones x;
        in_phase = r.in_phase;
        in_hands = hands s.views views (windows job) r.at keep r.phase r.in_hands;
        each_seat = seats;
      }
