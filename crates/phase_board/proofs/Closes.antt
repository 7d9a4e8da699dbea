-- What the rule says of a stopped board.
use Rattle.std.proofs.Common.{◌≡◌, ℕ, suc, ◌+◌, ◌*◌, ◌<◌, ◌≤◌, [], List, length, Bool, true, false, sym, subst, refl, ap, ◌∙◌, arith}
use Rattle.std.specs.Prelude.{Vec}
use Rattle.std.specs.declared.alloc.Global.{Global}
use mathlib.Core.Option.{some}
use lib.ListN.{get_elem?}
use Rattle.atomic_table.specs.Table.{Seen, Final}
use Rattle.phase_board.specs.declared.view.View.{View}
use Rattle.phase_board.specs.declared.view.Slot.{Slot}
use Rattle.phase_board.specs.declared.view.Slot.TheVariants.{Empty, Common}
use Rattle.phase_board.specs.ClaimWord.{half_of, word_of, IsStopped}
use Rattle.phase_board.specs.Numbers.{once_below}
use Rattle.phase_board.specs.Lawful.{Phase, running, turning, resetting, stopped, InPhase, done_once}
use Rattle.phase_board.specs.Steps.{DrawnOnce}
use Rattle.phase_board.specs.Closings.{StoppedState}
use Rattle.phase_board.proofs.Dones.{all_marked, next_half}
use Rattle.phase_board.proofs.Words.{half_word}
use Rattle.phase_board.proofs.Rule.{St, Law, claim, fits, drawn_once}

is_set : (stop : Bool) (h n : ℕ) → h ≤ 1000000 → n ≤ 64 → IsStopped (word_of stop h n) → stop ≡ true
is_set true h n a b s = refl
is_set false h n a b s = absurd (omega arith)

module _ {J P C : Type 0} (windows : J → ℕ) (ready done : J → ℕ → ℕ → P → Type 0) (common ended : J → ℕ → C → Type 0) (job : J) where
  abbrev S : Type 0
  S = Slot P C

  over : (s : St windows ready done common ended job) (r : Law windows ready done common ended job s) (ph : Phase) →
      InPhase windows ready done common ended job s.homes r.half r.n r.mask r.stop r.at ph → r.stop ≡ true → ph ≡ stopped
  over s r running q e = let f : false ≡ true = sym q.0 ∙ e in cc
  over s r (turning j) q e = let f : false ≡ true = sym q.0 ∙ e in cc
  over s r (resetting j) q e = let f : false ≡ true = sym q.0 ∙ e in cc
  over s r stopped q e = refl

  -- in the last state a seat that found a stopped word has seen all of it, and the slots of the pieces are empty
  pub closes : (s : St windows ready done common ended job) (id : ℕ) (v : View J) → Seen (Law windows ready done common ended job) id v s → IsStopped v.found
      → ((c : C) × (room : Vec P Global) × (get_elem? s.homes 0 ≡ some (some (Common c room))) × ended job (half_of v.found) c × (room.items ≡ [])
      × StoppedState windows ready done common ended job (half_of v.found) id v c s)
      × ((t : ℕ) → t < windows job → get_elem? s.homes (suc t) ≡ some (some Empty)) × (half_of v.found ≤ 1000000) × DrawnOnce (windows job) v
  closes s id v seen says =
      let r = seen.0 in let m : ℕ = windows job in let mine = r.each_seat id v seen.1 in
      let c : ℕ = claim windows ready done common ended job s r in
      let size : r.n ≤ 64 = fits windows ready done common ended job s r in
      let is : v.found ≡ c = mine.found_is.1 says in
      let set : r.stop ≡ true = is_set r.stop r.half r.n r.small size (subst IsStopped is says) in
      let ph : r.phase ≡ stopped = over s r r.phase r.in_phase set in
      let now : InPhase windows ready done common ended job s.homes r.half r.n r.mask r.stop r.at stopped = subst (InPhase windows ready done common ended job s.homes r.half r.n r.mask r.stop r.at) ph
      r.in_phase in
      let half : half_of v.found ≡ r.half = ap half_of is ∙ half_word r.stop r.half r.n r.small size in
      let count : (half_of v.found + 1) * m ≡ r.half * m + r.n = ap (λ (h : ℕ). (h + 1) * m) half ∙ (let a = next_half r.half m in let b = now.1 in omega arith) in
      let full : r.half * m + m ≡ (half_of v.found + 1) * m = (let b = now.1 in omega arith) in (
        (
          now.4.0,
          now.4.1,
          now.4.2,
          subst (λ (h : ℕ). ended job h now.4.0) (sym half) now.4.3.0,
          now.4.3.1,
          record {
            lawful = r;
            over = ph;
            half = sym half;
            seat = seen.1;
            value = (now.4.1, now.4.2);
            draws = λ x. r.draws x ∙ ap (once_below x) (sym count);
            dones = λ x. r.dones x ∙ ap (λ (z : Phase). done_once m r.half r.mask z x) ph ∙ all_marked (r.half * m) m r.mask x r.mask_small now.2 ∙ ap (once_below x) full;
          },
        ),
        now.3,
        (let a = r.small in omega arith),
        drawn_once windows ready done common ended job s r id v seen.1,
      )

  -- the same of the values that come out of the slots
  pub closed_slots : (ws : List ℕ) (xs : List S) (id : ℕ) (v : View J) → Final (Seen (Law windows ready done common ended job) id v) ws xs → IsStopped v.found
      → ((c : C) × (room : Vec P Global) × (get_elem? xs 0 ≡ some (Common c room)) × ended job (half_of v.found) c × (room.items ≡ [])
      × ((s : St windows ready done common ended job) × StoppedState windows ready done common ended job (half_of v.found) id v c s))
      × ((t : ℕ) → t < windows job → get_elem? xs (suc t) ≡ some Empty) × (windows job + 1 ≡ length xs) × (half_of v.found ≤ 1000000) × DrawnOnce (windows job) v
  closed_slots ws xs id v last says =
      let t = closes last.0 id v last.1 says in let size = last.1.0.slots in
      ((t.0.0, t.0.1, last.4 0 (Common t.0.0 t.0.1) t.0.2, t.0.3, t.0.4, (last.0, t.0.5)), (λ k l. last.4 (suc k) Empty (t.1 k l)), sym size ∙ last.3, t.2, t.3)
