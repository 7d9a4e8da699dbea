-- The rule holds of a new board.
use Rattle.std.proofs.Common.{◌≡◌, ℕ, zero, suc, ◌+◌, ◌*◌, List, [], ◌∷◌, map, length, get_or, false, sym, subst, refl, ◌∙◌, arith}
use Rattle.std.specs.Prelude.{Vec, IsSomeAnd}
use Rattle.std.specs.declared.alloc.Global.{Global}
use Rattle.std.proofs.lemmas.List.{length-map}
use Rattle.std.proofs.lemmas.Nat.Bits.{bit_at-zero}
use Rattle.std.proofs.Math.Pow.{pow_pos}
use mathlib.Core.Option.{some, some-injective, some-ne-none}
use lib.ListN.{get_elem?}
use Rattle.atomic_table.specs.Table.{opening}
use Rattle.atomic_table.proofs.Lists.{at_map}
use Rattle.phase_board.specs.declared.view.View.{View}
use Rattle.phase_board.specs.declared.view.Slot.{Slot}
use Rattle.phase_board.specs.declared.view.Slot.TheVariants.{Piece, Common}
use Rattle.phase_board.specs.Slots.{HasRoom}
use Rattle.phase_board.specs.Lawful.{waits, running, opening_view, Seated}
use Rattle.phase_board.specs.Openings.{job_of, Opens}
use Rattle.phase_board.proofs.Dones.{none_marked, beyond_is}
use Rattle.phase_board.proofs.Turns.{there}
use Rattle.phase_board.proofs.Rule.{Law}

one_more : (a b : ℕ) → a ≡ b → suc a ≡ b + 1
one_more a b e = omega arith

module _ {J P C : Type 0} (own : P → J) (windows : J → ℕ) (ready done : J → ℕ → ℕ → P → Type 0) (common ended : J → ℕ → C → Type 0) (job : J) where
  pub opens : (ps : List P) (c : C) (room : Vec P Global) (xs : List (Slot P C)) → xs ≡ Common c room ∷ map Piece ps → HasRoom (length ps) room → Opens own windows ready common job ps c
      → Law windows ready done common ended job (opening (0 ∷ 0 ∷ []) xs (opening_view job))
  opens ps c room xs is fits given =
      let m : ℕ = windows job in let count : length ps ≡ m = given.2.0 in
      subst (λ (ys : List (Slot P C)). Law windows ready done common ended job (opening (0 ∷ 0 ∷ []) ys (opening_view job))) (sym is)
      record {
        half = 0;
        n = 0;
        stop = false;
        mask = 0;
        at = λ _. waits;
        phase = running;
        words = refl;
        mask_small = pow_pos m;
        small = omega arith;
        most = omega arith;
        size = given.1;
        slots = length-map (Common c room ∷ map Piece ps) _ ∙ one_more (length (map Piece ps)) m (length-map ps Piece ∙ count);
        draws = λ x. sym (beyond_is (0 * m + 0) x (omega arith));
        dones = λ x. sym (none_marked (0 * m) x ∙ beyond_is (0 * m) x (omega arith));
        in_phase = (
          refl,
          λ t l. let p = there ps t (let a = count in omega arith) in
              (omega arith, bit_at-zero t, (p.0, at_map some (map Piece ps) t (Piece p.0) (at_map Piece ps t p.0 p.1), (given.2.1 t p.0 p.1).1)),
          (0, given.0, bit_at-zero 0),
          (c, room, refl, (given.3, subst (λ (k : ℕ). HasRoom k room) count fits)),
        );
        in_hands = λ t j l e. cc;
        each_seat = seats;
      }
    where
      seats : (j : ℕ) (v : View J) → get_elem? (opening_view job ∷ []) j ≡ some v → Seated windows job 0 0 (λ _. waits) running j v
      seats zero v e = subst (Seated windows job 0 0 (λ _. waits) running 0) (some-injective (opening_view job) v e)
          record { found_is = (omega arith, λ _. refl); found_drawn = omega arith; loaded_is = (omega arith, λ _. refl); loaded_drawn = omega arith; below = λ x l. refl; job_is = refl; knows = tt }
      seats (suc j) v e = absurd (some-ne-none v (sym e))

-- what holds of the job of the pieces holds of the first one's
pub of_first : {P J : Type 0} (job : P → J) (F : J → Type 0) (ps : List P) (p q : P) → p ≡ get_or ps 0 p → q ≡ p → IsSomeAnd (job_of job ps) F → F (job q)
of_first job F [] p q at e h = absurd h
of_first job F (x ∷ ps) p q at e h = subst (λ (z : _). F (job z)) (sym (e ∙ at)) h
