-- The seat that turns gives all slots back, and the next half begins.
use Rattle.std.proofs.Common.{◌≡◌, ℕ, zero, suc, ◌+◌, ◌*◌, ◌%◌, ◌^◌, ◌<◌, ◌≤◌, List, [], ◌∷◌, map, false, length, sym, subst, refl, ap, ◌∙◌, arith, Some}
use Rattle.std.specs.Prelude.{Vec}
use Rattle.std.specs.declared.alloc.Global.{Global}
use Rattle.std.proofs.lemmas.List.{length-map}
use Rattle.std.proofs.lemmas.Nat.Bits.{bit_at-zero}
use mathlib.Core.Option.{some, none, some-ne-none}
use mathlib.Core.Option as maybe
use lib.ListN.{get_elem?}
use Rattle.std.specs.Int.{bit_at}
use Rattle.atomic_table.specs.Table.{Me, step, Allows, homes_after}
use Rattle.atomic_table.proofs.Lists.{at_map}
use Rattle.phase_board.specs.declared.view.View.{View}
use Rattle.phase_board.specs.declared.view.Slot.{Slot}
use Rattle.phase_board.specs.declared.view.Slot.TheVariants.{Piece, Common}
use Rattle.phase_board.specs.declared.view.Activity.TheVariants.{Idle, Reset}
use Rattle.phase_board.specs.ClaimWord.{half_of, word_of}
use Rattle.phase_board.specs.Slots.{numbered, HasRoom, AllPieces}
use Rattle.phase_board.specs.Lawful.{waits, Phase, running, turning, resetting, InPhase, Knows, done_once}
use Rattle.phase_board.specs.Steps.{IsFor, settled}
use Rattle.phase_board.proofs.Acts.{give_all, none_left, given_valid, filled}
use Rattle.phase_board.proofs.Dones.{none_marked, next_half}
use Rattle.phase_board.proofs.Settles.{alone, settle}
use Rattle.phase_board.proofs.Words.{low_word}
use Rattle.phase_board.proofs.Rule.{St, Law, claim, fits}

pub there : {A : Type 0} (l : List A) (i : ℕ) → i < length l → (a : A) × (get_elem? l i ≡ some a)
there [] i h = absurd (omega arith)
there (x ∷ xs) zero h = (x, refl)
there (x ∷ xs) (suc i) h = there xs i (omega arith)

more : (a b : ℕ) → a ≡ b → b + 1 ≡ suc a
more a b e = omega arith

-- all slots come home, with the values xs
pub come_home : {S : Type 0} (hs : List (maybe.Option S)) (c : List (ℕ × S)) (xs : List S) → c ≡ numbered 0 xs → length hs ≡ length xs → homes_after hs c (give_all c) ≡ map some xs
come_home hs c xs e long = ap (λ (l : List (ℕ × _)). homes_after hs l (give_all l)) e ∙ filled [] hs 0 xs refl long

module _ {J P C : Type 0} (windows : J → ℕ) (ready done : J → ℕ → ℕ → P → Type 0) (common ended : J → ℕ → C → Type 0) (job : J) where
  abbrev V : Type 0
  V = View J

  abbrev L : St windows ready done common ended job → Type 0
  L = Law windows ready done common ended job

  pub turns : (slots id : ℕ) (me : Me (Slot P C) V) (new h : ℕ) (x : C) (room : Vec P Global) (ps : List P) → me.0.job ≡ Some job → me.0.activity ≡ Reset →
      me.1 ≡ numbered 0 (Common x room ∷ map Piece ps) → HasRoom (windows job) room
      → h ≡ half_of me.0.loaded → h + 1 ≤ 1000000 → new ≡ (h + 1) * 256 → 0 < windows job → common job (h + 1) x → AllPieces (windows job) (ready job (h + 1)) ps →
      Allows L slots id me 0 (λ _. new) (settled windows (step slots 0 new 0 none) me)
  turns slots id me new h x room ps has resets holds roomy is fine next pos right readies s r wide at small =
      let v : V = me.0 in let m : ℕ = windows job in let c : ℕ = claim windows ready done common ended job s r in let xs : List (Slot P C) = Common x room ∷ map Piece ps in
      let kn : Knows windows job r.half r.at r.phase id v Reset = subst (Knows windows job r.half r.at r.phase id v) resets (r.each_seat id v at).knows in
      let now : InPhase windows ready done common ended job s.homes r.half r.n r.mask r.stop r.at (resetting id) = subst
      (InPhase windows ready done common ended job s.homes r.half r.n r.mask r.stop r.at) kn.0 r.in_phase in
      let h_is : h ≡ r.half = is ∙ kn.1 in
      let size : r.n ≤ 64 = fits windows ready done common ended job s r in
      let fine' : r.half + 1 ≤ 1000000 = (let e = h_is in omega arith) in
      let new_is : new ≡ word_of false (r.half + 1) 0 = (let e = h_is in omega arith) in
      let up : c % 2 ^ 63 ≤ new % 2 ^ 63 = (let e = low_word r.stop r.half r.n r.small size in let f = low_word false (r.half + 1) 0 fine' (omega arith) in
      let g : new % 2 ^ 63 ≡ word_of false (r.half + 1) 0 % 2 ^ 63 = ap (λ (z : ℕ). z % 2 ^ 63) new_is in omega arith) in
      let long : length s.homes ≡ length xs = r.slots ∙ more (length (map Piece ps)) m (length-map ps Piece ∙ readies.0) in
      let home_is : homes_after s.homes me.1 (give_all me.1) ≡ map some xs = come_home s.homes me.1 xs holds long in
      let same : (r.half + 1) * m + 0 ≡ r.half * m + r.n = (let a = next_half r.half m in let b = now.1 in omega arith) in
      let no_bit : (t : ℕ) → bit_at r.mask t ≡ 0 = λ t. ap (λ (z : ℕ). bit_at z t) now.2 ∙ bit_at-zero t in (
        record v { activity = Idle; found = new },
        give_all me.1,
        given_valid me.1 s.homes me.1,
        settle windows ready done common ended job s r id v new (r.half + 1) 0 false (λ _. waits) running (homes_after s.homes me.1 (give_all me.1)) at has now.0 new_is up fine' (omega arith) same
            (ap length home_is ∙ (length-map xs _ ∙ (sym long ∙ r.slots)))
            (λ y. ap (λ (z : ℕ). done_once m (r.half + 1) z running y) now.2 ∙ none_marked ((r.half + 1) * m) y ∙ sym (ap (λ (z : Phase). done_once m r.half r.mask z y) kn.0))
            (subst (λ (hs : List (maybe.Option (Slot P C))). InPhase windows ready done common ended job hs (r.half + 1) 0 r.mask false (λ _. waits) running) (sym home_is) (
              refl,
              λ t l. let p = there ps t (let a = readies.0 in omega arith) in (
                omega arith,
                no_bit t,
                (
                  p.0,
                  at_map some (map Piece ps) t (Piece p.0) (at_map Piece ps t p.0 p.1),
                  subst (λ (z : ℕ). ready job z t p.0) (ap (λ (z : ℕ). z + 1) h_is) (readies.1 t p.0 p.1),
                ),
              ),
              (0, pos, no_bit 0),
              (x, room, refl, (subst (λ (z : ℕ). common job z x) (ap (λ (z : ℕ). z + 1) h_is) right, roomy)),
            ))
            (λ t j l e. cc)
            (λ j u ne q. alone windows job id r.phase (λ e. let f : resetting id ≡ running = sym kn.0 ∙ e in cc) (λ i d e. let f : resetting id ≡ turning i = sym kn.0 ∙ e in cc)
            (λ i d e. d (let f : resetting id ≡ resetting i = sym kn.0 ∙ e in cc))
            r.half (r.half + 1) r.at (λ _. waits) running j u u.activity ne q),
        (ap (λ (l : List (ℕ × Slot P C)). let w : V = record v { activity = Idle; found = new } in (w, l)) (none_left me.1), subst (IsFor _) (sym has) (sym r.slots ∙ wide)),
      )
