-- The seat that stops gives all slots back, those of the pieces empty.
use Rattle.std.proofs.Common.{◌≡◌, ℕ, zero, suc, ◌+◌, ◌*◌, ◌%◌, ◌^◌, ◌<◌, ◌≤◌, List, [], ◌∷◌, map, replicate, true, length, sym, subst, refl, ap, ◌∙◌, arith, Some}
use Rattle.std.specs.Prelude.{Vec}
use Rattle.std.specs.declared.alloc.Global.{Global}
use Rattle.std.proofs.lemmas.List.{length-map}
use mathlib.Core.Option.{some, none}
use mathlib.Core.Option as maybe
use lib.ListN.{get_elem?}
use Rattle.atomic_table.specs.Table.{Me, step, Allows, homes_after}
use Rattle.phase_board.specs.declared.view.View.{View}
use Rattle.phase_board.specs.declared.view.Slot.{Slot}
use Rattle.phase_board.specs.declared.view.Slot.TheVariants.{Empty, Common}
use Rattle.phase_board.specs.declared.view.Activity.TheVariants.{Idle, Turning}
use Rattle.phase_board.specs.ClaimWord.{half_of, word_of}
use Rattle.phase_board.specs.Slots.{numbered}
use Rattle.phase_board.specs.Lawful.{Phase, running, turning, resetting, stopped, InPhase, Knows, done_once}
use Rattle.phase_board.specs.Steps.{IsFor, settled}
use Rattle.phase_board.proofs.Acts.{give_all, none_left, given_valid}
use Rattle.phase_board.proofs.Settles.{alone, settle}
use Rattle.phase_board.proofs.Turns.{come_home}
use Rattle.phase_board.proofs.Words.{low_word}
use Rattle.phase_board.proofs.Rule.{St, Law, claim, fits}

same_there : {A : Type 0} (n t : ℕ) (x : A) → t < n → get_elem? (map some (replicate n x)) t ≡ some (some x)
same_there zero t x l = absurd (omega arith)
same_there (suc n) zero x l = refl
same_there (suc n) (suc t) x l = same_there n t x (omega arith)

so_long : {A : Type 0} (n : ℕ) (x : A) → length (replicate n x) ≡ n
so_long zero x = refl
so_long (suc n) x = ap suc (so_long n x)

one_more : (a b : ℕ) → a ≡ b → b + 1 ≡ suc a
one_more a b e = omega arith

module _ {J P C : Type 0} (windows : J → ℕ) (ready done : J → ℕ → ℕ → P → Type 0) (common ended : J → ℕ → C → Type 0) (job : J) where
  abbrev V : Type 0
  V = View J

  abbrev L : St windows ready done common ended job → Type 0
  L = Law windows ready done common ended job

  pub stops : (slots id : ℕ) (me : Me (Slot P C) V) (new h m : ℕ) (x : C) (room : Vec P Global) → me.0.job ≡ Some job → me.0.activity ≡ Turning → m + 1 ≡ slots →
      me.1 ≡ numbered 0 (Common x room ∷ replicate m Empty) → room.items ≡ []
      → h ≡ half_of me.0.loaded → new ≡ 2 ^ 63 + h * 256 + m → ended job h x → Allows L slots id me 0 (λ _. new) (settled windows (step slots 0 new 0 none) me)
  stops slots id me new h m x room has turns counts holds empty is next right s r wide at small =
      let v : V = me.0 in let c : ℕ = claim windows ready done common ended job s r in let xs : List (Slot P C) = Common x room ∷ replicate m Empty in
      let kn : Knows windows job r.half r.at r.phase id v Turning = subst (Knows windows job r.half r.at r.phase id v) turns (r.each_seat id v at).knows in
      let now : InPhase windows ready done common ended job s.homes r.half r.n r.mask r.stop r.at (turning id) = subst
      (InPhase windows ready done common ended job s.homes r.half r.n r.mask r.stop r.at) kn.0 r.in_phase in
      let h_is : h ≡ r.half = is ∙ kn.1 in
      let m_is : m ≡ windows job = (let a = r.slots in omega arith) in
      let size : r.n ≤ 64 = fits windows ready done common ended job s r in
      let new_is : new ≡ word_of true r.half r.n = (let e = h_is in let f = now.1 in omega arith) in
      let up : c % 2 ^ 63 ≤ new % 2 ^ 63 = (let e = low_word r.stop r.half r.n r.small size in let f = low_word true r.half r.n r.small size in
      let g : new % 2 ^ 63 ≡ word_of true r.half r.n % 2 ^ 63 = ap (λ (z : ℕ). z % 2 ^ 63) new_is in omega arith) in
      let long : length s.homes ≡ length xs = r.slots ∙ one_more (length (replicate m Empty)) (windows job) (so_long m Empty ∙ m_is) in
      let home_is : homes_after s.homes me.1 (give_all me.1) ≡ map some xs = come_home s.homes me.1 xs holds long in (
        record v { activity = Idle; found = new },
        give_all me.1,
        given_valid me.1 s.homes me.1,
        settle windows ready done common ended job s r id v new r.half r.n true r.at stopped (homes_after s.homes me.1 (give_all me.1)) at has now.0 new_is up r.small r.most refl
            (ap length home_is ∙ (length-map xs _ ∙ (sym long ∙ r.slots)))
            (λ y. sym (ap (λ (z : Phase). done_once (windows job) r.half r.mask z y) kn.0))
            (subst (λ (hs : List (maybe.Option (Slot P C))). InPhase windows ready done common ended job hs r.half r.n r.mask true r.at stopped) (sym home_is)
            (refl, now.1, now.2, (λ t l. same_there m t Empty (omega arith)), (x, room, refl, (subst (λ (z : ℕ). ended job z x) h_is right, empty))))
            tt
            (λ j u ne q. alone windows job id r.phase (λ e. let f : turning id ≡ running = sym kn.0 ∙ e in cc) (λ i d e. d (let f : turning id ≡ turning i = sym kn.0 ∙ e in cc))
            (λ i d e. let f : turning id ≡ resetting i = sym kn.0 ∙ e in cc)
            r.half r.half r.at r.at stopped j u u.activity ne q),
        (ap (λ (l : List (ℕ × Slot P C)). let w : V = record v { activity = Idle; found = new } in (w, l)) (none_left me.1), subst (IsFor _) (sym has) (sym r.slots ∙ wide)),
      )
