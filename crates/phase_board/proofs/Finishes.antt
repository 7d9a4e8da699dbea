-- A step that marks a window done keeps the rule. The last one takes all slots.
use Rattle.std.proofs.Common.{◌≡◌, ◌≢◌, ℕ, suc, ◌+◌, ◌-◌, ◌^◌, ◌<◌, List, [], ◌∷◌, map, length, slice_index, set, sym, subst, refl, ap, ◌∙◌, arith, Some, length-set, append-nil}
use Rattle.std.proofs.lemmas.List.{length-map}
use mathlib.Core.Option.{some, none}
use mathlib.Core.Option as maybe
use lib.ListN.{get_elem?}
use native.Mathlib.Decide.{ℕ_discrete}
use Rattle.std.specs.Int.{bit_at}
use Rattle.std.specs.Int.Bits.{bit_or}
use Rattle.std.proofs.lemmas.Nat.Bits.{bit_at_ones}
use Rattle.atomic_table.specs.Table.{Me, Act, step, gives, chain, Allows, Valid, homes_after, carried_after, stepped}
use Rattle.atomic_table.proofs.Lists.{set_here, set_else}
use Rattle.phase_board.specs.declared.view.View.{View}
use Rattle.phase_board.specs.declared.view.Slot.{Slot}
use Rattle.phase_board.specs.declared.view.Slot.TheVariants.{Piece, Common}
use Rattle.phase_board.specs.declared.view.Activity.TheVariants.{Working, Turning}
use Rattle.phase_board.specs.ClaimWord.{half_of}
use Rattle.phase_board.specs.Slots.{numbered}
use Rattle.phase_board.specs.Lawful.{Where, out, home, running, turning, Stands, InPhase, InHands, IsAt, Knows}
use Rattle.phase_board.specs.Steps.{IsFor, after_finish, finished}
use Rattle.phase_board.proofs.Acts.{take_from, carried, emptied, valid, nones}
use Rattle.phase_board.proofs.Homes.{all_home, nones_at}
use Rattle.phase_board.proofs.Masks.{or_same, or_other, or_small, zero_there}
use Rattle.phase_board.proofs.Moves.{moved_to, moved_case, up_ne}
use Rattle.phase_board.proofs.Stays.{stands, is_home, work_on, none_works}
use Rattle.phase_board.proofs.Views.{at_here, at_kept}
use Rattle.phase_board.proofs.Marks.{step_to}
use Rattle.phase_board.proofs.Rule.{St, Law}

plus_one : (a b : ℕ) → a ≡ b → suc a ≡ b + 1
plus_one a b e = omega arith

module _ {J P C : Type 0} (windows : J → ℕ) (ready done : J → ℕ → ℕ → P → Type 0) (common ended : J → ℕ → C → Type 0) (job : J) where
  abbrev V : Type 0
  V = View J

  abbrev S : Type 0
  S = Slot P C

  abbrev T : Type 0
  T = St windows ready done common ended job

  abbrev L : T → Type 0
  L = Law windows ready done common ended job

  abbrev Gone : T → ℕ → Me S V → (ℕ → Me S V → Type 0) → ℕ → Type 0
  Gone s id me tells new = (w : V) × (a : Act S) × Valid s.homes me.1 a × L (stepped s 1 new id me.1 w a) × tells (slice_index s.words 1) (w, carried_after me.1 a)

  -- the seat id has the view v and works on window t with the piece p, which is done; k is the bit of t
  module _ (s : T) (r : L s) (id : ℕ) (v : V) (t : ℕ) (p : P) (k : ℕ) (at : get_elem? s.views id ≡ some v) (is : v.job ≡ Some job) (works : v.activity ≡ Working t) (bit : k ≡ 2 ^ t)
      (kn : Knows windows job r.half r.at r.phase id v (Working t)) (did : done job (half_of v.loaded) t p) where
    abbrev m : ℕ
    m = windows job

    abbrev found : ℕ
    found = slice_index s.words 1

    abbrev mask' : ℕ
    mask' = bit_or found k

    abbrev homes' : List (maybe.Option S)
    homes' = set s.homes (suc t) (some (Piece p))

    -- the view without its activity
    abbrev after : V
    after = after_finish m t found v

    abbrev Finished : ℕ → Me S V → Type 0
    Finished = finished windows done common (step (length s.homes) 1 k 0 none) (v, (suc t, Piece p) ∷ [])

    runs : InPhase windows ready done common ended job s.homes r.half r.n r.mask r.stop r.at running
    runs = subst (InPhase windows ready done common ended job s.homes r.half r.n r.mask r.stop r.at) kn.0 r.in_phase

    mine_out : Stands (ready job r.half) (done job r.half) s.homes r.n r.mask t (out id)
    mine_out = subst (Stands (ready job r.half) (done job r.half) s.homes r.n r.mask t) kn.1 (runs.1 t kn.3)

    found_is : found ≡ r.mask
    found_is = ap (λ (l : List ℕ). slice_index l 1) r.words

    mask_is : mask' ≡ bit_or r.mask (2 ^ t)
    mask_is = λ i. bit_or (found_is i) (bit i)

    low : mask' < 2 ^ m
    low = subst (λ (z : ℕ). z < 2 ^ m) (sym mask_is) (or_small r.mask t m r.mask_small kn.3)

    bit_here : bit_at mask' t ≡ 1
    bit_here = ap (λ (z : ℕ). bit_at z t) mask_is ∙ or_same r.mask t

    bit_there : (i : ℕ) → i ≢ t → bit_at mask' i ≡ bit_at r.mask i
    bit_there i ne = ap (λ (z : ℕ). bit_at z i) mask_is ∙ or_other r.mask t i ne

    in_room : suc t < length s.homes
    in_room = let a = r.slots in let b = kn.3 in omega arith

    did' : done job r.half t p
    did' = subst (λ (z : ℕ). done job z t p) kn.2 did

    given : mask' ≢ 2 ^ m - 1 → Gone s id (v, (suc t, Piece p) ∷ []) Finished mask'
    given ne =
        let at' : ℕ → Where = moved_to r.at t home in
        let zero_bit = zero_there mask' m low ne in
        let lacks : zero_bit.0 ≢ t = (λ e. let a = zero_bit.2 in let b = bit_here in let c = ap (bit_at mask') e in omega arith) in
        let here : Stands (ready job r.half) (done job r.half) homes' r.n mask' t home = (mine_out.0, bit_here, (p, set_here s.homes (suc t) (some (Piece p)) in_room, did')) in (
          after,
          gives,
          tt,
          step_to windows ready done common ended job s r id v at t mask' kn.0 kn.2 low mask_is mine_out.1 after running at' homes' refl refl refl refl is
              (length-set s.homes (suc t) (some (Piece p)) ∙ r.slots) (λ x. refl) (
                runs.0,
                λ i l. moved_case r.at t home (Stands (ready job r.half) (done job r.half) homes' r.n mask' i) i
                    (λ e. subst (λ (z : ℕ). Stands (ready job r.half) (done job r.half) homes' r.n mask' z home) (sym e) here)
                    (λ d. stands (ready job r.half) (done job r.half) s.homes r.n r.mask mask' t p bit_there (r.at i) i d (runs.1 i l)),
                zero_bit,
                (runs.3.0, runs.3.1, set_else s.homes (suc t) 0 (some (Piece p)) (λ e. omega arith) ∙ runs.3.2, runs.3.3),
              )
              (λ i j l. moved_case r.at t home (λ y. y ≡ out j → IsAt (set s.views id after) j (Working i)) i (λ e q. cc)
              (λ d q. at_kept s.views id v after j (Working i) at (λ e. d (let f : Working t ≡ Working i = sym works ∙ e in cc)) (subst (InHands s.views m r.at) kn.0 r.in_hands i j l q)))
              tt (λ j u d q. work_on windows job r.half id t r.at r.phase kn.0 kn.1 j u u.activity d q),
          subst (IsFor _) (sym is) (
            sym r.slots,
            λ t' e. let same : t ≡ t' = (let f : Working t ≡ Working t' = sym works ∙ e in cc) in (
              (λ _. (
                ap (λ (z : ℕ). let x : Me S V = (after_finish m z found v, []) in x) same,
                (zero_bit.0, zero_bit.1, (λ q. lacks (q ∙ sym same)), ap (λ (z : ℕ). bit_at z zero_bit.0) found_is ∙ sym (bit_there zero_bit.0 lacks) ∙ zero_bit.2),
              )),
              (λ all. absurd (ne all)),
            ),
          ),
        )

    last : mask' ≡ 2 ^ m - 1 → Gone s id (v, (suc t, Piece p) ∷ []) Finished mask'
    last e =
        let w : V = record after { activity = Turning } in
        let all : (i : ℕ) → i < m → bit_at mask' i ≡ 1 = λ i l. ap (λ (z : ℕ). bit_at z i) e ∙ bit_at_ones m i l in
        let other : (i : ℕ) → i ≢ t → i < m → (i < r.n) × ((q : P) × (get_elem? s.homes (suc i) ≡ some (some (Piece q))) × done job r.half i q) =
        λ i d l. is_home (ready job r.half) (done job r.half) s.homes r.n r.mask mask' t p bit_there (r.at i) i d (all i l) (runs.1 i l) in
        let full : r.n ≡ m = whole other (ℕ_discrete r.n m) in
        let at_home : (i : ℕ) → i < m → (q : P) × (get_elem? homes' (suc i) ≡ some (some (Piece q))) × done job r.half i q = λ i l. here other i l (ℕ_discrete i t) in
        let long : length homes' ≡ m + 1 = length-set s.homes (suc t) (some (Piece p)) ∙ r.slots in
        let got = all_home (common job r.half) (done job r.half) m homes' long (runs.3.0, runs.3.1, set_else s.homes (suc t) 0 (some (Piece p)) (λ q. omega arith) ∙ runs.3.2, runs.3.3.0, runs.3.3.1)
        at_home in
        let xs : List S = Common got.0 got.1 ∷ map Piece got.2 in
        let left : homes_after homes' [] (take_from 0 xs) ≡ nones xs = ap (λ (h : List (maybe.Option S)). homes_after h [] (take_from 0 xs)) got.3 ∙ emptied [] 0 xs [] refl in
        let size : length xs ≡ m + 1 = plus_one (length (map Piece got.2)) m (length-map got.2 Piece ∙ got.6.0) in
        let none_out : (j i : ℕ) → i < m → i ≢ t → r.at i ≡ out j → ⊥ = λ j i l d q.
        let o : Stands (ready job r.half) (done job r.half) s.homes r.n r.mask i (out j) = subst (Stands (ready job r.half) (done job r.half) s.homes r.n r.mask i) q (runs.1 i l) in
        let f = bit_there i d in let g = all i l in let b = o.1 in omega arith in (
          w,
          chain gives (take_from 0 xs),
          (tt, subst (λ (h : List (maybe.Option S)). Valid h [] (take_from 0 xs)) (sym got.3) (valid [] 0 xs [] refl)),
          step_to windows ready done common ended job s r id v at t mask' kn.0 kn.2 low mask_is mine_out.1 w (turning id) r.at (homes_after homes' [] (take_from 0 xs)) refl refl refl refl is
              (ap length left ∙ (length-map xs _ ∙ size)) (λ x. refl)
              (runs.0, full, all, λ i l. ap (λ (h : List (maybe.Option S)). get_elem? h i) left ∙ nones_at xs i (omega arith)) (at_here s.views id v w Turning at refl) (refl, kn.2)
              (λ j u d q. none_works windows job r.half id t r.at r.phase kn.0 kn.1 none_out j u u.activity d q),
          subst (IsFor _) (sym is) (
            sym r.slots,
            λ t' q. let same : t ≡ t' = (let f : Working t ≡ Working t' = sym works ∙ q in cc) in (
              (λ ne. absurd (ne e)),
              (λ _. (
                ap (λ (z : ℕ). let x : V = record (after_finish m z found v) { activity = Turning } in x) same,
                (λ i l d. ap (λ (z : ℕ). bit_at z i) found_is ∙ sym (bit_there i (λ z. d (z ∙ same))) ∙ all i l),
                (
                  got.0,
                  got.1,
                  got.2,
                  carried 0 xs [] ∙ append-nil (numbered 0 xs),
                  got.4,
                  subst (λ (z : ℕ). common job z got.0) (sym kn.2) got.5,
                  (got.6.0, λ i q a. subst (λ (z : ℕ). done job z i q) (sym kn.2) (got.6.1 i q a)),
                ),
              )),
            ),
          ),
        )
      where
        whole : ((i : ℕ) → i ≢ t → i < m → (i < r.n) × ((q : P) × (get_elem? s.homes (suc i) ≡ some (some (Piece q))) × done job r.half i q)) → Dec (r.n ≡ m) → r.n ≡ m
        whole other (yes q) = q
        whole other (no ne) =
            let lt : r.n < m = (let a = r.most in omega arith) in let apart : r.n ≢ t = (λ q. let a = mine_out.0 in omega arith) in
            let bad = (other r.n apart lt).0 in absurd (omega arith)

        here : ((i : ℕ) → i ≢ t → i < m → (i < r.n) × ((q : P) × (get_elem? s.homes (suc i) ≡ some (some (Piece q))) × done job r.half i q)) → (i : ℕ) → i < m → Dec (i ≡ t)
            → (q : P) × (get_elem? homes' (suc i) ≡ some (some (Piece q))) × done job r.half i q
        here other i l (yes q) = (p, ap (λ (z : ℕ). get_elem? homes' (suc z)) q ∙ set_here s.homes (suc t) (some (Piece p)) in_room, subst (λ (z : ℕ). done job r.half z p) (sym q) did')
        here other i l (no d) = let q = (other i d l).1 in (q.0, set_else s.homes (suc t) (suc i) (some (Piece p)) (up_ne i t d) ∙ q.1, q.2)

  pub finishes : (slots id : ℕ) (me : Me S V) (k t : ℕ) (p : P) → me.0.job ≡ Some job → me.0.activity ≡ Working t → me.1 ≡ (suc t, Piece p) ∷ [] → k ≡ 2 ^ t → done job (half_of me.0.loaded) t p
      → Allows L slots id me 1 (λ n. bit_or n k) (finished windows done common (step slots 1 k 0 none) me)
  finishes slots id me k t p is works has bit did s r wide at small =
      let kn : Knows windows job r.half r.at r.phase id me.0 (Working t) = subst (Knows windows job r.half r.at r.phase id me.0) works (r.each_seat id me.0 at).knows in
      let y : ℕ = slice_index s.words 1 in
      subst (λ (n : ℕ). Gone s id me (finished windows done common (step n 1 k 0 none) me) (bit_or y k)) wide
      (subst (λ (l : List (ℕ × S)). Gone s id (me.0, l) (finished windows done common (step (length s.homes) 1 k 0 none) (me.0, l)) (bit_or y k)) (sym has)
      (go kn (ℕ_discrete (bit_or y k) (2 ^ windows job - 1))))
    where
      go : Knows windows job r.half r.at r.phase id me.0 (Working t) → Dec (bit_or (slice_index s.words 1) k ≡ 2 ^ windows job - 1)
          → Gone s id (me.0, (suc t, Piece p) ∷ []) (finished windows done common (step (length s.homes) 1 k 0 none) (me.0, (suc t, Piece p) ∷ [])) (bit_or (slice_index s.words 1) k)
      go kn (yes e) = last s r id me.0 t p k at is works bit kn did e
      go kn (no ne) = given s r id me.0 t p k at is works bit kn did ne
