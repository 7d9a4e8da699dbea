-- The greatest of all paths is the greatest.
use Rattle.std.proofs.Common.{◌≡◌, ℕ, zero, suc, ◌<◌, Bool, true, List, [], ◌∷◌, length, map, replicate, ℤ, refl, sym, ap, ◌∙◌, inl, inr, arith}
use Rattle.std.specs.Prelude.{◌&&◌}
use Rattle.std.proofs.lemmas.Bool.{and_parts}
use Rattle.lte_bits.specs.declared.bit.Bit.{Bit}
use Rattle.lte_bits.specs.declared.bit.Bit.TheVariants.{Zero, One}
use Rattle.model_sender.specs.Bits.{plus, at}
use Rattle.model_sender.specs.ConstituentCoder.{State, next, zero_state}
use Rattle.model_sender.specs.Tail.{reached}
use Rattle.model_sender.proofs.Coder.{added_twice}
use Rattle.model_receiver.specs.Borders.{state, states}
use Rattle.model_receiver.specs.Paths.{Window, width, Path, path, end_state, bit_lists, paths, same_bit, same_state, greatest_of_paths, IsGreatest, IsBest, IsBestTo, IsBestFrom, best, best_to, best_from, score_without, from_start, to_end}
use Rattle.model_receiver.proofs.Members.{Member, member-append_left, member-append_right, member-append_cases, member-map, member-unmap, member-flat_map, member-unflat_map}
use Rattle.model_receiver.proofs.Maxima.{greatest-filtered, greatest-reworded}

-- ---- all bits and all states

lists-all : (us : List Bit) (n : ℕ) → length us ≡ n → Member us (bit_lists n)
lists-all [] zero h = inl refl
lists-all [] (suc n) h = absurd (omega (arith, h))
lists-all (u ∷ us) zero h = absurd (omega (arith, h))
lists-all (u ∷ us) (suc n) h = by_bit u (lists-all us n (omega (arith, h)))
  where
    by_bit : (u : Bit) → Member us (bit_lists n) → Member (u ∷ us) (bit_lists (suc n))
    by_bit Zero m = member-append_left (Zero ∷ us) _ _ (member-map (λ (vs : List Bit). Zero ∷ vs) us (bit_lists n) m)
    by_bit One m = member-append_right (One ∷ us) (map (λ (vs : List Bit). Zero ∷ vs) (bit_lists n)) _ (member-map (λ (vs : List Bit). One ∷ vs) us (bit_lists n) m)

pub lists-long : (n : ℕ) (us : List Bit) → Member us (bit_lists n) → length us ≡ n
lists-long zero us h = elim h [ inl e ↦ ap length e | inr later ↦ absurd later ]
lists-long (suc n) us h =
    elim (member-append_cases us _ _ h) [
      | inl a ↦ (let w = member-unmap (λ (vs : List Bit). Zero ∷ vs) us (bit_lists n) a in ap length w.2 ∙ ap suc (lists-long n w.0 w.1))
      | inr b ↦ (let w = member-unmap (λ (vs : List Bit). One ∷ vs) us (bit_lists n) b in ap length w.2 ∙ ap suc (lists-long n w.0 w.1))
    ]

pub states-all : (s : State) → Member s states
states-all s = by_bits s.a1 s.a2 s.a3
  where
    by_bits : (a b c : Bit) → Member (state a b c) states
    by_bits Zero Zero Zero = inl refl
    by_bits Zero Zero One = inr (inl refl)
    by_bits Zero One Zero = inr (inr (inl refl))
    by_bits Zero One One = inr (inr (inr (inl refl)))
    by_bits One Zero Zero = inr (inr (inr (inr (inl refl))))
    by_bits One Zero One = inr (inr (inr (inr (inr (inl refl)))))
    by_bits One One Zero = inr (inr (inr (inr (inr (inr (inl refl))))))
    by_bits One One One = inr (inr (inr (inr (inr (inr (inr (inl refl)))))))

paths-all : (p : Path) (n : ℕ) → length p.bits ≡ n → Member p (paths n)
paths-all p n h = member-flat_map (λ s. map (path s) (bit_lists n)) p.start p states (states-all p.start) (member-map (path p.start) p.bits (bit_lists n) (lists-all p.bits n h))

paths-long : (p : Path) (n : ℕ) → Member p (paths n) → length p.bits ≡ n
paths-long p n h =
    let w = member-unflat_map (λ s. map (path s) (bit_lists n)) p states h in
    let v = member-unmap (path w.0) p (bit_lists n) w.2 in
    ap (λ (q : Path). length q.bits) v.2 ∙ lists-long n v.0 v.1

-- ---- tests

same_bit-true : (a b : Bit) → same_bit a b ≡ true → a ≡ b
same_bit-true Zero Zero h = refl
same_bit-true Zero One h = cc
same_bit-true One Zero h = cc
same_bit-true One One h = refl

same_bit-refl : (a b : Bit) → a ≡ b → same_bit a b ≡ true
same_bit-refl a b e = ap (same_bit a) (sym e) ∙ itself a
  where
    itself : (a : Bit) → same_bit a a ≡ true
    itself Zero = refl
    itself One = refl

same_state-true : (s t : State) → same_state s t ≡ true → s ≡ t
same_state-true s t h =
    let x = and_parts (same_bit s.a1 t.a1 && same_bit s.a2 t.a2) (same_bit s.a3 t.a3) h in
    let y = and_parts (same_bit s.a1 t.a1) (same_bit s.a2 t.a2) x.0 in
    ap (λ a. state a s.a2 s.a3) (same_bit-true s.a1 t.a1 y.0)
    ∙ (ap (λ b. state t.a1 b s.a3) (same_bit-true s.a2 t.a2 y.1) ∙ ap (λ c. state t.a1 t.a2 c) (same_bit-true s.a3 t.a3 x.1))

same_state-refl : (s t : State) → s ≡ t → same_state s t ≡ true
same_state-refl s t e = ap (same_state s) (sym e) ∙ by_bits s.a1 s.a2 s.a3
  where
    by_bits : (a b c : Bit) → same_state (state a b c) (state a b c) ≡ true
    by_bits a b c = rw (same_bit-refl a a refl, same_bit-refl b b refl, same_bit-refl c c refl) refl

-- ---- the greatest over paths

greatest-of_paths : (n : ℕ) (p : Path → Bool) (A : Path → Type 0) (value : Path → ℤ) → ((x : Path) → p x ≡ true → A x) → ((x : Path) → A x → p x ≡ true)
    → (some : Path) → length some.bits ≡ n → A some → IsGreatest (λ (x : Path). (length x.bits ≡ n) × A x) value (greatest_of_paths n p value)
unfolding greatest_of_paths
greatest-of_paths n p A value to back some long ok =
    greatest-reworded _ _ value _ (λ x h. (paths-long x n h.0, to x h.1)) (λ x h. (paths-all x n h.0, back x h.1))
    (greatest-filtered (paths n) p value some (paths-all some n long) (back some ok))

-- some path has a bit at a place, starts in a state, ends in a state

put : (n j : ℕ) (b : Bit) → j < n → (us : List Bit) × (length us ≡ n) × (at us j ≡ b)
put zero j b h = absurd (omega (arith, h))
put (suc n) zero b h = (b ∷ replicate n Zero, ap suc (zeros n), refl)
  where
    zeros : (n : ℕ) → length (replicate n Zero) ≡ n
    zeros zero = refl
    zeros (suc n) = ap suc (zeros n)
put (suc n) (suc j) b h = let w = put n j b (omega (arith, h)) in (Zero ∷ w.0, ap suc w.1, w.2)

-- the state before s whose oldest bit is r, and the input that leads from it to s
pub next-before : (s : State) (r : Bit) → next (state s.a2 s.a3 r) (plus (plus s.a1 s.a3) r) ≡ s
next-before s r = ap (λ a. state a s.a2 s.a3) (added_twice s.a1 s.a3 r)

pub ends_in : (n : ℕ) (s : State) → (p : Path) × (length p.bits ≡ n) × (end_state p ≡ s)
ends_in zero s = (path s [], refl, refl)
ends_in (suc n) s =
    let w = ends_in n s in
    let t : State = w.0.start in
    let u : Bit = plus (plus t.a1 t.a3) Zero in
    (path (state t.a2 t.a3 Zero) (u ∷ w.0.bits), ap suc w.1, ap (λ (v : State). reached v w.0.bits) (next-before t Zero) ∙ w.2)

pub best-is : (w : Window) (b : Bit) (j : ℕ) → j < width w → IsBest w b j (best w b j)
best-is w b j h =
    let some = put (width w) j b h in
    greatest-of_paths (width w) (λ p. same_bit (at p.bits j) b) (λ p. at p.bits j ≡ b) (score_without w j)
    (λ p e. same_bit-true (at p.bits j) b e) (λ p e. same_bit-refl (at p.bits j) b e) (path zero_state some.0) some.1 some.2

pub best_to-is : (w : Window) (s : State) → IsBestTo w s (best_to w s)
best_to-is w s =
    let some = ends_in (width w) s in
    greatest-of_paths (width w) (λ p. same_state (end_state p) s) (λ p. end_state p ≡ s) (from_start w)
    (λ p e. same_state-true (end_state p) s e) (λ p e. same_state-refl (end_state p) s e) some.0 some.1 some.2

pub best_from-is : (w : Window) (s : State) → IsBestFrom w s (best_from w s)
best_from-is w s =
    greatest-of_paths (width w) (λ p. same_state p.start s) (λ p. p.start ≡ s) (to_end w)
    (λ p e. same_state-true p.start s e) (λ p e. same_state-refl p.start s e) (path s (replicate (width w) Zero)) (zeros (width w)) refl
  where
    zeros : (n : ℕ) → length (replicate n Zero) ≡ n
    zeros zero = refl
    zeros (suc n) = ap suc (zeros n)
