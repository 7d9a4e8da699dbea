-- The metrics at a position of a window are those of the window's parts before and after it.
use Rattle.std.proofs.Common.{◌≡◌, ℕ, suc, ◌+◌, ◌-◌, ◌<◌, ◌≤◌, List, [], ◌∷◌, length, take, drop, ℤ, pos, ◌+ℤ◌, ◌≤ℤ◌, refl, sym, ap, ◌∙◌, subst, inl, inr, arith}
use Rattle.std.proofs.lemmas.Bool.{cases_lt}
use Rattle.std.proofs.lemmas.Int.{ints}
use Rattle.std.proofs.lemmas.List.{get_or_past, get_or-take, get_or-drop, length-take, length-take-le, length-drop}
use Rattle.lte_bits.specs.Softs.{IsWithin}
use Rattle.lte_bits.specs.declared.bit.Bit.{Bit}
use Rattle.model_sender.specs.ConstituentCoder.{State, next, parity}
use Rattle.model_sender.specs.Tail.{reached}
use Rattle.model_receiver.specs.Borders.{number_for, at, if_zero}
use Rattle.model_receiver.specs.Paths.{Window, width, path, Gain, gain, earned, best_to, best_from}
use Rattle.model_receiver.proofs.GreatestPaths.{best_to-is, best_from-is}
use Rattle.window_decode.specs.Metrics.{IsForward, IsBackward}
use Rattle.window_decode.specs.Ranges.{IsSoft, part_before, part_from}
use Rattle.window_decode.proofs.Within.{within-same}

-- ---- what steps earn there

gain-same : (x c p y d q : ℤ) (s : State) (u : Bit) → x ≡ y → c ≡ d → p ≡ q → if_zero u (x +ℤ c) +ℤ if_zero (parity s u) p ≡ if_zero u (y +ℤ d) +ℤ if_zero (parity s u) q
gain-same x c p y d q s u e f h =
    ap (λ z. if_zero u (z +ℤ c) +ℤ if_zero (parity s u) p) e
    ∙ (ap (λ z. if_zero u (y +ℤ z) +ℤ if_zero (parity s u) p) f ∙ ap (λ z. if_zero u (y +ℤ d) +ℤ if_zero (parity s u) z) h)

gain-before : (w : Window) (j i : ℕ) (s : State) (u : Bit) → i < j → gain (part_before w j) i s u ≡ gain w i s u
gain-before w j i s u lt =
    gain-same (at (take j w.sys) i) (at (take j w.cells) i) (at (take j w.par) i) (at w.sys i) (at w.cells i) (at w.par i) s u
    (get_or-take j w.sys i (pos 0) lt) (get_or-take j w.cells i (pos 0) lt) (get_or-take j w.par i (pos 0) lt)

gain-from : (w : Window) (j i : ℕ) (s : State) (u : Bit) → gain (part_from w j) i s u ≡ gain w (j + i) s u
gain-from w j i s u =
    gain-same (at (drop j w.sys) i) (at (drop j w.cells) i) (at (drop j w.par) i) (at w.sys (j + i)) (at w.cells (j + i)) (at w.par (j + i)) s u
    (get_or-drop j w.sys i (pos 0)) (get_or-drop j w.cells i (pos 0)) (get_or-drop j w.par i (pos 0))

earned-before : (g h : Gain) (n : ℕ) → ((i : ℕ) (s : State) (u : Bit) → i < n → g i s u ≡ h i s u) → (i : ℕ) (s : State) (us : List Bit) → i + length us ≡ n → earned g i s us ≡ earned h i s us
earned-before g h n e i s [] long = refl
earned-before g h n e i s (u ∷ us) long =
    ap (λ z. z +ℤ earned g (suc i) (next s u) us) (e i s u (omega (arith, long))) ∙ ap (λ z. h i s u +ℤ z) (earned-before g h n e (suc i) (next s u) us (omega (arith, long)))

earned-shifted : (g h : Gain) (j : ℕ) → ((i : ℕ) (s : State) (u : Bit) → g i s u ≡ h (j + i) s u) → (i k : ℕ) (s : State) (us : List Bit) → k ≡ j + i → earned g i s us ≡ earned h k s us
earned-shifted g h j e i k s [] place = refl
earned-shifted g h j e i k s (u ∷ us) place =
    ap (λ z. z +ℤ earned g (suc i) (next s u) us) (e i s u ∙ ap (λ n. h n s u) (sym place))
    ∙ ap (λ z. h k s u +ℤ z) (earned-shifted g h j e (suc i) (suc k) (next s u) us (omega (arith, place)))

-- ---- a part is as soft as the window

within-take : (n j i : ℕ) (xs : List ℤ) → ((i : ℕ) → IsWithin n (at xs i)) → IsWithin n (at (take j xs) i)
within-take n j i xs h =
    elim (cases_lt i j) [
      | inl below ↦ within-same n _ _ (get_or-take j xs i (pos 0) below) (h i)
      | inr past ↦ within-same n _ (pos 0) (get_or_past (take j xs) i (pos 0) (let e = length-take j xs in omega (arith, e, past))) (omega (arith, ints), omega (arith, ints))
    ]

within-drop : (n j i : ℕ) (xs : List ℤ) → ((i : ℕ) → IsWithin n (at xs i)) → IsWithin n (at (drop j xs) i)
within-drop n j i xs h = within-same n _ _ (get_or-drop j xs i (pos 0)) (h (j + i))

pub soft-before : (w : Window) (j : ℕ) → IsSoft w → IsSoft (part_before w j)
soft-before w j h = record {
  systematic = λ i. within-take 127 j i w.sys h.systematic;
  parity = λ i. within-take 127 j i w.par h.parity;
  cells = λ i. within-take 511 j i w.cells h.cells;
}

pub soft-from : (w : Window) (j : ℕ) → IsSoft w → IsSoft (part_from w j)
soft-from w j h = record {
  systematic = λ i. within-drop 127 j i w.sys h.systematic;
  parity = λ i. within-drop 127 j i w.par h.parity;
  cells = λ i. within-drop 511 j i w.cells h.cells;
}

-- ---- the metrics

forward-same : (first : State → ℤ) (g h : Gain) (n : ℕ) (m : State → ℤ) → ((i : ℕ) (s : State) (u : Bit) → i < n → g i s u ≡ h i s u) → IsForward first g n m → IsForward first h n m
forward-same first g h n m e is s =
    let x = (is s).attained in
    record {
      attained = (x.0, x.1, ap (λ z. first x.0.start +ℤ z) (sym (same x.0.start x.0.bits x.1.0)) ∙ x.2);
      bound = λ p ok. subst (λ (z : ℤ). (first p.start +ℤ z) ≤ℤ m s) (same p.start p.bits ok.0) ((is s).bound p ok);
    }
  where
    same : (s : State) (us : List Bit) → length us ≡ n → earned g 0 s us ≡ earned h 0 s us
    same s us long = earned-before g h n e 0 s us (omega (arith, long))

backward-shifted : (last : State → ℤ) (g h : Gain) (j n : ℕ) (m : State → ℤ) → ((i : ℕ) (s : State) (u : Bit) → g i s u ≡ h (j + i) s u) → IsBackward last g 0 n m → IsBackward last h j n m
backward-shifted last g h j n m e is s =
    let x = (is s).attained in
    record {
      attained = (x.0, x.1, ap (λ z. z +ℤ last (reached s x.0)) (sym (same x.0)) ∙ x.2);
      bound = λ us ok. subst (λ (z : ℤ). (z +ℤ last (reached s us)) ≤ℤ m s) (same us) ((is s).bound us ok);
    }
  where
    same : (us : List Bit) → earned g 0 s us ≡ earned h j s us
    same us = earned-shifted g h j e 0 j s us (omega arith)

pub best_to-forward : (w : Window) → IsForward (number_for w.start) (gain w) (width w) (best_to w)
best_to-forward w s = best_to-is w s

pub best_from-backward : (w : Window) → IsBackward (number_for w.end) (gain w) 0 (width w) (best_from w)
best_from-backward w s =
    let is = best_from-is w s in
    let x = is.attained in
    record {
      attained = (
        x.0.bits,
        x.1.0,
        ap (λ r. earned (gain w) 0 r x.0.bits +ℤ number_for w.end (reached r x.0.bits)) (sym x.1.1) ∙ x.2,
      );
      bound = λ us long. is.bound (path s us) (long, refl);
    }

pub best_to-before : (w : Window) (j : ℕ) → j ≤ width w → IsForward (number_for w.start) (gain w) j (best_to (part_before w j))
best_to-before w j le =
    let part : Window = part_before w j in
    forward-same (number_for w.start) (gain part) (gain w) j (best_to part) (gain-before w j)
    (subst (λ n. IsForward (number_for w.start) (gain part) n (best_to part)) (length-take-le j w.cells le) (best_to-forward part))

pub best_from-from : (w : Window) (j n : ℕ) → j + n ≡ width w → IsBackward (number_for w.end) (gain w) j n (best_from (part_from w j))
best_from-from w j n long =
    let part : Window = part_from w j in
    let e : width part ≡ n = length-drop j w.cells ∙ (let l : length w.cells - j ≡ n = omega (arith, long) in l) in
    backward-shifted (number_for w.end) (gain part) (gain w) j n (best_from part) (gain-from w j)
    (subst (λ i. IsBackward (number_for w.end) (gain part) 0 i (best_from part)) e (best_from-backward part))
