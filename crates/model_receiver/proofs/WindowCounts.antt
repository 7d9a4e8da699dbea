-- The greatest number of windows, by what it divides and leaves.
use Rattle.std.proofs.Common.{◌≡◌, ℕ, ◌+◌, ◌-◌, ◌*◌, ◌%◌, ◌<◌, ◌≤◌, Contains, length, sym, ◌∙◌, arith}
use Rattle.std.specs.Prelude.{◌==◌, nat_le}
use Rattle.std.specs.List.{range_with_len}
use Rattle.std.proofs.lemmas.Bool.{eq-eqb, eqb-true, le-leb, leb-true, and_from, and_parts}
use Rattle.std.proofs.lemmas.List.FromFn.{get_or-range_with_len, length-range_with_len}
use Rattle.std.proofs.lemmas.Nat.Gcd.{dvd_of_mod-eq-zero, mod-eq-zero_of_dvd}
use Prim.Native.Nat.{◌∣◌}
use Rattle.model_sender.proofs.Extremes.{greatest-one}
use Rattle.model_receiver.specs.TransportBlocks.{divides_into, window_count}

in_range : (m d : ℕ) → 1 ≤ d → d ≤ m → Contains (range_with_len 1 m) d
in_range m d some within =
    let lt : d - 1 < m = omega (arith, some, within) in
    let long : length (range_with_len 1 m) ≡ m = length-range_with_len 1 m in
    let is : 1 + (d - 1) ≡ d = omega (arith, some) in
    (d - 1, omega (arith, lt, long), get_or-range_with_len 1 m (d - 1) d lt ∙ is)

out_of_range : (m d : ℕ) → Contains (range_with_len 1 m) d → d ≤ m
out_of_range m d h =
    let long : length (range_with_len 1 m) ≡ m = length-range_with_len 1 m in
    let within : h.0 < length (range_with_len 1 m) = h.1 in
    let lt : h.0 < m = omega (arith, within, long) in
    let is : 1 + h.0 ≡ d = sym (get_or-range_with_len 1 m h.0 d lt) ∙ h.2 in
    omega (arith, lt, is)

pub count-is : (k m d : ℕ) → 1 ≤ d → d ∣ k → 8 * d ≤ k → d ≤ m → ((n : ℕ) → n ∣ k → 8 * n ≤ k → n ≤ m → n ≤ d) → window_count k m ≡ d
count-is k m d some divides wide within most =
    sym (greatest-one (divides_into k) (range_with_len 1 m) d (record {
      inside = in_range m d some within;
      pass = and_from (k % d == 0) (nat_le (8 * d) k) (eq-eqb (k % d) 0 (mod-eq-zero_of_dvd d divides)) (le-leb (8 * d) k wide);
      greatest = λ n inside ok.
          let parts = and_parts (k % n == 0) (nat_le (8 * n) k) ok in
          most n (dvd_of_mod-eq-zero n (eqb-true (k % n) 0 parts.0)) (leb-true (8 * n) k parts.1) (out_of_range m n inside);
    }))
