-- How far a place of a buffer lies from its start. The sizes are machine words.
use Rattle.std.proofs.Common.{◌≡◌, ℕ, ◌*◌, ◌^◌, ◌<◌, ◌≤◌, arith}
use Rattle.std.proofs.Math.Nat.{mul-le-mul_left}

-- place n, of values of s bytes
pub record Reach (n s : ℕ) : Type 0 where
  pub size : s < 2 ^ 64
  pub offset : n * s < 2 ^ 64

pub reach : (n k s : ℕ) → n < k → k * s < 2 ^ 63 → Reach n s
reach n k s below small =
    let one : s * 1 ≤ s * k = mul-le-mul_left s (let h : 1 ≤ k = omega (arith, below) in h) in
    let many : s * n ≤ s * k = mul-le-mul_left s (let h : n ≤ k = omega (arith, below) in h) in
    let a : s * k ≡ k * s = omega arith in let b : s * n ≡ n * s = omega arith in
    record { size = omega (arith, one, a, small); offset = omega (arith, many, a, b, small) }
