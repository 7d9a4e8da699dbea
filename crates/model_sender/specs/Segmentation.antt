-- The segmentation plan of a transport block (36.212 5.1.2).
use Rattle.std.specs.Prelude.{ℕ, ◌+◌, ◌-◌, ◌*◌, ◌/◌, nat_le, nat_lt, ◌==◌, if◌then◌else◌, filter}
use Rattle.std.specs.Int.{div_ceil}
use Rattle.model_sender.specs.Bits.{least, greatest}
use Rattle.model_sender.specs.Interleaver.{sizes}

-- B, the payload's bits and its 24 check bits
abbrev pub bits_of : ℕ → ℕ
bits_of bytes = 8 * bytes + 24

-- C, the number of code blocks, where Z = 6144
abbrev pub count_of : ℕ → ℕ
count_of b = if nat_le b 6144 then 1 else div_ceil b (6144 - 24)

-- L, the check bits that each of C blocks carries
abbrev pub check_length : ℕ → ℕ
check_length c = if nat_lt 1 c then 24 else 0

-- B', all the bits that the blocks carry
abbrev pub carried : ℕ → ℕ
carried b = b + count_of b * check_length (count_of b)

-- K+, the least size of which C hold n bits
abbrev pub larger_size : ℕ → ℕ → ℕ
larger_size c n = least (filter (λ k. nat_le n (c * k)) sizes)

-- K-, the greatest size below K+, where there are several blocks
abbrev pub smaller_size : ℕ → ℕ → ℕ
smaller_size c k_plus = if c == 1 then 0 else greatest (filter (λ k. nat_lt k k_plus) sizes)

-- C blocks of K+ or K- bits, which carry so many bits
pub record Division : Type 0 where
  pub c : ℕ
  pub bits : ℕ
  pub k_plus : ℕ
  pub k_minus : ℕ

-- C-, the number of blocks of size K-
abbrev pub smaller_count : Division → ℕ
smaller_count d = if d.c == 1 then 0 else (d.c * d.k_plus - d.bits) / (d.k_plus - d.k_minus)

pub record Plan : Type 0 where
  pub bytes : ℕ
  pub c : ℕ
  pub k_plus : ℕ
  pub k_minus : ℕ
  pub c_plus : ℕ
  pub c_minus : ℕ
  pub f : ℕ

-- the plan of a division of a payload of so many bytes, its check bits and the blocks' own
abbrev pub planned : ℕ → Division → Plan
planned bytes d =
    let c_minus = smaller_count d in
    let c_plus = d.c - c_minus in
    record {
      bytes = bytes;
      c = d.c;
      k_plus = d.k_plus;
      k_minus = d.k_minus;
      c_plus = c_plus;
      c_minus = c_minus;
      f = c_plus * d.k_plus + c_minus * d.k_minus - d.bits;
    }

unfoldable pub plan_of : ℕ → Plan
plan_of bytes =
    let b = bits_of bytes in
    let c = count_of b in
    let n = carried b in
    let k_plus = larger_size c n in
    planned bytes (record { c = c; bits = n; k_plus = k_plus; k_minus = smaller_size c k_plus })

-- the size of block r
abbrev pub size : Plan → ℕ → ℕ
size plan r = if nat_lt r plan.c_minus then plan.k_minus else plan.k_plus

-- the fillers of block r
abbrev pub fill : Plan → ℕ → ℕ
fill plan r = if r == 0 then plan.f else 0
