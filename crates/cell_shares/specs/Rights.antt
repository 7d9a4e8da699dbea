-- Which share holds the right to free the buffer.
use Rattle.std.specs.Prelude.{◌≡◌, ◌≢◌, ℕ, Option}
use Rattle.std.specs.Option.{ForSome, ForNone}
use Rattle.std.specs.Ptr.{Ptr}
use Rattle.core.specs.Mem.Slots.{lease_ptr, lease_len, lease_heap}
use Rattle.cell_shares.specs.declared.right.FreeRight.{FreeRight}
use Rattle.std.specs.Global.{Global}

-- the right to free the buffer of n places at p
abbrev pub IsRightTo : {X : Type 0} → Ptr → ℕ → Global → FreeRight X → Type 0
IsRightTo p n heap r = (lease_ptr r.lease ≡ p) × (lease_len r.lease ≡ n) × (lease_heap r.lease ≡ heap)

-- share 0 alone holds it
abbrev pub HoldsRight : {X : Type 0} → Option (FreeRight X) → Ptr → ℕ → Global → ℕ → Type 0
HoldsRight right p n heap number =
    ForSome right (λ r. (number ≡ 0) × IsRightTo p n heap r) × ForNone right (number ≢ 0)
