-- What a part of a buffer owns, and what a `&` to one holds, for cells of any type R.
use Rattle.core.specs.Prelude.{ℕ, ◌*◌, ◌^◌, List, [], ◌∷◌}
use base.Fraction.{full_share}
use base.Fml.{Lft, Fml, ftrue, fsep, flt}
use denote.RattleType.{RattleType}
use denote.RawPtr.{Ptr, lies_at, in_block, ◌+ₚ◌}
use denote.Sharing.{nothing, said, beside}
use denote.Struct.Lending.{lent_at}
use Rattle.core.specs.Mem.Slots.Ownership.{bytes_of}

-- all of some things, each as `own` says, side by side
abbrev pub each_owned : {X : Type 0} → (X → Fml) → List X → Fml
each_owned own [] = ftrue
each_owned own (x ∷ xs) = fsep (own x) (each_owned own xs)

-- the same of what is lent
abbrev pub each_lent : {X : Type 0} → (X → Lft → Fml) → List X → Lft → Fml
each_lent lend [] = nothing
each_lent lend (x ∷ xs) = beside (lend x) (each_lent lend xs)

-- where a cell of the buffer that begins at p lies
abbrev pub cell_ptr : (R : RattleType) → Ptr → ℕ × R.Denot → Ptr
cell_ptr R p c = p +ₚ (c.0 * bytes_of R)

abbrev pub cells_at : (R : RattleType) → Ptr → List (ℕ × R.Denot) → Fml
cells_at R p cells = each_owned (λ c. lies_at R full_share (cell_ptr R p c) c.1) cells

abbrev pub cells_lent : (R : RattleType) → Ptr → List (ℕ × R.Denot) → Lft → Fml
cells_lent R p cells = each_lent (λ c. lent_at R (cell_ptr R p c) c.1) cells

-- a buffer of n places has lawful addresses
abbrev pub buffer_fits : RattleType → ℕ → Fml
buffer_fits R n = flt (n * bytes_of R) (2 ^ 63)

abbrev pub part_owns : (R : RattleType) → Ptr → ℕ → List (ℕ × R.Denot) → Fml
part_owns R p n cells = fsep (buffer_fits R n) (in_block p (cells_at R p cells))

abbrev pub part_lent : (R : RattleType) → Ptr → ℕ → List (ℕ × R.Denot) → Lft → Fml
part_lent R p n cells = beside (said (buffer_fits R n)) (cells_lent R p cells)
