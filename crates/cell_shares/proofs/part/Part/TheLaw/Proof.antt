-- What a `&` to a part holds is lent with the part, since what it holds of each cell is lent with the cell.
use mathlib.Core.List.{List, [], ◌∷◌, ◌++◌}
use Prim.Native.Nat.{ℕ}
use seplogic.Ra.Ura.{Ura}
use base.Fraction.{full_share}
use base.Fml.{Lft, Fml, ftrue, Incl-trans}
use types.Logic.{Logic}
use contract.BorrowLft.{meet_⊑_left}
use denote.RattleType.{RattleType}
use denote.Sharing.{ShrLaws, said}
use denote.SharingLaws.{nothing_shr_laws, said_shr_laws, beside_shr_laws}
use denote.RawPtr.{Ptr, block_ptr, null_ptr, lies_at, in_block}
use denote.Shares.{Shares, Shares-less}
use denote.Param.Laws.{Laws}
use denote.Param.Shared.{copy_shared}
use denote.Struct.Field.{RawPtr-field}
use denote.Struct.Laws.{RawPtr-copy}
use denote.Struct.Lending.{lent_at, lent_at_shr_laws, Lends, Lends-false, Lends-lies, Lends-said, Lends-nothing, Lends-both, of_Lends}
use Rattle.cell_shares.specs.Ownership.{each_owned, each_lent, cell_ptr, cells_at, cells_lent, buffer_fits, part_owns, part_lent}
use Rattle.cell_shares.specs.contracts.part.Part as part
use Rattle.cell_shares.proofs.part.Part.TheLaw.Statement.{statement}

module _ {X : Type 0} (lend : X → Lft → Fml) where
  laws_of_each : ((x : X) → ShrLaws (lend x)) → (xs : List X) → ShrLaws (each_lent lend xs)
  laws_of_each one [] = nothing_shr_laws
  laws_of_each one (x ∷ xs) = beside_shr_laws (lend x) (each_lent lend xs) (one x) (laws_of_each one xs)

  module _ {M : Type 1} {𝓤 : Ura M} (𝓛 : Logic 𝓤) (l : Lft) (own : X → Fml) where
    lends_each : ((x : X) → Lends 𝓛 (own x) (lend x) l) → (xs : List X) → Lends 𝓛 (each_owned own xs) (each_lent lend xs) l
    lends_each one [] = Lends-nothing 𝓛 ftrue l
    lends_each one (x ∷ xs) = Lends-both 𝓛 (own x) (each_owned own xs) (lend x) (each_lent lend xs) l (one x) (lends_each one xs)

module _ (R : RattleType) where
  lent_laws : Laws R → (p : Ptr) (n : ℕ) (cells : List (ℕ × R.Denot)) → ShrLaws (part_lent R p n cells)
  lent_laws L p n cells =
      let each = laws_of_each (λ c. lent_at R (cell_ptr R p c) c.1) (λ c. lent_at_shr_laws R L.shr_laws (cell_ptr R p c) c.1) cells in
      beside_shr_laws (said (buffer_fits R n)) (cells_lent R p cells) (said_shr_laws (buffer_fits R n) tt) each

  module _ {M : Type 1} {𝓤 : Ura M} (𝓛 : Logic 𝓤) (l : Lft) (shared : Shares 𝓛 R l) (n : ℕ) (cells : List (ℕ × R.Denot)) where
    cells_lend : (p : Ptr) → Lends 𝓛 (in_block p (cells_at R p cells)) (cells_lent R p cells) l
    cells_lend null_ptr = Lends-false 𝓛 (cells_lent R null_ptr cells) l
    cells_lend (block_ptr b o) = let p : Ptr = block_ptr b o in
        lends_each (λ c. lent_at R (cell_ptr R p c) c.1) 𝓛 l (λ c. lies_at R full_share (cell_ptr R p c) c.1) (λ c. Lends-lies 𝓛 R l (cell_ptr R p c) c.1 (shared c.1)) cells

    part_lends : (p : Ptr) → Lends 𝓛 (part_owns R p n cells) (part_lent R p n cells) l
    part_lends p = Lends-both 𝓛 (buffer_fits R n) (in_block p (cells_at R p cells)) (said (buffer_fits R n)) (cells_lent R p cells) l (Lends-said 𝓛 (buffer_fits R n) tt l) (cells_lend p)

pub shares : (R : RattleType) (L : Laws R) → statement R L
shares R L =
    let lives : Lft = (part.the_row R).lives in
    of_Lends (part.struct R) (part.the_codes R.Denot R.coded) (part.the_heap R) (part.the_lent R) (λ d at. lent_laws R L d.ptr d.count d.cells) (copy_shared RawPtr-field RawPtr-copy, tt)
    (λ M 𝓤 𝓛 d at.
    part_lends R 𝓛 lives (Shares-less 𝓛 R R.lives lives (Incl-trans (meet_⊑_left (R.lives ++ []) _) (meet_⊑_left R.lives [])) (L.shares 𝓛)) d.count d.cells d.ptr)
