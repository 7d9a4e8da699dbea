-- A row of the kit as the machine holds it: the pointer to its places and their number.
use Rattle.cell_shares.proofs.Names.{◌≡◌, ℕ, [], ◌∷◌, ◌++◌, ap, ◌∙◌, w64, Val, vint, vstruct, vcons, vnil, of_list, RattleType, RawPtr, usize, Ptr, ptr_val, Tuple, Is}
use denote.Param.Laws.{Laws}
use denote.Steps.{only}
use Rattle.core.specs.Mem.Slots.{slots_ptr, slots_len}
use Rattle.core.specs.contracts.slots.Slots as row
use Rattle.core.proofs.slots.Slots.TheLaws as row_laws

-- a pointer and a number, in a struct or as a pair
abbrev pub pair_word : Ptr → ℕ → Val
pair_word p n = vstruct (vcons (ptr_val p) (vcons (vint w64 n) vnil))

abbrev pub RawParts : RattleType
RawParts = Tuple (RawPtr ∷ usize ∷ [])

pub parts_word : (d : RawParts.Denot) (v : Val) → Is RawParts d (v ∷ []) → v ≡ pair_word d.0 d.1
parts_word d v is = ap only is.1.0 ∙ (λ i. vstruct (of_list (is.1.1.0 i ++ (is.1.1.1.0.0 i ++ []))))

module _ (R : RattleType) where
  abbrev pub Row : RattleType
  Row = row.the_row R

  module _ (L : Laws R) where
    pub row-laws : Laws Row
    row-laws = row_laws.the_row_laws R L

    pub row_word : (r : Row.Denot) (v : Val) → Is Row r (v ∷ []) → v ≡ pair_word (slots_ptr r) (slots_len r)
    row_word r v is = ap only ((row_laws.lowers R L).val_is r (v ∷ []) is)
