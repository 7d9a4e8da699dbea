-- A part goes to another thread where its values do: it owns cells, and nothing else.
use Rattle.cell_shares.proofs.Names.{ℕ, List, [], ◌∷◌, full_share, RattleType, Ptr, block_ptr, null_ptr, in_block}
use base.Shift.{Keyless}
use denote.Param.Send.{IsSend, part_keyless}
use Rattle.cell_shares.specs.Ownership.{cells_at}
use Rattle.cell_shares.specs.contracts.part.Part.{the_row}

module _ (R : RattleType) (s : IsSend R) where
  cells_keyless : (b o : ℕ) (cs : List (ℕ × R.Denot)) → Keyless (cells_at R (block_ptr b o) cs)
  cells_keyless b o [] = tt
  cells_keyless b o (c ∷ cs) = (part_keyless R s full_share c.1 b _, cells_keyless b o cs)

  inside_keyless : (p : Ptr) (cs : List (ℕ × R.Denot)) → Keyless (in_block p (cells_at R p cs))
  inside_keyless (block_ptr b o) cs = cells_keyless b o cs
  inside_keyless null_ptr cs = tt

pub send : (T : RattleType) → IsSend T → IsSend (the_row T)
send T s = record { owned = λ d vs. ((λ vss. (tt, (tt, tt))), (tt, inside_keyless T s d.ptr d.cells)); leaving = λ k x vs. tt }
