-- The lease of a buffer of the global allocator, as a type with its laws.
use denote.RattleType.{RattleType}
use denote.Param.Laws.{Laws}
use Rattle.std.specs.contracts.alloc.Global as heap
use Rattle.std.specs.contracts.impls.GlobalAllocator.TheImpl.{ghosts}
use Rattle.std.proofs.alloc.Global.TheLaws as heap_laws
use Rattle.core.specs.contracts.slots.Lease as lease
use Rattle.core.proofs.slots.Lease.TheLaws as lease_laws
use Rattle.cell_shares.specs.contracts.right.FreeRight as right

module _ (R : RattleType) where
  abbrev pub HeapLease : RattleType
  HeapLease = lease.the_row R heap.the_row ghosts

  abbrev pub Right : RattleType
  Right = right.the_row R

  pub lease-laws : Laws R → Laws HeapLease
  lease-laws L = lease_laws.the_row_laws R heap.the_row ghosts L heap_laws.the_row_laws
