-- A lease of the heap's may go to another thread, since the heap frees a block on any; so may what holds nothing else.
use mir.Raw.{raw}
use mir.Syntax.{ty_array}
use denote.Builtin.{RawPtr, usize}
use denote.Memory.{lone}
use denote.RattleType.{RattleType}
use denote.Param.Send.{IsSend, owning_send, sendable}
use Rattle.core.specs.contracts.slots.Lease as lease
use Rattle.std.proofs.Crossing.{frees}
use Rattle.std.specs.contracts.alloc.Global as heap
use Rattle.std.specs.contracts.impls.GlobalAllocator.TheImpl.{ghosts}
use Rattle.cell_shares.proofs.Leases.{HeapLease, Right}
use Rattle.cell_shares.specs.contracts.right.FreeRight as right

pointer_send : IsSend RawPtr
pointer_send = search sendable

number_send : IsSend usize
number_send = search sendable

lease_send : (T : RattleType) → IsSend (HeapLease T)
lease_send T = owning_send (lease.the_type T heap.the_row ghosts) (pointer_send, (number_send, (record { owned = λ d vs uss. (tt, tt); leaving = λ k d vs. tt }, tt)))
    (λ d. frees.frees d.alloc (raw (ty_array (lone T.mir) d.len)) d.ptr) (λ k d vs. tt)

pub send : (T : RattleType) → IsSend (Right T)
send T = owning_send (right.the_type T) (lease_send T, tt) (λ d. tt) (λ k d vs. (tt, tt))
