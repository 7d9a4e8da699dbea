-- The laws of an interleaver of the table's form.
use Rattle.std.proofs.Common.{◌≡◌, ℕ, ◌+◌, ◌%◌, ◌<◌}
use Prim.Native.Nat.{◌∣◌}
use Rattle.model_sender.specs.InterleaverLaws.{pi_remainder}
use Rattle.qpp_table.specs.declared.interleaver.Qpp.{Qpp}
use Rattle.qpp_table.specs.Qpp.{size_in, value_at}
use Rattle.qpp_table.specs.LawfulLaws.{lawful-below, lawful_differs}

pub value-below : (q : Qpp) (i : ℕ) → i < size_in q → value_at q i < size_in q
value-below q i h = lawful-below q.k q.f1 q.f2 i h

pub values_differ : (q : Qpp) (i j : ℕ) → i < size_in q → j < size_in q → value_at q i ≡ value_at q j → i ≡ j
values_differ q i j li lj e = lawful_differs q.k q.f1 q.f2 i j q.lawful li lj e

pub value-kept : (q : Qpp) (i w : ℕ) → w ∣ size_in q → i + w < size_in q → value_at q (i + w) % w ≡ value_at q i % w
value-kept q i w d h = pi_remainder q.k q.f1 q.f2 w i d
