use Rattle.std.proofs.Common.{ℕ, sym, subst, refl}
use Rattle.std.proofs.lemmas.Nat.Gcd.{dvd_of_mod-eq-zero}
use Prim.Native.Nat.{◌∣◌}
use Rattle.test_sender.proofs.interleaver.place_one.Goals as goal

pub bank_row-requires-clause-windows : goal.bank_row-requires-clause-windows
bank_row-requires-clause-windows c = subst (λ (n : ℕ). 4 ∣ n) (sym c.requires.size) (dvd_of_mod-eq-zero 4 refl)
