use Rattle.std.proofs.Common.{◌≡◌, ℕ, length, refl, sym, ap, ◌∙◌, subst, inl, arith}
use Prim.Native.Nat.{◌∣◌}
use Rattle.std.proofs.lemmas.Nat.Gcd.{dvd_of_mod-eq-zero}
use Rattle.test_receiver.proofs.lanes.eight_banks.Goals as goal

pub new-requires : goal.new-requires
new-requires c =
    let long : length c.from_vec.result ≡ 64 = ap length c.from_vec.ensures ∙ c.requires in (
      omega arith,
      (
        inl refl,
        (
          subst (λ (n : ℕ). 8 ∣ n) (sym long) (dvd_of_mod-eq-zero 8 {n = 64} (omega arith)),
          (omega (arith, long), omega (arith, long)),
        ),
      ),
    )
