use Rattle.std.proofs.Common.{◌≡◌, ℕ, eq-eqb, subst, arith}
use Rattle.std.proofs.lemmas.Bool.{eqb-true}
use Rattle.std.proofs.lemmas.Nat.Gcd.{IsGcd-from_zero, IsGcd-from_mod}
use Rattle.qpp_table.proofs.Units.{IsReached, reached_whole, reached_once, reached_rest, one_from_unit}
use Rattle.qpp_table.proofs.modular.is_unit.Goals as goal

pub loop-b-init : goal.loop-b-init
loop-b-init c = record {
  first = reached_whole c.args.k c.args.f c.requires;
  second = reached_once c.args.k c.args.f;
  divisors = λ g h. h;
}

pub loop-b-preserved : goal.loop-b-preserved
loop-b-preserved c =
    let old = c.loop-b.invariant in
    record {
      first = old.second;
      second = reached_rest c.args.k c.args.f c.loop-b.a c.loop-b.b c.requires old.first old.second;
      divisors = λ g h. old.divisors g (IsGcd-from_mod c.loop-b.a c.loop-b.b g h);
    }

pub returns : goal.returns
returns c =
    let k = c.args.k in let f = c.args.f in let a = c.loop-b.a in
    let end : c.loop-b.b ≡ 0 = omega arith in
    let divisors = c.loop-b.invariant.divisors a (IsGcd-from_zero a c.loop-b.b end) in (
      λ one. subst (λ (n : ℕ). IsReached k f n) (eqb-true a 1 one) c.loop-b.invariant.first,
      λ unit. eq-eqb a 1 (one_from_unit k f a divisors.0 divisors.1 unit),
    )
