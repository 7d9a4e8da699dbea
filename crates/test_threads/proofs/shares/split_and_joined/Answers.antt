use Rattle.std.proofs.Common.{ℕ, sym, ap, ◌∙◌, subst}
use Prim.Native.Nat.{◌∣◌}
use Rattle.cell_shares.specs.Names.{Name}
use Rattle.test_threads.proofs.shares.split_and_joined.Goals as goal

pub new-requires-clause-divides : goal.new-requires-clause-divides
new-requires-clause-divides c = subst (λ (n : ℕ). c.args.windows ∣ n) (sym c.in_ok-numbers.ensures) c.requires.divides

pub returns : goal.returns
returns c =
    ap (λ (n : Name). n.count) (c.join.ensures.name _ _ c.split.ensures.shares) ∙ (c.in_ok-cells.ensures.count ∙ c.in_ok-numbers.ensures)
