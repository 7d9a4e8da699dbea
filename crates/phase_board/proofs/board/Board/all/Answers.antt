use Rattle.std.proofs.Common.{arith, ap, ◌∙◌, ℕ, ◌-◌, ◌^◌, ◌≡◌}
use Rattle.std.proofs.lemmas.Nat.Bits.{ones_shr}
use Rattle.phase_board.proofs.board.Board.all.Goals as goal

pub returns : goal.returns
returns g c =
    let size = c.args.self.now.sized in let n : ℕ = c.args.self.now.count in let e : 64 - (64 - n) ≡ n = omega (arith, size.3) in
    ones_shr 64 (64 - n) (omega arith) ∙ ap (λ (k : ℕ). 2 ^ k - 1) e
