-- Cells by their parts.
use Rattle.std.proofs.Common.{◌≡◌, ℤ, Bool, ap, ◌∙◌}
use Rattle.model_receiver.specs.Windows.{Extrinsic}

pub same_cell : (a b : ℤ) (p q : Bool) → a ≡ b → p ≡ q → (let c : Extrinsic = record { value = a; one = p } in c) ≡ (let d : Extrinsic = record { value = b; one = q } in d)
same_cell a b p q e f = ap (λ (z : ℤ). let c : Extrinsic = record { value = z; one = p } in c) e ∙ ap (λ (t : Bool). let c : Extrinsic = record { value = b; one = t } in c) f
