use Rattle.std.proofs.Common.{◌≡◌, Bool, true, false, List, refl}
use Rattle.lte_bits.specs.declared.bit.Bit.{Bit}
use Rattle.model_sender.specs.CheckBits.{IsMultiple}
use Rattle.model_receiver.specs.declared.result.CheckKind.{CheckKind}
use Rattle.model_receiver.specs.Decoding.{check_holds, generator}
use Rattle.model_receiver.proofs.DecodedOnce.{checks-true, checks-false}
use Rattle.model_receiver.proofs.decoding.checks_tell_multiples.Goals as goal

told : (kind : CheckKind) (bits : List Bit) → IsMultiple (generator kind) bits → (b : Bool) → check_holds kind bits ≡ b → b ≡ true
told kind bits m true e = refl
told kind bits m false e = absurd (checks-false kind bits e m)

pub returns : goal.returns
returns c = λ kind bits. (λ t. checks-true kind bits t, λ m. told kind bits m (check_holds kind bits) refl)
