use Rattle.std.proofs.Common.{List, ℕ, ap, ◌∙◌}
use Rattle.lte_bits.specs.Lists.{resized}
use Rattle.lte_bits.specs.declared.bit.Bit.{Bit}
use Rattle.lte_bits.specs.declared.bit.Bit.TheVariants.{Zero}
use Rattle.command_relay.proofs.HardBits.{none_missing}
use Rattle.command_relay.proofs.bits.bits_in.Goals as goal

pub returns : goal.returns
returns c =
    c.in_ok-resize.ensures.ok
    ∙ (ap (λ (n : ℕ). resized c.in_ok-bits.bits n Zero) c.g.ensures.value
    ∙ (ap (λ (bits : List Bit). resized bits c.args.m.now.g Zero) c.in_ok-bits.ensures
    ∙ none_missing c.args.m.now c.args.bytes.now c.requires))
