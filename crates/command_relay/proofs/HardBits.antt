-- The bits of a hard transmission.
use Rattle.std.proofs.Common.{◌≡◌, ℕ, ◌-◌, ◌*◌, ◌≤◌, true, List, length, ap, ◌∙◌, arith}
use Rattle.std.proofs.lemmas.List.{append-nil, length-take-le}
use Rattle.std.specs.Prelude.{replicate, ◌++◌}
use Rattle.std.specs.Int.{div_ceil}
use Rattle.lte_bits.specs.Lists.{resized}
use Rattle.lte_bits.specs.Packing.{unpacked}
use Rattle.lte_bits.specs.declared.bit.Bit.TheVariants.{Zero}
use Rattle.lte_bits.proofs.Unpacking.{length-unpacked}
use Rattle.model_sender.specs.CircularBuffer.{Match}
use Rattle.coded_stream.specs.Header.{kind_code}
use Rattle.coded_stream.specs.Opening.{is_wanted}
use Rattle.coded_stream.specs.Blocks.{IsTransmission}
use Rattle.coded_stream.specs.declared.kind.Kind.{Kind}
use Rattle.coded_stream.specs.declared.kind.Kind.TheVariants.{Hard, Soft}
use Rattle.coded_stream.specs.declared.kind.Want.TheVariants as want
use Rattle.command_relay.specs.HardBits.{bits_in}

-- where only hard streams are taken, each transmission is hard
pub hard_alone : (kind : Kind) (g : ℕ) (bytes : List ℕ) → is_wanted want.Hard (kind_code kind) ≡ true → IsTransmission kind g bytes → IsTransmission Hard g bytes
hard_alone Hard g bytes wanted one = one
hard_alone Soft g bytes wanted one = cc

up : (n : ℕ) → n ≤ 8 * div_ceil n 8
up n = omega arith

-- there are at least as many bits as are used
enough : (g : ℕ) (bytes : List ℕ) → IsTransmission Hard g bytes → g ≤ length (unpacked bytes)
enough g bytes one =
    let size : length bytes ≡ div_ceil g 8 = one.size in
    omega (arith, length-unpacked bytes, size, up g)

pub length_bits : (m : Match) (bytes : List ℕ) → IsTransmission Hard m.g bytes → length (bits_in m bytes) ≡ m.g
length_bits m bytes one = length-take-le m.g (unpacked bytes) (enough m.g bytes one)

-- resizing to those that are used only drops the others
pub none_missing : (m : Match) (bytes : List ℕ) → IsTransmission Hard m.g bytes → resized (unpacked bytes) m.g Zero ≡ bits_in m bytes
none_missing m bytes one =
    let none : m.g - length (unpacked bytes) ≡ 0 = omega (arith, enough m.g bytes one) in
    ap (λ n. bits_in m bytes ++ replicate n Zero) none ∙ append-nil (bits_in m bytes)
