use Rattle.std.specs.Prelude.{replicate}
use Rattle.std.proofs.Common.{◌≡◌, ℕ, ◌+◌, ◌-◌, ◌*◌, List, ◌++◌, length, take, sym, ap, ◌∙◌, arith}
use Rattle.lte_bits.specs.declared.bit.Bit.{Bit}
use Rattle.lte_bits.specs.declared.bit.Bit.TheVariants.{Zero}
use Rattle.lte_bits.proofs.Pushes.{rest_written, longer-kept}
use Rattle.lte_bits.proofs.Unpacking.{length-unpacked}
use Rattle.lte_bits.proofs.packing.push_unpacked.Goals as goal

pub returns : goal.returns
returns c =
    let had : List Bit = c.args.bits.now.items in
    let from : ℕ = c.len-from.result in
    let n : ℕ = 8 * length c.args.bytes.now in
    let now = c.as_mut_slice.result.now in
    let new = c.write_unpacked.new.bits in
    let first : from ≡ length had = c.len-from.ensures ∙ c.args.bits.now.ok.0 in
    let all : c.in_ok-ok_or.field-0 ≡ from + n = grind (arith, c.checked_mul.ensures, c.checked_add.ensures) in
    let grown : c.resize.new.self.len ≡ from + n = c.in_ok-resize.ensures.len ∙ all in
    rest_written from n c.resize.new.self.len had now new _ _ first grown (ap length c.write_unpacked.ensures ∙ length-unpacked c.args.bytes.now)
    (longer-kept from n Zero had now c.resize.new.self.items first c.as_mut_slice.ensures.value
    (c.in_ok-resize.ensures.items ∙ ap (λ (m : ℕ). take m had ++ replicate (m - c.args.bits.now.len) Zero) all ∙ ap (λ (m : ℕ). take (from + n) had ++ replicate (from + n - m) Zero) (sym c.len-from.ensures)))
    ∙ ap (λ (bits : List Bit). had ++ bits) c.write_unpacked.ensures
