use Rattle.std.proofs.Common.{◌≡◌, ℕ, ◌≤◌, List, length, drop, map, replicate, sym, ◌∙◌, arith, length-append, length-drop}
use Rattle.std.proofs.lemmas.List.{ext_get_or, length-map, length-replicate}
use Rattle.lte_bits.specs.declared.bit.Bit.TheVariants.{Zero}
use Rattle.model_receiver.specs.Windows.{Extrinsic}
use Rattle.model_receiver.specs.Decoding.{decided_bit, decided_bits}
use Rattle.half_iteration.proofs.bits.decide.Goals as goal

length-decided : (fill : ℕ) (cells : List Extrinsic) → fill ≤ length cells → length (decided_bits fill cells) ≡ length cells
length-decided fill cells le =
    omega (arith, length-append (replicate fill Zero) (drop fill (map decided_bit cells)), length-replicate fill Zero, length-drop fill (map decided_bit cells), length-map cells decided_bit)

pub returns : goal.returns
returns c =
    let long : length c.loop-i.bits ≡ length c.args.cells.now = omega (arith, c.loop-i.auto.bits, c.requires.long) in
    ext_get_or Zero _ _ (long ∙ sym (length-decided c.args.fill c.args.cells.now c.requires.fill))
    (λ k lt. c.loop-i.invariant k (omega (arith, c.loop-i-test.false, c.loop-i.auto.i-end, c.loop-i.auto.bits, lt)))
