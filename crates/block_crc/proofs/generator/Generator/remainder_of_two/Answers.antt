use Rattle.std.proofs.Common.{◌+◌, ◌*◌, ◌/◌, ◌%◌, ◌^◌, ◌++◌, bit_xor, get_or, ap, sym, ◌∙◌, arith}
use Rattle.lte_bits.specs.Packing.{bits_of}
use Rattle.lte_bits.proofs.UnpackedParts.{number-bits_of}
use Rattle.block_crc.proofs.Linear.{byte-by_table, remainder-small}
use Rattle.block_crc.proofs.generator.Generator.remainder_of_two.Goals as goal

pub returns-clause-value : goal.returns-clause-value
returns-clause-value c a b long is rest follows =
    let g = c.args.self.now in
    ap (bit_xor (get_or g.shift32 (c.args.start / 65536) 0)) (c.remainder_of_byte-rest.ensures.value b rest follows)
    ∙ byte-by_table g.coefficients c.args.start c.moved.result 16 g.shift32 a b g.monic g.shift32_table c.requires long (omega (arith, rest)) (omega (arith, is))
    (c.moved.ensures.value ∙ ap (λ n. c.args.start % 2 ^ 16 * 256 + n) (sym is))

pub returns-clause-small : goal.returns-clause-small
returns-clause-small c =
    let g = c.args.self.now in
    let a = bits_of c.args.first in
    let b = bits_of c.args.second in
    omega (
      arith,
      returns-clause-value c a b (omega arith) (number-bits_of c.args.first (omega arith)) (omega arith) (number-bits_of c.args.second (omega arith)),
      remainder-small g.coefficients c.args.start (a ++ b) g.monic c.requires,
    )
