use Rattle.std.proofs.Common.{◌*◌, ◌+◌, ◌%◌, ◌^◌, ap, sym, [], ◌∙◌, arith}
use Rattle.std.proofs.lemmas.List.{append-nil}
use Rattle.lte_bits.specs.Packing.{bits_of}
use Rattle.lte_bits.proofs.UnpackedParts.{number-bits_of}
use Rattle.model_sender.specs.CheckBits.{remainder}
use Rattle.block_crc.proofs.Linear.{byte-by_table, remainder-small}
use Rattle.block_crc.proofs.generator.Generator.remainder_of_byte.Goals as goal

pub returns-clause-value : goal.returns-clause-value
returns-clause-value c bits long is =
    let g = c.args.self.now in
    byte-by_table g.coefficients c.args.start c.moved.result 8 g.shift24 bits [] g.monic g.shift24_table c.requires long (omega (arith)) (omega (arith, is))
    (c.moved.ensures.value ∙ ap (λ n. c.args.start % 2 ^ 16 * 256 + n) (sym is))
    ∙ ap (remainder g.coefficients c.args.start) (append-nil bits)

pub returns-clause-small : goal.returns-clause-small
returns-clause-small c =
    let g = c.args.self.now in
    let bits = bits_of c.args.byte in
    omega (arith, returns-clause-value c bits (omega arith) (number-bits_of c.args.byte (omega arith)), remainder-small g.coefficients c.args.start bits g.monic c.requires)
