use Rattle.std.proofs.Common.{◌/◌, ◌<◌, length, ◌∙◌, arith}
use Rattle.block_crc.proofs.Chunks.{chunk_more}
use Rattle.block_crc.proofs.generator.Generator.remainder.Goals as goal

pub loop-sixteen-preserved : goal.loop-sixteen-preserved
loop-sixteen-preserved c =
    let bits = c.args.bits.now in
    let loop = c.loop-sixteen in
    let below : loop.sixteen-index < length bits / 16 = omega (arith, c.loop-sixteen-test.true, c.as_chunks.ensures.front_len) in
    record {
      value =
          chunk_more c.args.self.now.coefficients 16 (length bits / 16) loop.sixteen-index loop.rest c.remainder_of_sixteen-rest.result
          bits _ c.as_chunks.result.0.now below c.as_chunks.ensures.front c.remainder_of_sixteen-rest.ensures.value
          ∙ loop.invariant.value;
      small = c.remainder_of_sixteen-rest.ensures.small;
    }
