use Rattle.std.proofs.Common.{arith}
use Rattle.std.proofs.lemmas.Int.{ints, clamps}
use Rattle.soft_channel.proofs.terms.received.Goals as goal

pub returns : goal.returns
returns c =
    let near = c.sent.ensures.range in
    let low = c.requires.term in
    let is = c.clamp.ensures.value in
    let value = c.sent.ensures.value in
    omega (arith, ints, clamps, c.from_i8.ensures)
