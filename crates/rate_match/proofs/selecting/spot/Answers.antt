use Rattle.std.proofs.Common.{arith}
use Rattle.rate_match.proofs.SizeSteps.{size-step}
use Rattle.rate_match.proofs.selecting.spot.Goals as goal

pub rows_of-rows-requires : goal.rows_of-rows-requires
rows_of-rows-requires c = (size-step c.args.k c.requires.size).few

pub invariant_of-ring : goal.invariant_of-ring
invariant_of-ring c = record {
  few = (size-step c.args.k c.requires.size).few;
  fills = omega (arith, c.requires.fills);
  height = c.rows_of-rows.ensures.value;
  some = omega (arith, c.rows_of-rows.ensures.some);
  within = omega (arith, c.rows_of-rows.ensures.value);
  keeps = omega (arith, c.rows_of-rows.ensures.value);
}
