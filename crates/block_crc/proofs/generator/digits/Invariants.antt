use Rattle.std.proofs.Common.{◌≡◌, ◌/◌, ◌-◌, ◌^◌, take, length}
use Rattle.lte_bits.specs.Bits.{number}
use Rattle.block_crc.proofs.generator.digits.Given as goal

abbrev pub invariant-loop-i : goal.invariant-loop-i
invariant-loop-i l = record {
  width : length l.bits ≡ 24;
  value : number (take l.i l.bits) ≡ l.n / 2 ^ (24 - l.i);
}
