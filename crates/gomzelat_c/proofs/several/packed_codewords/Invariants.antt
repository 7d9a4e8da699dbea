use Rattle.std.proofs.Common.{◌≡◌, flat_map, length, sum_by, take}
use Rattle.lte_bits.specs.Packing.{packed}
use Rattle.model_sender.specs.Codeword.{codeword}
use Rattle.gomzelat_c.specs.Tests.{byte_count}
use Rattle.gomzelat_c.proofs.several.packed_codewords.Given as goal

abbrev pub invariant-loop-i : goal.invariant-loop-i
invariant-loop-i l = record {
  written : l.bytes.items ≡ flat_map (λ s. packed (codeword l.payload s.m s.rv)) (take l.i l.sends);
  long : length l.bytes.items ≡ sum_by (λ s. byte_count s.m.g) (take l.i l.sends);
}
