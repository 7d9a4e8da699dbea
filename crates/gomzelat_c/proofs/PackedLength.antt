-- How many bytes bits take.
use Rattle.std.proofs.Common.{◌≡◌, ℕ, List, length, Ok, Err, ap, ◌∙◌}
use Rattle.std.specs.Prelude.{IfOk}
use Rattle.std.specs.declared.result.Result.{Result}
use Rattle.std.proofs.lemmas.List.FromFn.{length-map-range_with_len}
use Rattle.lte_bits.specs.Packing.{byte_at, packed}
use Rattle.lte_bits.specs.declared.bit.Bit.{Bit}
use Rattle.gomzelat_c.specs.Tests.{byte_count}

pub length_packed : (bits : List Bit) → length (packed bits) ≡ byte_count (length bits)
length_packed bits = length-map-range_with_len (byte_at bits) 0 (byte_count (length bits))

pub packed_long : {E : Type 0} (r : Result (List ℕ) E) (bits : List Bit) (g : ℕ) → length bits ≡ g → IfOk r (λ bytes. bytes ≡ packed bits) →
    IfOk r (λ bytes. length bytes ≡ byte_count g)
packed_long (Ok bytes) bits g long is = ap length is ∙ length_packed bits ∙ ap byte_count long
packed_long (Err e) bits g long is = is
