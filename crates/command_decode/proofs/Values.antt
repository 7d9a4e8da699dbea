-- The soft values of an accepted block.
use Rattle.std.proofs.Common.{◌≡◌, ℕ, ◌+◌, List, [], ◌∷◌, length, map, ap, subst, ◌∙◌, arith}
use Rattle.std.proofs.lemmas.List.{length-append, length-map}
use Rattle.std.proofs.lemmas.Grind.{common_steps}
use Rattle.block_receive.specs.Receptions.{value_count}
use Rattle.rate_match.specs.declared.sends.Sending.{Sending}
use Rattle.coded_stream.specs.Blocks.{AreTransmissions}
use Rattle.coded_stream.specs.declared.kind.Kind.{Kind}
use Rattle.coded_stream.specs.declared.kind.Kind.TheVariants.{Soft}
use Rattle.stream_loop.specs.SoftBytes.{softs_of, soft_of}

-- as many bytes as the transmissions have values
bytes_counted : (sends : List Sending) (bytes : List ℕ) → AreTransmissions Soft (map (λ s. s.m.g) sends) bytes → length bytes ≡ value_count sends
bytes_counted [] bytes none = ap length none
bytes_counted (s ∷ sends) bytes (first, rest, is, one, others) =
    let size : length first ≡ s.m.g = one.size in
    let more : value_count (s ∷ sends) ≡ s.m.g + value_count sends = grind (arith, common_steps) in
    omega (arith, ap length is, length-append first rest, size, more, bytes_counted sends rest others)

pub bytes_of_values : (kind : Kind) (sends : List Sending) (bytes : List ℕ) → kind ≡ Soft → AreTransmissions kind (map (λ s. s.m.g) sends) bytes → length bytes ≡ value_count sends
bytes_of_values kind sends bytes is sent =
    let P : Kind → Type 0 = λ k. AreTransmissions k (map (λ s. s.m.g) sends) bytes in bytes_counted sends bytes (subst P is sent)

pub softs_counted : (kind : Kind) (sends : List Sending) (bytes : List ℕ) → kind ≡ Soft → AreTransmissions kind (map (λ s. s.m.g) sends) bytes → length (softs_of bytes) ≡ value_count sends
softs_counted kind sends bytes is sent =
    length-map bytes soft_of ∙ bytes_of_values kind sends bytes is sent
