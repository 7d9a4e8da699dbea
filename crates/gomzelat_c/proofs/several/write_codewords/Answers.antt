use Rattle.std.proofs.Common.{ℕ, List, flat_map, length, ap, ◌∙◌, arith}
use Rattle.std.proofs.lemmas.List.Folds.{flat_map-map}
use Rattle.lte_bits.specs.Packing.{packed}
use Rattle.model_sender.specs.Codeword.{codeword}
use Rattle.rate_match.specs.declared.sends.Sending.{Sending}
use Rattle.gomzelat_c.specs.Buffers.{with_front}
use Rattle.gomzelat_c.specs.Transmissions.{limit_in, transmission_of}
use Rattle.gomzelat_c.proofs.several.write_codewords.Goals as goal

pub write_bytes-requires : goal.write_bytes-requires
write_bytes-requires c =
    omega (arith, ap length c.as_slice.ensures, c.in_ok-bytes.ensures.long, c.in_ok-sends.ensures.room)

pub returns-clause-codewords : goal.returns-clause-codewords
returns-clause-codewords c =
    let payload : List ℕ = c.args.payload.now in
    let f : Sending → List ℕ = λ s. packed (codeword payload s.m s.rv) in
    c.write_bytes.ensures
    ∙ ap (λ (xs : List ℕ). with_front xs c.args.out.now)
    (c.as_slice.ensures ∙ c.in_ok-bytes.ensures.bytes ∙ ap (flat_map f) c.in_ok-sends.ensures.sends
    ∙ flat_map-map f (transmission_of (limit_in c.args.n_ir)) c.args.transmissions.now)
