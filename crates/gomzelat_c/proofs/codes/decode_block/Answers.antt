use Rattle.std.proofs.Common.{◌≡◌, length, map, ap, ◌∙◌, arith}
use Rattle.std.proofs.lemmas.List.{length-map}
use Rattle.lte_bits.specs.Bits.{digit}
use Rattle.lte_bits.specs.Softs.{clamped}
use Rattle.lte_bits.specs.declared.block.SoftStreams.{SoftStreams}
use Rattle.model_receiver.specs.Decoding.{code_result}
use Rattle.model_receiver.specs.HalfIteration.{Shape}
use Rattle.model_receiver.specs.declared.result.CodeResult.{CodeResult}
use Rattle.soft_buffers.specs.Buffers.{streams_of_cells}
use Rattle.gomzelat_c.specs.Buffers.{with_front}
use Rattle.gomzelat_c.specs.Codes.{decoded_code}
use Rattle.gomzelat_c.proofs.OneShape.{bits_count}
use Rattle.gomzelat_c.proofs.codes.decode_block.Goals as goal

pub write_bytes-requires : goal.write_bytes-requires
write_bytes-requires c =
    let code = c.args.code.now in
    let soft : SoftStreams = streams_of_cells code.k code.fill (map (clamped 127) c.args.values.now) in
    let shape : Shape = c.in_ok-shape.shape in
    let asked = c.in_ok-shape.ensures in
    let limit : shape.limit ≡ c.args.limit = ap (λ (s : Shape). s.limit) asked.shape in
    let fill : shape.f ≡ code.fill = ap (λ (s : Shape). s.f) asked.shape in
    let size : shape.k ≡ code.k = ap (λ (s : Shape). s.k) asked.shape in
    omega (
      arith,
      ap length (c.as_slice-2.ensures ∙ c.in_ok-digits.ensures),
      length-map c.as_slice.result.now digit,
      ap length c.as_slice.ensures,
      bits_count soft shape c.in_ok-decoded.decoded c.in_ok-decoded.ensures (omega (arith, limit, asked.some)) (omega (arith, fill, size, asked.fillers)),
      size,
      asked.room,
    )

pub returns-clause-bits : goal.returns-clause-bits
returns-clause-bits c =
    let code = c.args.code.now in
    let soft : SoftStreams = streams_of_cells code.k code.fill (map (clamped 127) c.args.values.now) in
    let is : c.in_ok-decoded.decoded ≡ decoded_code code c.args.windows c.args.limit c.args.values.now =
    c.in_ok-decoded.ensures ∙ ap (λ (s : Shape). code_result soft s) c.in_ok-shape.ensures.shape in
    c.write_bytes.ensures
    ∙ ap (λ xs. with_front xs c.args.bits.now)
    (c.as_slice-2.ensures ∙ c.in_ok-digits.ensures ∙ ap (map digit) (c.as_slice.ensures ∙ ap (λ (x : CodeResult). x.block.bits) is))
