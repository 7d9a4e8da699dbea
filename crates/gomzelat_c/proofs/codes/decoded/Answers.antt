use Rattle.std.proofs.Common.{◌≡◌, length, map, subst, ap, ◌∙◌, arith}
use Rattle.std.specs.Prelude.{IfOk}
use Rattle.std.proofs.lemmas.List.{length-map}
use Rattle.lte_bits.specs.Softs.{clamped}
use Rattle.lte_bits.specs.declared.block.SoftStreams.{SoftStreams}
use Rattle.model_receiver.specs.Decoding.{code_result}
use Rattle.soft_buffers.specs.Buffers.{streams_of_cells}
use Rattle.gomzelat_c.proofs.OneShape.{are_streams}
use Rattle.gomzelat_c.proofs.codes.decoded.Goals as goal

pub streams_of-requires-clause-values : goal.streams_of-requires-clause-values
streams_of-requires-clause-values c =
    omega (arith, ap length (c.as_slice.ensures ∙ c.in_ok-softs.ensures), length-map c.args.values.now (clamped 127), c.requires.values)

pub decode_alone-requires : goal.decode_alone-requires
decode_alone-requires c =
    are_streams c.args.code.now.k c.args.code.now.fill c.in_ok-streams.streams c.args.shape.now c.as_slice.result.now c.in_ok-streams.ensures c.requires.fillers c.requires.fill c.requires.size

pub returns : goal.returns
returns c =
    let code = c.args.code.now in
    let same : c.in_ok-streams.streams ≡ streams_of_cells code.k code.fill (map (clamped 127) c.args.values.now) =
    c.in_ok-streams.ensures ∙ ap (streams_of_cells code.k code.fill) (c.as_slice.ensures ∙ c.in_ok-softs.ensures) in
    subst (λ (s : SoftStreams). IfOk c.decode_alone.result (λ r. r ≡ code_result s c.args.shape.now)) same c.decode_alone.ensures
