use Rattle.std.proofs.Common.{ℕ, length, map, ap, ◌∙◌, arith}
use Rattle.std.proofs.lemmas.List.{length-map}
use Rattle.lte_bits.specs.Bits.{digit}
use Rattle.lte_bits.specs.declared.block.Streams.{Streams}
use Rattle.model_sender.specs.CodeBlocks.{block}
use Rattle.model_sender.specs.CodedStreams.{streams}
use Rattle.model_sender.specs.Segmentation.{Plan, plan_of}
use Rattle.model_sender.specs.Selection.{sent}
use Rattle.rate_match.specs.declared.sends.Sending.{Sending}
use Rattle.gomzelat_c.specs.Buffers.{with_front}
use Rattle.gomzelat_c.proofs.selecting.write_selected.Goals as goal

pub write_bytes-requires : goal.write_bytes-requires
write_bytes-requires c =
    omega (
      arith,
      ap length (c.as_slice-2.ensures ∙ c.in_ok-digits.ensures),
      length-map c.as_slice.result.now digit,
      ap length c.as_slice.ensures,
      c.in_ok-bits.ensures.long,
      c.in_ok-asked.ensures.room,
    )

pub returns-clause-bits : goal.returns-clause-bits
returns-clause-bits c =
    let asked = c.in_ok-asked.asked in
    let p : Plan = plan_of (length c.args.payload.now) in
    let r : ℕ = c.args.r in
    let all : Streams = streams (block p c.args.payload.now r) in
    c.write_bytes.ensures
    ∙ ap (λ xs. with_front xs c.args.out.now)
    (c.as_slice-2.ensures ∙ c.in_ok-digits.ensures
    ∙ ap (map digit) (c.as_slice.ensures ∙ c.in_ok-bits.ensures.sent
    ∙ ap (λ (s : Streams). sent asked.plan asked.sending.m s r asked.sending.rv) c.in_ok-streams.ensures.streams
    ∙ ap (λ (q : Plan). sent q asked.sending.m all r asked.sending.rv) c.in_ok-asked.ensures.plan
    ∙ ap (λ (s : Sending). sent p s.m all r s.rv) c.in_ok-asked.ensures.sending))
