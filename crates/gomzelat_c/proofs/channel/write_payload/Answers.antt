use Rattle.std.proofs.Common.{◌≡◌, length, ◌++◌, ap, ◌∙◌, arith}
use Rattle.std.proofs.lemmas.List.{append-nil, drop_all}
use Rattle.soft_channel.proofs.Lengths.{length_trial_payload}
use Rattle.soft_channel.specs.TrialPayload.{trial_payload}
use Rattle.gomzelat_c.specs.Buffers.{with_front}
use Rattle.gomzelat_c.proofs.channel.write_payload.Goals as goal

pub returns-clause-payload : goal.returns-clause-payload
returns-clause-payload c =
    let out = c.args.out.now in
    let bytes = trial_payload c.args.seed c.args.block (length out) in
    let long : length bytes ≡ length out = length_trial_payload c.args.seed c.args.block (length out) in
    c.write_bytes.ensures ∙ ap (λ xs. with_front xs out) (c.as_slice.ensures ∙ c.in_ok-bytes.ensures)
    ∙ ap (λ xs. bytes ++ xs) (drop_all (length bytes) out (omega (arith, long)))
    ∙ append-nil bytes
