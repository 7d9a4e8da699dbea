use Rattle.std.proofs.Common.{ℕ, List, length, ◌++◌, take, flat_map, ap, sym, ◌∙◌, append_assoc, rules}
use Rattle.coded_stream.specs.Header.{word_text}
use Rattle.rate_match.specs.declared.sends.Sending.{Sending}
use Rattle.command_encode.specs.Encode.{sent_text}
use Rattle.rate_match.proofs.EachSending.{fits_at}
use Rattle.command_encode.proofs.MoreText.{text_more}
use Rattle.command_encode.proofs.blocks.block_text.Goals as goal

pub push_codeword-requires-clause-fits : goal.push_codeword-requires-clause-fits
push_codeword-requires-clause-fits c =
    let h = c.args.header.now in
    let s : Sending = record { m = c.at-m.result.0; rv = c.at-m.result.1 } in
    rw c.in_ok-coded.ensures (fits_at h.sends h.tb (length c.args.payload.now) c.loop-i.i s h.sent h.fits c.at-m.ensures.value c.requires.some c.requires.few)

pub loop-i-preserved : goal.loop-i-preserved
loop-i-preserved c =
    let h = c.args.header.now in
    let payload = c.args.payload.now in
    let s : Sending = record { m = c.at-m.result.0; rv = c.at-m.result.1 } in
    let before = flat_map (sent_text payload) (take c.loop-i.i h.sends) in
    (search rules)
    ∙ ap (λ (xs : List ℕ). xs ++ sent_text payload s) c.loop-i.invariant
    ∙ append_assoc (word_text (length payload)) before (sent_text payload s)
    ∙ ap (λ (xs : List ℕ). word_text (length payload) ++ xs) (sym (text_more (sent_text payload) h.sends c.loop-i.i s c.at-m.ensures.value))
