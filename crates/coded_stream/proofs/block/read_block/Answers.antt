use Rattle.std.proofs.Common.{ap, ◌∙◌}
use Rattle.std.proofs.lemmas.Result.{err_from_is_err_and}
use Rattle.edge_io.proofs.Known.{takes_bytes_then}
use Rattle.coded_stream.specs.Shown.{header_of}
use Rattle.coded_stream.specs.Words.{after_word}
use Rattle.coded_stream.proofs.BlockSteps.{word-stops, word-block_told}
use Rattle.coded_stream.proofs.block.read_block.Goals as goal

pub returns-in_err-read_end-clause-told : goal.returns-in_err-read_end-clause-told
returns-in_err-read_end-clause-told g c input is =
    let w = c.in_ok-payload.ensures.told input is in
    let p = err_from_is_err_and c.from_residual-in_err-read_end.result c.from_residual-in_err-read_end.ensures.1 in
    rw (p.1, p.2)
    (word-stops _ _ w.0 w.1 _ _ _ c.in_err-read_end.field-0.0 (w.5 ∙ ap (λ o. after_word (header_of c.args.header.now) c.args.start o w.1) c.in_default.is) w.4 w.2 w.3
    (c.in_err-read_end.ensures.told w.1 w.3))

pub returns-in_err-read_transmissions-clause-told : goal.returns-in_err-read_transmissions-clause-told
returns-in_err-read_transmissions-clause-told g c input is =
    let w = c.in_ok-payload.ensures.told input is in
    let p = err_from_is_err_and c.from_residual-in_err-read_transmissions.result c.from_residual-in_err-read_transmissions.ensures.1 in
    rw (p.1, p.2)
    (word-stops _ _ w.0 w.1 _ _ _ c.in_err-read_transmissions.field-0.0 (w.5 ∙ ap (λ o. after_word (header_of c.args.header.now) c.args.start o w.1) c.in-Some.is) w.4 w.2 w.3
    (c.in_err-read_transmissions.ensures.told c.in-Some.payload w.1 w.3))

pub returns-clause-told : goal.returns-clause-told
returns-clause-told g c input is =
    let w = c.in_ok-payload.ensures.told input is in
    let r = c.in_ok-read_transmissions.ensures.told c.in-Some.payload w.1 w.3 in
    word-block_told _ _ c.in-Some.payload c.read_transmissions.new.into w.0 w.1 r.0 _ _ _
    (w.5 ∙ ap (λ o. after_word (header_of c.args.header.now) c.args.start o w.1) c.in-Some.is) w.4 w.2 w.3 r.1 r.2 r.3

pub returns-in_err-read_end-clause-moved : goal.returns-in_err-read_end-clause-moved
returns-in_err-read_end-clause-moved g c = takes_bytes_then _ _ _ c.read_word.ensures.moved c.read_end.ensures.moved

pub returns-in_err-read_transmissions-clause-moved : goal.returns-in_err-read_transmissions-clause-moved
returns-in_err-read_transmissions-clause-moved g c = takes_bytes_then _ _ _ c.read_word.ensures.moved c.read_transmissions.ensures.moved

pub returns-clause-moved : goal.returns-clause-moved
returns-clause-moved g c = takes_bytes_then _ _ _ c.read_word.ensures.moved c.read_transmissions.ensures.moved
