use Rattle.std.proofs.Common.{ℕ, List, Ok, refl, ap, sym, subst, ◌∙◌}
use Rattle.std.proofs.lemmas.Result.{err_from_is_err_and}
use Rattle.std.specs.declared.option.Option.{Option}
use Rattle.std.specs.declared.result.Result.{Result}
use Rattle.coded_stream.specs.Header.{Header}
use Rattle.coded_stream.specs.Steps.{Reading, remaining, GoesOn, Advances}
use Rattle.coded_stream.specs.Shown.{header_of}
use Rattle.coded_stream.specs.declared.stop.StreamStop.{StreamStop}
use Rattle.run_loop.specs.Due.{Stopped}
use Rattle.run_loop.specs.declared.status.Status.{Status}
use Rattle.stream_loop.specs.Rounds.{answer_ahead, block_of, IsGoing, IsEnding}
use Rattle.stream_loop.proofs.HandedOn.{stop_of, value_of}
use Rattle.stream_loop.proofs.StreamSteps.{gives_block, gives_end, stopped_starved, stopped_before, stopped_reading}
use Rattle.stream_loop.proofs.rounds.StreamRoundsWork.round.Goals as goal

pub returns-in_err-end-clause-step : goal.returns-in_err-end-clause-step
returns-in_err-end-clause-step g c input told =
    let s = c.args.self.now in
    let source = g.S.Source.left c.args.source.now in
    let p = err_from_is_err_and c.from_residual.result c.from_residual.ensures.1 in
    rw (p.1, p.2) (stopped_before (g.H.Handler.handling s.handler) s.reader s.failed input source source refl)

pub returns-in_default-clause-step : goal.returns-in_default-clause-step
returns-in_default-clause-step g c input told =
    let s = c.args.self.now in
    let w = g.H.Handler.handling s.handler in
    let source = g.S.Source.left c.args.source.now in
    let after = c.next_block-next.new.self in
    let into = c.next_block-next.new.into in
    let left = g.S.Source.left c.next_block-next.new.source in
    let On : Result (Option ℕ) StreamStop → Type 0 = λ o. GoesOn (remaining s.reader input) (remaining after) into source left o in
    let E : ℕ → Type 0 = λ n. IsEnding w s.reader.header n s.failed c.in_ok-end.end in
    let A : Header → Type 0 = λ h. IsEnding w h c.blocks-number.result s.failed c.in_ok-end.end in
    gives_end w s.reader after s.failed input into _ source left c.stopped.result c.in_ok-end.end
    (subst On (value_of c.next_block-next.result c.map_err.result _ c.map_err.ensures.cases c.in_ok-payload.was ∙ ap Ok c.in_default.is) (c.next_block-next.ensures.goes_on input told))
    (subst E c.blocks-number.ensures (subst A c.header.ensures c.in_ok-end.ensures)) c.stopped.ensures.parts c.stopped.ensures.stop

pub returns-in_err-payload-clause-step : goal.returns-in_err-payload-clause-step
returns-in_err-payload-clause-step g c input told =
    let s = c.args.self.now in
    let w = g.H.Handler.handling s.handler in
    let source = g.S.Source.left c.args.source.now in
    let after = c.next_block-next.new.self in
    let into = c.next_block-next.new.into in
    let left = g.S.Source.left c.next_block-next.new.source in
    let On : Result (Option ℕ) StreamStop → Type 0 = λ o. GoesOn (remaining s.reader input) (remaining after) into source left o in
    let P : Status → Type 0 = λ status. Stopped (answer_ahead w s.reader s.failed input) source left status in
    let given = stop_of c.next_block-next.result c.map_err.result c.in_err-payload.field-0.0 c.map_err.ensures.cases c.in_err-payload.was in
    let p = err_from_is_err_and c.from_residual-in_err-payload.result c.from_residual-in_err-payload.ensures.1 in
    rw (p.1, p.2) (subst P (sym given.2) (stopped_reading w s.reader after s.failed input into given.0 source left (subst On given.1 (c.next_block-next.ensures.goes_on input told))))

pub returns-in_err-round-clause-step : goal.returns-in_err-round-clause-step
returns-in_err-round-clause-step g c input told =
    let s = c.args.self.now in
    let source = g.S.Source.left c.args.source.now in
    let after = c.next_block-next.new.self in
    let into = c.next_block-next.new.into in
    let left = g.S.Source.left c.next_block-next.new.source in
    let is = value_of c.next_block-next.result c.map_err.result _ c.map_err.ensures.cases c.in_ok-payload.was ∙ ap Ok c.in-Some.is in
    let On : Result (Option ℕ) StreamStop → Type 0 = λ o. GoesOn (remaining s.reader input) (remaining after) into source left o in
    let Moved : Result (Option ℕ) StreamStop → Type 0 = λ o. Advances s.reader after into o in
    let p = err_from_is_err_and c.from_residual-in_err-round.result c.from_residual-in_err-round.ensures.1 in
    rw (p.1, p.2)
    (stopped_starved (g.H.Handler.handling s.handler) s.reader after s.failed input into c.in-Some.payload source left
    (subst On is (c.next_block-next.ensures.goes_on input told)) (subst Moved is c.next_block-next.ensures.advances))

pub returns-clause-step : goal.returns-clause-step
returns-clause-step g c input told =
    let s = c.args.self.now in
    let w = g.H.Handler.handling s.handler in
    let source = g.S.Source.left c.args.source.now in
    let after = c.next_block-next.new.self in
    let into = c.next_block-next.new.into in
    let left = g.S.Source.left c.next_block-next.new.source in
    let n = c.in-Some.payload in
    let round = c.in_ok-round.round in
    let fails = c.in_ok-round.failed in
    let is = value_of c.next_block-next.result c.map_err.result _ c.map_err.ensures.cases c.in_ok-payload.was ∙ ap Ok c.in-Some.is in
    let On : Result (Option ℕ) StreamStop → Type 0 = λ o. GoesOn (remaining s.reader input) (remaining after) into source left o in
    let Moved : Result (Option ℕ) StreamStop → Type 0 = λ o. Advances s.reader after into o in
    let moved = subst Moved is c.next_block-next.ensures.advances in
    let H : Header → Type 0 = λ h. IsGoing (w.block h s.reader.blocks (block_of n into)) (block_of n into) round fails in
    let N : ℕ → Type 0 = λ k. IsGoing (w.block (header_of c.header-header.result.now) k (block_of n into)) (block_of n into) round fails in
    let B : List ℕ → Type 0 = λ bytes. IsGoing (w.block (header_of c.header-header.result.now) c.blocks-number.result (block_of n bytes)) (block_of n bytes) round fails in
    gives_block w s.reader after s.failed c.counted-self.result input into n source left round fails
    (subst On is (c.next_block-next.ensures.goes_on input told)) moved
    (subst H (c.header-header.ensures ∙ ap (λ (r : Reading). r.header) moved.2) (subst N c.blocks-number.ensures (subst B c.as_slice-bytes.ensures c.in_ok-round.ensures)))
    c.counted-self.ensures
