use Rattle.std.proofs.Common.{◌≡◌, ℕ, ◌<◌, List, length, Ok, sym, subst, arith}
use Rattle.std.proofs.lemmas.Result.{err_from_is_err_and}
use Rattle.run_loop.specs.Due.{Stopped}
use Rattle.run_loop.specs.declared.status.Status.{Status}
use Rattle.command_encode.specs.Codeword.{block_answer}
use Rattle.command_encode.specs.CodewordRound.{IsCoded}
use Rattle.command_encode.specs.Input.{IsInput}
use Rattle.command_encode.specs.declared.input.Input.{Input}
use Rattle.command_encode.proofs.CodewordSteps.{gives_coded, stopped_empty, stopped_long, stopped_starved, stopped_unread}
use Rattle.command_encode.proofs.codeword.CodewordWork.round.Goals as goal

pub returns-in_err-payload-clause-step : goal.returns-in_err-payload-clause-step
returns-in_err-payload-clause-step g c input told =
    let s = c.args.self.now in
    let p = err_from_is_err_and c.from_residual.result c.from_residual.ensures.1 in
    rw (p.1, p.2) (stopped_unread s.m s.rv input _ (g.S.Source.left c.read_up_to.new.source) c.in_err-payload.field-0.0 c.in_err-payload.ensures.bytes told)

pub returns-in-Whole-clause-step : goal.returns-in-Whole-clause-step
returns-in-Whole-clause-step g c input told =
    let s = c.args.self.now in
    let old = g.S.Source.left c.args.source.now in
    let new = g.S.Source.left c.read_up_to.new.source in
    let I : Input → Type 0 = λ i. IsInput 18723 (g.S.Source.left c.args.source.now) (g.S.Source.left c.read_up_to.new.source) (Ok i) in
    let read = subst I c.in-Whole.is c.in_ok-payload.ensures.bytes in
    let P : Status → Type 0 = λ status. Stopped (block_answer s.m s.rv input) old new status in
    subst P (sym c.bad_length.ensures) (stopped_long s.m s.rv input c.in-Whole.field-0.items old new read.0 read.1 told)

pub returns-then-is_empty-clause-step : goal.returns-then-is_empty-clause-step
returns-then-is_empty-clause-step g c input told =
    let s = c.args.self.now in
    let old = g.S.Source.left c.args.source.now in
    let new = g.S.Source.left c.read_up_to.new.source in
    let payload = c.in-Ended.payload.items in
    let I : Input → Type 0 = λ i. IsInput 18723 (g.S.Source.left c.args.source.now) (g.S.Source.left c.read_up_to.new.source) (Ok i) in
    let read = subst I c.in-Ended.is c.in_ok-payload.ensures.bytes in
    let none : length payload ≡ 0 = search arith in
    let P : Status → Type 0 = λ status. Stopped (block_answer s.m s.rv input) old new status in
    subst P (sym c.bad_length-then-is_empty.ensures) (stopped_empty s.m s.rv input payload old new none read.1 read.2 told)

pub returns-in_err-coded-clause-step : goal.returns-in_err-coded-clause-step
returns-in_err-coded-clause-step g c input told =
    let s = c.args.self.now in
    let new = g.S.Source.left c.read_up_to.new.source in
    let payload = c.in-Ended.payload.items in
    let I : Input → Type 0 = λ i. IsInput 18723 (g.S.Source.left c.args.source.now) (g.S.Source.left c.read_up_to.new.source) (Ok i) in
    let read = subst I c.in-Ended.is c.in_ok-payload.ensures.bytes in
    let some : 0 < length payload = search arith in
    let p = err_from_is_err_and c.from_residual-in_err-coded.result c.from_residual-in_err-coded.ensures.1 in
    rw (p.1, p.2) (stopped_starved s.m s.rv input payload _ new some (let short = read.0 in omega (arith, short)) read.1 read.2 told)

pub returns-clause-step : goal.returns-clause-step
returns-clause-step g c input told =
    let s = c.args.self.now in
    let new = g.S.Source.left c.read_up_to.new.source in
    let payload = c.in-Ended.payload.items in
    let I : Input → Type 0 = λ i. IsInput 18723 (g.S.Source.left c.args.source.now) (g.S.Source.left c.read_up_to.new.source) (Ok i) in
    let read = subst I c.in-Ended.is c.in_ok-payload.ensures.bytes in
    let round = c.in_ok-coded.field-0 in
    let some : 0 < length payload = search arith in
    let P : List ℕ → Type 0 = λ bytes. IsCoded s.m s.rv bytes round.parts.items round.stop in
    gives_coded s.m s.rv input payload (block_answer s.m s.rv) _ new round
    (subst P c.as_slice.ensures.value c.in_ok-coded.ensures) some (let short = read.0 in omega (arith, short)) read.1 read.2 told
