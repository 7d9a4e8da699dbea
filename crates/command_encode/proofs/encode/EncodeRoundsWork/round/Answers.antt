use Rattle.std.proofs.Common.{◌≡◌, ℕ, suc, ◌+◌, ◌-◌, List, length, Ok, sym, subst, arith}
use Rattle.std.proofs.lemmas.Result.{err_from_is_err_and}
use Rattle.coded_stream.specs.Shown.{header_of}
use Rattle.run_loop.specs.Due.{Stopped}
use Rattle.run_loop.specs.Step.{Gives, Steps}
use Rattle.run_loop.specs.declared.status.Status.TheVariants.{NoMemory}
use Rattle.run_loop.specs.declared.work.Stop.TheVariants.{Go}
use Rattle.command_encode.specs.Encode.{blocks_answer}
use Rattle.command_encode.specs.EncodeRounds.{IsLast, IsOfBlock}
use Rattle.command_encode.specs.Input.{IsInput}
use Rattle.command_encode.specs.declared.input.Input.{Input}
use Rattle.command_encode.proofs.EncodeSteps.{gives_last, gives_whole, step_after_all_blocks, stopped_last, stopped_unread, stopped_whole}
use Rattle.command_encode.proofs.encode.EncodeRoundsWork.round.Goals as goal

pub returns-then-self-eq0-clause-step : goal.returns-then-self-eq0-clause-step
returns-then-self-eq0-clause-step g c input told =
    let s = c.args.self.now in
    let h = header_of s.header in
    let none = c.if-self-eq0.true in
    let most = s.most in
    let some = s.header.some in
    let new = g.S.Source.left c.after_all_blocks.new.source in
    let P : ℕ → Type 0 = λ n. Steps (blocks_answer h n s.count input) (blocks_answer h s.more s.count) (g.S.Source.left c.args.source.now) new c.after_all_blocks.result in
    subst P (sym none)
    (step_after_all_blocks h s.count input (blocks_answer h s.more s.count) _ new c.after_all_blocks.result
    c.after_all_blocks.ensures.bytes (omega (arith, most, none)) (omega (arith, some)) told)

pub returns-in_err-payload-clause-step : goal.returns-in_err-payload-clause-step
returns-in_err-payload-clause-step g c input told =
    let s = c.args.self.now in
    let h = header_of s.header in
    let p = err_from_is_err_and c.from_residual.result c.from_residual.ensures.1 in
    rw (p.1, p.2)
    (stopped_unread h s.more s.count input _ (g.S.Source.left c.read_up_to.new.source) c.in_err-payload.field-0.0
    c.in_err-payload.ensures.bytes c.if-self-eq0.false told)

pub returns-in_err-of_block-in-Whole-clause-step : goal.returns-in_err-of_block-in-Whole-clause-step
returns-in_err-of_block-in-Whole-clause-step g c input told =
    let s = c.args.self.now in
    let h = header_of s.header in
    let I : Input → Type 0 = λ i. IsInput h.tb (g.S.Source.left c.args.source.now) (g.S.Source.left c.read_up_to.new.source) (Ok i) in
    let read = subst I c.in-Whole.is c.in_ok-payload.ensures.bytes in
    let left = c.if-self-eq0.false in
    let some = s.header.some in
    let old = g.S.Source.left c.args.source.now in
    let new = g.S.Source.left c.read_up_to.new.source in
    let one_more : suc (s.more - 1) ≡ s.more = omega (arith, left) in
    let P : ℕ → Type 0 = λ n. Stopped (blocks_answer h n s.count input) old new NoMemory in
    let p = err_from_is_err_and c.from_residual-in_err-of_block-in-Whole.result c.from_residual-in_err-of_block-in-Whole.ensures.1 in
    rw (p.1, p.2)
    (subst P one_more (stopped_whole h (s.more - 1) s.count input c.in-Whole.payload.items old new (omega (arith, some)) read.0 read.1 told))

pub returns-in_ok-of_block-in-Whole-clause-step : goal.returns-in_ok-of_block-in-Whole-clause-step
returns-in_ok-of_block-in-Whole-clause-step g c input told =
    let s = c.args.self.now in
    let h = header_of s.header in
    let I : Input → Type 0 = λ i. IsInput h.tb (g.S.Source.left c.args.source.now) (g.S.Source.left c.read_up_to.new.source) (Ok i) in
    let read = subst I c.in-Whole.is c.in_ok-payload.ensures.bytes in
    let left = c.if-self-eq0.false in
    let some = s.header.some in
    let old = g.S.Source.left c.args.source.now in
    let new = g.S.Source.left c.read_up_to.new.source in
    let payload = c.in-Whole.payload.items in
    let round = c.in_ok-of_block-in-Whole.field-0 in
    let one_more : suc (s.more - 1) ≡ s.more = omega (arith, left) in
    let Q : List ℕ → Type 0 = λ bytes. IsOfBlock h bytes (length bytes) Go round in
    let P : ℕ → Type 0 = λ n. Gives (blocks_answer h n s.count input) (blocks_answer h (s.more - 1) (s.count + 1)) old new round in
    subst P one_more
    (gives_whole h (s.more - 1) s.count input payload old new round
    (subst Q c.as_slice-payload.ensures.value c.in_ok-of_block-in-Whole.ensures) (omega (arith, some)) read.0 read.1 told)

pub returns-in_err-last-in-Ended-clause-step : goal.returns-in_err-last-in-Ended-clause-step
returns-in_err-last-in-Ended-clause-step g c input told =
    let s = c.args.self.now in
    let h = header_of s.header in
    let I : Input → Type 0 = λ i. IsInput h.tb (g.S.Source.left c.args.source.now) (g.S.Source.left c.read_up_to.new.source) (Ok i) in
    let read = subst I c.in-Ended.is c.in_ok-payload.ensures.bytes in
    let p = err_from_is_err_and c.from_residual-in_err-last-in-Ended.result c.from_residual-in_err-last-in-Ended.ensures.1 in
    rw (p.1, p.2)
    (stopped_last h s.more s.count input c.in-Ended.payload.items _ (g.S.Source.left c.read_up_to.new.source)
    read.0 (λ none. absurd (c.if-self-eq0.false none)) read.1 read.2 told)

pub returns-in_ok-last-in-Ended-clause-step : goal.returns-in_ok-last-in-Ended-clause-step
returns-in_ok-last-in-Ended-clause-step g c input told =
    let s = c.args.self.now in
    let h = header_of s.header in
    let I : Input → Type 0 = λ i. IsInput h.tb (g.S.Source.left c.args.source.now) (g.S.Source.left c.read_up_to.new.source) (Ok i) in
    let read = subst I c.in-Ended.is c.in_ok-payload.ensures.bytes in
    let round = c.in_ok-last-in-Ended.field-0 in
    let Q : List ℕ → Type 0 = λ bytes. IsLast h s.count bytes round in
    gives_last h s.more s.count input c.in-Ended.payload.items (blocks_answer h s.more s.count) _ (g.S.Source.left c.read_up_to.new.source) round
    (subst Q c.as_slice.ensures.value c.in_ok-last-in-Ended.ensures) read.0 (λ none. absurd (c.if-self-eq0.false none)) read.1 read.2 told
