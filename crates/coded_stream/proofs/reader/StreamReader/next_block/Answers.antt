use Rattle.std.proofs.Common.{◌≡◌, ℕ, ◌+◌, ◌-◌, ◌<◌, List, ◌++◌, length, take, drop, IfOk, Ok, ap, sym, subst, ◌∙◌, arith}
use Rattle.std.specs.declared.option.Option.{Option}
use Rattle.std.specs.declared.result.Result.{Result}
use Rattle.std.proofs.lemmas.Grind.{common_steps}
use Rattle.coded_stream.specs.Shown.{header_of}
use Rattle.coded_stream.specs.Body.{onto, step, body, next_start}
use Rattle.coded_stream.specs.Steps.{Reading, remaining}
use Rattle.coded_stream.specs.Takes.{TakesStep, IsAccepted}
use Rattle.coded_stream.specs.declared.stop.StreamStop.{StreamStop}
use Rattle.coded_stream.proofs.Fronts.{take_front}
use Rattle.coded_stream.proofs.Remaining.{body-block, body-ended, body-stops}
use Rattle.coded_stream.proofs.reader.StreamReader.next_block.Goals as goal

pub returns-in-Err-clause-goes_on : goal.returns-in-Err-clause-goes_on
returns-in-Err-clause-goes_on g c input is =
    let r = c.self.inside in
    body-stops (header_of r.header) (4096 - r.blocks) r.place input _ _ _ c.in-Err.stop (ap (λ (s : Reading). remaining s input) (sym c.self.view_is)) (c.in-Err.ensures.told input is)

pub returns-in-Ok-None-clause-goes_on : goal.returns-in-Ok-None-clause-goes_on
returns-in-Ok-None-clause-goes_on g c input is =
    let r = c.self.inside in
    let h = header_of r.header in
    let whole = c.in-Ok-None.is ∙ ap Ok c.in-Ok-None.field-0-is in
    let w = subst (λ (o : Result (Option ℕ) StreamStop). TakesStep (step h (4096 - r.blocks) r.place input) c.read_block.new.into
    (g.S.Source.left c.args.source.now) (g.S.Source.left c.read_block.new.source) o) whole (c.read_block.ensures.told input is) in
    (w.0, w.1, w.2, w.3, ap (λ (s : Reading). remaining s input) (sym c.self.view_is) ∙ body-ended h (4096 - r.blocks) r.place input w.4)

pub returns-in-Ok-Some-clause-goes_on : goal.returns-in-Ok-Some-clause-goes_on
returns-in-Ok-Some-clause-goes_on g c input is =
    let r = c.self.inside in
    let h = header_of r.header in
    let into = c.read_block.new.into in
    let whole = c.in-Ok-Some.is ∙ ap Ok c.in-Ok-Some.field-0-is in
    let w = subst (λ (o : Result (Option ℕ) StreamStop). TakesStep (step h (4096 - r.blocks) r.place input) into
    (g.S.Source.left c.args.source.now) (g.S.Source.left c.read_block.new.source) o) whole (c.read_block.ensures.told input is) in
    let accepted = subst (λ (o : Result (Option ℕ) StreamStop). IfOk o (IsAccepted h (4096 - r.blocks) into)) whole c.read_block.ensures.accepted in
    let room : 0 < 4096 - r.blocks = accepted.0 in
    let long : length into ≡ length c.resize.new.self = c.read_block.auto.into ∙ ap length c.as_mut_slice.ensures.value in
    let total : length c.resize.new.self ≡ c.block_size-total.result = grind (arith, common_steps) in
    let kept : take (length c.resize.new.self) (into ++ drop (length into) c.resize.new.self) ≡ into = take_front into (drop (length into) c.resize.new.self) (length c.resize.new.self) long in
    let size = w.4 in (
      w.0,
      w.1,
      w.2,
      w.3,
      omega (arith, size, ap length kept),
      ap (λ (s : Reading). remaining s input) (sym c.self.view_is)
          ∙ body-block h (4096 - r.blocks) r.place input (record { payload = c.in-Ok-Some.payload; bytes = into }) w.1 room w.5
          ∙ ap (λ (n : ℕ). onto (record { payload = c.in-Ok-Some.payload; bytes = into }) (body h n (next_start r.place (record { payload = c.in-Ok-Some.payload; bytes = into })) w.1))
          (let e : 4096 - r.blocks - 1 ≡ 4096 - (r.blocks + 1) = omega arith in e)
          ∙ ap (λ (p : ℕ). onto (record { payload = c.in-Ok-Some.payload; bytes = into }) (body h (4096 - (r.blocks + 1)) p w.1))
          (let e : r.place + (4 + length into) ≡ r.place + (4 + c.block_size-total.result) = omega (arith, long, total) in e)
          ∙ ap (λ (xs : List ℕ). onto (record { payload = c.in-Ok-Some.payload; bytes = xs }) (body h (4096 - (r.blocks + 1)) (r.place + (4 + c.block_size-total.result)) w.1)) (sym kept),
    )
