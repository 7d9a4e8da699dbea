use Rattle.std.proofs.Common.{◌≡◌, ℕ, ◌+◌, ◌<◌, length, arith}
use Rattle.std.proofs.lemmas.Result.{err_from_is_err_and}
use Rattle.edge_io.proofs.Told.{told_rest}
use Rattle.coded_stream.specs.Body.{refused, step}
use Rattle.coded_stream.specs.Shown.{header_of}
use Rattle.coded_stream.specs.Takes.{step_due}
use Rattle.coded_stream.proofs.BlockSteps.{word-told}
use Rattle.coded_stream.proofs.Stopping.{unit-stops}
use Rattle.coded_stream.proofs.WordSteps.{step-short, step-due}
use Rattle.coded_stream.proofs.word.read_word.Goals as goal

pub returns-in_err-read_unit-clause-told : goal.returns-in_err-read_unit-clause-told
returns-in_err-read_unit-clause-told g c input is =
    let h = header_of c.args.header.now in
    let more : ℕ = c.args.more in
    let start : ℕ = c.args.start in
    let p = err_from_is_err_and c.from_residual.result c.from_residual.ensures.1 in
    rw (p.1, p.2)
    (unit-stops (λ r. step h more start input ≡ refused r) (λ (n : ℕ). n < step_due (step h more start input)) start input c.read_unit.new.unit _ _ _ is
    (λ few. (length input + 1, step-short h more start input (omega (arith, few, c.read_unit.auto.unit))))
    (λ n few came. step-due h more start input n (omega (arith, few, c.read_unit.auto.unit)) came)
    c.in_err-read_unit.ensures.bytes)

pub returns-clause-told : goal.returns-clause-told
returns-clause-told g c input is =
    let t = told_rest _ _ c.read_unit.new.unit input c.in_ok-read_unit.ensures.bytes is in
    word-told (header_of c.args.header.now) c.args.more c.args.start _ c.read_unit.new.unit t.left input
    _ _ _ c.read_unit.auto.unit c.word.ensures t.old_is t.new_is t.input_is c.payload_of.ensures.says
