use Rattle.std.proofs.Common.{◌≡◌, ◌∙◌, ◌^◌, length, sym, ap, arith}
use Rattle.model_sender.specs.ConstituentCoder.{parities_from}
use Rattle.model_sender.specs.Tail.{reached}
use Rattle.model_sender.proofs.BitNumbers.{number-lt}
use Rattle.model_sender.proofs.Coder.{made}
use Rattle.turbo_encode.proofs.FourSteps.{next-entry, parity-entry, state_number-small, numbered}
use Rattle.turbo_encode.proofs.fours.four_steps.Goals as goal

pub cells-requires : goal.cells-requires
cells-requires c =
    let s = numbered c.args.state c.requires in
    let zs = parities_from s.0 c.args.four.now in
    let four : length c.args.four.now ≡ 4 = omega arith in
    let long : length zs ≡ 4 = (made s.0 c.args.four.now).z_long ∙ four in
    omega (arith, number-lt zs, ap (λ n. 2 ^ n) long, parity-entry s.0 c.args.four.now c.args.state c.number-inputs.result four s.1 c.number-inputs.ensures.value, c.parities.ensures)

pub returns-clause-cells : goal.returns-clause-cells
returns-clause-cells c = λ s at.
    let four : length c.args.four.now ≡ 4 = omega arith in
    c.cells.ensures (parities_from s c.args.four.now) ((made s c.args.four.now).z_long ∙ four)
    (parity-entry s c.args.four.now c.args.state c.number-inputs.result four at c.number-inputs.ensures.value ∙ sym c.parities.ensures)

pub returns-clause-next : goal.returns-clause-next
returns-clause-next c = λ s at. next-entry s c.args.four.now c.args.state c.number-inputs.result (omega arith) at c.number-inputs.ensures.value ∙ sym c.next.ensures

pub returns-clause-small : goal.returns-clause-small
returns-clause-small c = let s = numbered c.args.state c.requires in omega (arith, returns-clause-next c s.0 s.1, state_number-small (reached s.0 c.args.four.now))
