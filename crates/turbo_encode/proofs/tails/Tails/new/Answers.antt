use Rattle.turbo_encode.proofs.TailBits.{input_at, parity_at, four}
use Rattle.turbo_encode.proofs.tails.Tails.new.Goals as goal

pub returns-clause-d1 : goal.returns-clause-d1
returns-clause-d1 c =
    let first = c.tail_path.ensures in let second = c.tail_path-2.ensures in
    four _ _ _ _ _ _ _ _
    (parity_at c.tail_path.result _ 0 first.parities)
    (input_at c.tail_path.result _ 2 first.inputs)
    (parity_at c.tail_path-2.result _ 0 second.parities)
    (input_at c.tail_path-2.result _ 2 second.inputs)

pub returns-clause-d2 : goal.returns-clause-d2
returns-clause-d2 c =
    let first = c.tail_path.ensures in let second = c.tail_path-2.ensures in
    four _ _ _ _ _ _ _ _
    (input_at c.tail_path.result _ 1 first.inputs)
    (parity_at c.tail_path.result _ 2 first.parities)
    (input_at c.tail_path-2.result _ 1 second.inputs)
    (parity_at c.tail_path-2.result _ 2 second.parities)
