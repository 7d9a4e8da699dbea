use Rattle.std.proofs.Common.{[], slice_index_or, sym, ap, ◌∙◌}
use Rattle.command_words.specs.Operands.{value_under}
use Rattle.command_words.proofs.Givens.{given_at}
use Rattle.command_words.proofs.operands.given.Goals as goal

pub returns-in-Some-clause-value : goal.returns-in-Some-clause-value
returns-in-Some-clause-value c =
    let words = c.args.operands.now in
    c.accepted.ensures.value
    ∙ sym (given_at c.args.rule.now words c.loop-index.index (record { ref_ptr = (0, 0); now = [] }) c.in-Some.value.now c.loop-index-test.true
    (c.in-Some.ensures ∙ ap (λ n. value_under n (slice_index_or words c.loop-index.index (record { ref_ptr = (0, 0); now = [] })).now) c.text.ensures))
    ∙ c.loop-index.invariant
