use Rattle.std.proofs.Common.{ℕ, nat_le, List, [], ◌∷◌, rules, sym, ◌∙◌}
use Rattle.rate_match.specs.Fitting.{fits_in}
use Rattle.model_sender.specs.Segmentation.{plan_of}
use Rattle.gomzelat_c.specs.State.{bit_count}
use Rattle.gomzelat_c.specs.Tests.{Test, cells_test, is_from, test}
use Rattle.gomzelat_c.specs.Transmissions.{limit_in}
use Rattle.gomzelat_c.specs.declared.refusal.Refusal.TheVariants.{BadLength, BadBuffer, BadWindows, BadLimit, ShortOutput, ShortBlocks, ShortBits}
use Rattle.gomzelat_c.proofs.Errors.{handed_on}
use Rattle.gomzelat_c.proofs.FirstFailed.{fourth}
use Rattle.gomzelat_c.proofs.decoding.accepted.Goals as goal

pub returns-in_err-accept-3-clause-refused : goal.returns-in_err-accept-3-clause-refused
returns-in_err-accept-3-clause-refused c =
    let bytes : ℕ = c.args.bytes in
    let r = c.args.receiver.now in
    let u = c.in_err-accept-3.field-0.0 in
    let rooms = c.args.rooms.now in
    let rest : List Test =
    test (nat_le bytes rooms.payload) ShortOutput ∷ cells_test bytes rooms.cells ∷ test (nat_le (plan_of bytes).c rooms.blocks) ShortBlocks
    ∷ test (nat_le (bit_count (plan_of bytes)) rooms.bits) ShortBits ∷ [] in
    handed_on c.from_residual-in_err-accept-3.result u c.from_residual-in_err-accept-3.ensures.1
    ∙ sym (fourth (is_from 1 18722 bytes) (fits_in (limit_in r.n_ir) (plan_of bytes).c (plan_of bytes).k_plus) (is_from 1 64 r.windows) (is_from 1 16 r.limit)
    BadLength BadBuffer BadWindows BadLimit u rest (search rules) (search rules) (search rules) (search rules))
