use Rattle.std.proofs.Common.{◌≡◌, ℕ, List, None, [], ◌∷◌, nat_le, sym, ap, ◌∙◌}
use Rattle.model_sender.specs.CircularBuffer.{piece_length}
use Rattle.model_sender.specs.Segmentation.{Plan, plan_of}
use Rattle.rate_match.specs.declared.sends.Sending.{Sending}
use Rattle.gomzelat_c.specs.Selecting.{selection_tests}
use Rattle.gomzelat_c.specs.Stages.{piece_tests}
use Rattle.gomzelat_c.specs.Tests.{Test, first_failed, test}
use Rattle.gomzelat_c.specs.Transmissions.{limit_in, transmission_of}
use Rattle.gomzelat_c.specs.declared.refusal.Refusal.TheVariants.{ShortOutput}
use Rattle.gomzelat_c.specs.declared.transmission.Transmission.{Transmission}
use Rattle.gomzelat_c.proofs.Errors.{handed_on}
use Rattle.gomzelat_c.proofs.FirstFailed.{none_failed, one_failed}
use Rattle.gomzelat_c.proofs.selecting.accepted.Goals as goal

-- there is room for so many bits
abbrev room_test : (bits room : ℕ) → List Test
room_test bits room = test (nat_le bits room) ShortOutput ∷ []

pub returns-in_err-asked-clause-refused : goal.returns-in_err-asked-clause-refused
returns-in_err-asked-clause-refused c =
    let t = c.args.transmission.now in
    let r = c.in_err-asked.field-0.0 in
    let bits : ℕ = piece_length (transmission_of (limit_in c.args.n_ir) t).m (plan_of c.args.bytes).c c.args.r in
    handed_on c.from_residual.result r c.from_residual.ensures.1
    ∙ sym (one_failed (piece_tests c.args.bytes c.args.r t c.args.n_ir) (room_test bits c.args.room) r (sym c.in_err-asked.ensures.refused))

-- where the piece is accepted, of a plan and a transmission
after_piece : (bytes r : ℕ) (t : Transmission) (n_ir room bits : ℕ) (p : Plan) (s : Sending) → p ≡ plan_of bytes → s ≡ transmission_of (limit_in n_ir) t →
    bits ≡ piece_length s.m p.c r → None ≡ first_failed (piece_tests bytes r t n_ir) → first_failed (room_test bits room) ≡ first_failed (selection_tests bytes r t n_ir room)
after_piece bytes r t n_ir room bits p s planned sent count none =
    let own : ℕ = piece_length (transmission_of (limit_in n_ir) t).m (plan_of bytes).c r in
    let same : bits ≡ own = count ∙ ap (λ (q : Plan). piece_length s.m q.c r) planned ∙ ap (λ (x : Sending). piece_length x.m (plan_of bytes).c r) sent in
    ap (λ (n : ℕ). first_failed (room_test n room)) same
    ∙ sym (none_failed (piece_tests bytes r t n_ir) (room_test own room) (sym none))

pub returns-in_err-has_room-clause-refused : goal.returns-in_err-has_room-clause-refused
returns-in_err-has_room-clause-refused c =
    let asked = c.in_ok-asked.asked in
    handed_on c.from_residual-in_err-has_room.result c.in_err-has_room.field-0.0 c.from_residual-in_err-has_room.ensures.1
    ∙ c.in_err-has_room.ensures.refused
    ∙ after_piece c.args.bytes c.args.r c.args.transmission.now c.args.n_ir c.args.room c.piece_len.result asked.plan asked.sending
    c.in_ok-asked.ensures.plan c.in_ok-asked.ensures.sending c.piece_len.ensures.value c.in_ok-asked.ensures.refused

pub returns-clause-refused : goal.returns-clause-refused
returns-clause-refused c =
    let asked = c.in_ok-asked.asked in
    c.in_ok-has_room.ensures.refused
    ∙ after_piece c.args.bytes c.args.r c.args.transmission.now c.args.n_ir c.args.room c.piece_len.result asked.plan asked.sending
    c.in_ok-asked.ensures.plan c.in_ok-asked.ensures.sending c.piece_len.ensures.value c.in_ok-asked.ensures.refused
