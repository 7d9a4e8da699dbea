use Rattle.std.proofs.Common.{◌≡◌, ℕ, Err, Ok, ap, sym, ◌∙◌, min}
use Rattle.std.specs.declared.option.Option.{Option}
use Rattle.std.specs.declared.result.Result.{Result}
use Rattle.model_sender.specs.CircularBuffer.{Match}
use Rattle.rate_match.specs.Matching.{limit_of, matched}
use Rattle.rate_match.specs.declared.matching.BadMatch.{BadMatch}
use Rattle.gomzelat_c.specs.Refusals.{refusal_of}
use Rattle.gomzelat_c.specs.declared.transmission.Transmission.{Transmission}
use Rattle.gomzelat_c.proofs.Errors.{handed_on}
use Rattle.gomzelat_c.proofs.Matched.{none_refused, refused_first}
use Rattle.gomzelat_c.proofs.transmission.Transmission.sending.Goals as goal

-- what the matching comes to, from the numbers in a byte
matching_is : (t : Transmission) (limit : Option ℕ) (qm nl : ℕ) (r : Result Match BadMatch) → qm ≡ min t.qm 255 → nl ≡ min t.nl 255 → r ≡ matched qm nl t.g limit →
    matched (min t.qm 255) (min t.nl 255) t.g limit ≡ r
matching_is t limit qm nl r q n is =
    ap (λ (x : ℕ). matched x (min t.nl 255) t.g limit) (sym q) ∙ ap (λ (x : ℕ). matched qm x t.g limit) (sym n) ∙ sym is

pub returns-in_err-m-clause-refused : goal.returns-in_err-m-clause-refused
returns-in_err-m-clause-refused c =
    let t = c.args.self in
    let l = limit_of c.args.buffer in
    let b = c.in_err-m.field-0.0 in
    let is = matching_is t l c.in_a_byte.result c.in_a_byte-2.result (Err b) c.in_a_byte.ensures c.in_a_byte-2.ensures c.in_err-m.ensures in
    handed_on c.from_residual.result (refusal_of b) c.from_residual.ensures.1 ∙ sym (refused_first t l b is)

pub returns-in_err-accept-clause-refused : goal.returns-in_err-accept-clause-refused
returns-in_err-accept-clause-refused c =
    let t = c.args.self in
    let l = limit_of c.args.buffer in
    let m = c.in_ok-m.m in
    let is = matching_is t l c.in_a_byte.result c.in_a_byte-2.result (Ok m) c.in_a_byte.ensures c.in_a_byte-2.ensures c.in_ok-m.ensures in
    handed_on c.from_residual-in_err-accept.result c.in_err-accept.field-0.0 c.from_residual-in_err-accept.ensures.1
    ∙ c.in_err-accept.ensures.refused
    ∙ sym (none_refused t l m is)

pub returns-clause-refused : goal.returns-clause-refused
returns-clause-refused c =
    let t = c.args.self in
    let l = limit_of c.args.buffer in
    let m = c.in_ok-m.m in
    let is = matching_is t l c.in_a_byte.result c.in_a_byte-2.result (Ok m) c.in_a_byte.ensures c.in_a_byte-2.ensures c.in_ok-m.ensures in
    c.in_ok-accept.ensures.refused ∙ sym (none_refused t l m is)
