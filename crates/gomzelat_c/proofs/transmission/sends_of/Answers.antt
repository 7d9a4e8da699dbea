use Rattle.std.proofs.Common.{◌≡◌, ◌+◌, ◌<◌, ◌≤◌, None, Some, [], ◌∷◌, ◌++◌, length, get_or, take, sym, ap, ◌∙◌, arith}
use Rattle.std.proofs.lemmas.List.{length-map, length-take-le}
use Rattle.rate_match.specs.Matching.{limit_of}
use Rattle.rate_match.specs.Sendings.{common}
use Rattle.rate_match.specs.declared.sends.Sending.{Sending}
use Rattle.gomzelat_c.specs.Transmissions.{transmission_of, transmissions_of}
use Rattle.gomzelat_c.specs.Tests.{first_failed, transmission_tests}
use Rattle.gomzelat_c.specs.declared.transmission.Transmission.{Transmission}
use Rattle.gomzelat_c.proofs.Errors.{handed_on}
use Rattle.gomzelat_c.proofs.Transmissions.{after_first, common_limit, passed_to, refused_at, sends_to, version_few}
use Rattle.gomzelat_c.proofs.transmission.sends_of.Goals as goal

pub returns-in_err-sending-clause-refused : goal.returns-in_err-sending-clause-refused
returns-in_err-sending-clause-refused c =
    let ts = c.args.transmissions.now in
    let i = c.loop-transmission.transmission-index in
    let none : Transmission = record { qm = 0; nl = 0; g = 0; rv = 0 } in
    let r = c.in_err-sending.field-0.0 in
    let here : first_failed (transmission_tests (get_or ts (i + 1) none)) ≡ Some r =
    ap (λ t. first_failed (transmission_tests t)) (sym (after_first ts i none)) ∙ sym c.in_err-sending.ensures.refused
    in
    handed_on c.from_residual-in_err-sending.result r c.from_residual-in_err-sending.ensures.1
    ∙ sym (refused_at ts (i + 1) none r (omega arith) c.loop-transmission.invariant.passed here)

pub loop-transmission-preserved : goal.loop-transmission-preserved
loop-transmission-preserved c =
    let ts = c.args.transmissions.now in
    let l = limit_of c.args.buffer in
    let k = c.loop-transmission.transmission-index + 1 in
    let none : Transmission = record { qm = 0; nl = 0; g = 0; rv = 0 } in
    let t = get_or ts k none in
    let below : k < length ts = omega arith in
    let same = after_first ts c.loop-transmission.transmission-index none in
    let passed : first_failed (transmission_tests t) ≡ None =
    ap (λ t. first_failed (transmission_tests t)) (sym same) ∙ sym c.in_ok-sending.ensures.refused
    in
    let sending : c.in_ok-sending.sending ≡ transmission_of l t = c.in_ok-sending.ensures.sending ∙ ap (transmission_of l) same in
    let held = c.loop-transmission.invariant.sends in
    let seen : length (take k ts) ≡ k = length-take-le k ts (omega (arith, below)) in
    let count : length c.loop-transmission.sends ≡ k = ap length held ∙ length-map (take k ts) (transmission_of l) ∙ seen in
    let few : t.rv ≤ 3 = version_few t passed in
    let version : c.in_ok-sending.sending.rv ≤ 3 = omega (arith, few, ap (λ (s : Sending). s.rv) sending) in
    let buffer : c.in_ok-sending.sending.m.limit ≡ (common c.loop-transmission.sends).limit =
    ap (λ (s : Sending). s.m.limit) sending ∙ sym (ap (λ ss. (common ss).limit) held ∙ common_limit l (take k ts) (omega (arith, seen)))
    in
    let added = c.add-added.ensures.added (c.add-added.ensures.taken.1 (version, omega (arith, count, below), buffer)) in
    record {
      sends = added ∙ ap (λ ss. ss ++ c.in_ok-sending.sending ∷ []) held
          ∙ ap (λ s. transmissions_of l (take k ts) ++ s ∷ []) sending
          ∙ sym (sends_to l ts k none below);
      passed = passed_to ts k none below c.loop-transmission.invariant.passed passed;
    }
