use Rattle.std.proofs.Common.{◌≡◌, ℕ, ◌+◌, ◌++◌, List, map, drop, ap, sym, subst, ◌∙◌}
use Rattle.coded_stream.specs.Blocks.{AreTransmissions, IsTransmission}
use Rattle.coded_stream.specs.Header.{word_text}
use Rattle.coded_stream.specs.Shown.{header_of}
use Rattle.rate_match.specs.declared.sends.Sending.{Sending}
use Rattle.rate_match.proofs.EachSending.{turn_at}
use Rattle.command_relay.specs.Conversions.{made_from}
use Rattle.command_relay.proofs.Places.{split_place, made_on}
use Rattle.command_relay.proofs.converter.Converted.text.Goals as goal

pub divided-requires : goal.divided-requires
divided-requires g c =
    let h = header_of c.args.header.now in
    let i = c.loop-number.number in
    let s : Sending = record { m = c.at-m.result.0; rv = c.at-m.result.1 } in
    let after = drop (i + 1) h.sends in
    let L : List Sending → Type 0 = λ ss. AreTransmissions h.kind (map (λ x. x.m.g) ss) c.loop-number.rest.now in
    let split = split_place h.kind s after c.loop-number.rest.now (subst L (turn_at h.sends i s c.at-m.ensures.value) c.loop-number.invariant.left) in
    split.room

pub push-requires-clause-accepted : goal.push-requires-clause-accepted
push-requires-clause-accepted g c =
    let h = header_of c.args.header.now in
    let i = c.loop-number.number in
    let s : Sending = record { m = c.at-m.result.0; rv = c.at-m.result.1 } in
    let rest = c.loop-number.rest.now in
    let after = drop (i + 1) h.sends in
    let L : List Sending → Type 0 = λ ss. AreTransmissions h.kind (map (λ x. x.m.g) ss) rest in
    let split = split_place h.kind s after rest (subst L (turn_at h.sends i s c.at-m.ensures.value) c.loop-number.invariant.left) in
    let P : List ℕ → Type 0 = λ xs. IsTransmission h.kind s.m.g xs in
    subst P (sym c.divided.ensures.own) split.own

pub loop-number-preserved : goal.loop-number-preserved
loop-number-preserved g c =
    let w = g.C.Converter.conversion c.args.self.now.0 in
    let h = header_of c.args.header.now in
    let i = c.loop-number.number in
    let s : Sending = record { m = c.at-m.result.0; rv = c.at-m.result.1 } in
    let rest = c.loop-number.rest.now in
    let text = c.loop-number.text.items in
    let after = drop (i + 1) h.sends in
    let all = word_text c.args.payload ++ made_from w h c.args.block 0 h.sends c.args.bytes.now in
    let here = turn_at h.sends i s c.at-m.ensures.value in
    let L : List Sending → Type 0 = λ ss. AreTransmissions h.kind (map (λ x. x.m.g) ss) rest in
    let T : List Sending → Type 0 = λ ss. text ++ made_from w h c.args.block i ss rest ≡ all in
    let split = split_place h.kind s after rest (subst L here c.loop-number.invariant.left) in
    let own = c.divided.ensures.own in
    let others = c.divided.ensures.others in
    let Q : List ℕ → Type 0 = λ xs. AreTransmissions h.kind (map (λ x. x.m.g) after) xs in
    let sent = w.made h c.args.block i s.m c.divided.result.0.now in
    let went = made_on w h c.args.block i s after text all rest sent (subst T here c.loop-number.invariant.text) (ap (w.made h c.args.block i s.m) own) in
    record {
      left = subst Q (sym others) split.others;
      text = ap (λ (xs : List ℕ). xs ++ made_from w h c.args.block (i + 1) after c.divided.result.1.now) c.in_ok-push.ensures
          ∙ ap (λ (xs : List ℕ). (text ++ sent) ++ made_from w h c.args.block (i + 1) after xs) others
          ∙ went;
    }
