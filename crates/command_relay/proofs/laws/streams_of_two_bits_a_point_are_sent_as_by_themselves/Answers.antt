use Rattle.std.proofs.Common.{◌≡◌, ℕ, List, [], ◌∷◌, length, true, refl, ap, subst}
use Rattle.coded_stream.specs.Header.{header_text, kind_code}
use Rattle.coded_stream.specs.Opening.{Opening, opens, refuses, is_wanted, opening}
use Rattle.coded_stream.specs.Stream.{AreBytes, most_blocks}
use Rattle.coded_stream.specs.declared.kind.Kind.{Kind}
use Rattle.coded_stream.specs.declared.kind.Kind.TheVariants as kind
use Rattle.coded_stream.specs.declared.kind.Want.TheVariants as want
use Rattle.coded_stream.proofs.BodySpelled.{bytes-suffix}
use Rattle.coded_stream.proofs.HeaderSpelled.{opening-spelled}
use Rattle.run_loop.specs.Answer.{preceded_by, heading}
use Rattle.stream_loop.specs.Handling.{opening_answer, stream_answer}
use Rattle.command_relay.specs.Channel.{channel, soft_header}
use Rattle.command_relay.specs.Points.{points, HasTwoBitsAPoint}
use Rattle.command_relay.proofs.TwoBits.{same_body}
use Rattle.command_relay.proofs.laws.streams_of_two_bits_a_point_are_sent_as_by_themselves.Goals as goal

pub returns : goal.returns
unfolding stream_answer
returns c n input some bytes two = by_opening (opening want.Hard input) refl two
  where
    is_hard : (k : Kind) → is_wanted want.Hard (kind_code k) ≡ true → k ≡ kind.Hard
    is_hard kind.Hard e = refl
    is_hard kind.Soft e = absurd (let no : ⊥ = cc in no)

    by_opening : (o : Opening) → opening want.Hard input ≡ o → HasTwoBitsAPoint o → opening_answer (points n) o ≡ opening_answer (channel n) o
    by_opening (refuses r) e all = refl
    by_opening (opens h left) e all =
        let o = opening-spelled want.Hard input h left bytes e in
        let B : List ℕ → Type 0 = λ xs. AreBytes xs in
        let ok : AreBytes left = bytes-suffix (header_text h) left (subst B o.input_is bytes) in
        let size = length (header_text h) in
        ap (preceded_by (heading (header_text (soft_header h)) size ∷ []))
        (same_body n h 0 0 most_blocks size left some (is_hard h.kind o.wanted) all o.header.sent.lawful ok)
