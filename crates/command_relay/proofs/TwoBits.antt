-- Streams of transmissions with two bits a point, which are sent as by themselves.
use Rattle.std.proofs.Common.{◌≡◌, ℕ, zero, suc, ◌+◌, ◌*◌, ◌/◌, ◌%◌, ◌<◌, false, List, [], ◌∷◌, ◌++◌, length, map, take, drop, refl, ap, sym, subst, ◌∙◌, All, arith}
use Rattle.std.proofs.Math.Seq.{take-append_seam, drop-append_seam}
use Rattle.model_sender.specs.CircularBuffer.{Match}
use Rattle.rate_match.specs.Matching.{IsMatch}
use Rattle.rate_match.specs.declared.sends.Sending.{Sending}
use Rattle.soft_channel.specs.Channel.{NoiseChannel, strength_of, transmission_over}
use Rattle.soft_channel.specs.Noise.{noise_terms}
use Rattle.qam_points.specs.Reception.{received}
use Rattle.coded_stream.specs.Header.{Header, word_text}
use Rattle.coded_stream.specs.Blocks.{AreTransmissions, Block, IsBlock, IsTransmission, lengths, transmission_size}
use Rattle.coded_stream.specs.Body.{Body, Step, block, ended, refused, step, after_step, body, no_more, whole, next_start}
use Rattle.coded_stream.specs.Stream.{AreBytes}
use Rattle.coded_stream.specs.declared.kind.Kind.{Kind}
use Rattle.coded_stream.specs.declared.kind.Kind.TheVariants as kind
use Rattle.coded_stream.proofs.BodySpelled.{bytes-suffix, step-block}
use Rattle.coded_stream.specs.Blocks.{block_text}
use Rattle.run_loop.specs.Answer.{preceded_by}
use Rattle.stream_loop.specs.Handling.{Handled, body_answer, one_if, part}
use Rattle.stream_loop.specs.SoftBytes.{bytes_of}
use Rattle.command_relay.specs.Channel.{channel, noisy_text, noisy_conversion}
use Rattle.command_relay.specs.HardBits.{bits_in}
use Rattle.command_relay.specs.Points.{points, received_text, point_conversion}
use Rattle.command_relay.specs.Conversions.{made_from}
use Rattle.command_relay.proofs.HardBits.{length_bits}
use Rattle.command_relay.proofs.Modulation.{none_over}
use Rattle.command_relay.proofs.Pairs.{as_by_themselves}

-- one transmission
pub same_text : (n : NoiseChannel) (h : Header) (place number : ℕ) (m : Match) (bytes : List ℕ) → 0 < n.amp → m.qm ≡ 2 → IsMatch m → IsTransmission kind.Hard m.g bytes →
    received_text n h place number m bytes ≡ noisy_text n h place number m bytes
same_text n h place number m bytes some two is one =
    let bits = bits_in m bytes in
    let t = transmission_over n place number in
    let long : length bits ≡ m.g = length_bits m bytes one in
    let divides : m.g % 2 ≡ 0 = ap (λ (q : ℕ). m.g % q) (sym two) ∙ none_over m is in
    let even : length bits % 2 ≡ 0 = ap (λ (g : ℕ). g % 2) long ∙ divides in
    let all : length bits ≡ 2 * (m.g / 2) = omega (arith, long, divides) in
    ap (λ (q : ℕ). bytes_of (received q n.amp (noise_terms n.noise t (2 * (m.g / q))) bits)) two
    ∙ ap bytes_of (as_by_themselves (strength_of n) t bits (2 * (m.g / 2)) some even all)

-- those of a block
same_sent : (n : NoiseChannel) (h : Header) (place number : ℕ) (sends : List Sending) (bytes : List ℕ) → 0 < n.amp → h.kind ≡ kind.Hard →
    All (λ s. s.m.qm ≡ 2) sends → All (λ s. IsMatch s.m) sends → AreTransmissions kind.Hard (map (λ s. s.m.g) sends) bytes →
    made_from (point_conversion n) h place number sends bytes ≡ made_from (noisy_conversion n) h place number sends bytes
same_sent n h place number [] bytes some hard two are sent = refl
same_sent n h place number (s ∷ sends) bytes some hard twos all (first, rest, is, one, others) =
    let q : s.m.qm ≡ 2 = twos 0 s (omega arith) in
    let m : IsMatch s.m = all 0 s (omega arith) in
    let two : All (λ x. x.m.qm ≡ 2) sends = λ k d inside. twos (suc k) d (omega (arith, inside)) in
    let are : All (λ x. IsMatch x.m) sends = λ k d inside. all (suc k) d (omega (arith, inside)) in
    let size = transmission_size h.kind s.m.g in
    let long : length first ≡ size = one.size ∙ ap (λ (k : Kind). transmission_size k s.m.g) (sym hard) in
    let front : take size bytes ≡ first = ap (λ (xs : List ℕ). take size xs) is ∙ ap (λ (k : ℕ). take k (first ++ rest)) (sym long) ∙ take-append_seam first rest in
    let left : drop size bytes ≡ rest = ap (λ (xs : List ℕ). drop size xs) is ∙ ap (λ (k : ℕ). drop k (first ++ rest)) (sym long) ∙ drop-append_seam first rest in
    let w = point_conversion n in
    let v = noisy_conversion n in
    ap (λ (xs : List ℕ). received_text n h place number s.m xs ++ made_from w h place (number + 1) sends (drop size bytes)) front
    ∙ ap (λ (xs : List ℕ). xs ++ made_from w h place (number + 1) sends (drop size bytes)) (same_text n h place number s.m first some q m one)
    ∙ ap (λ (xs : List ℕ). noisy_text n h place number s.m first ++ made_from w h place (number + 1) sends xs) left
    ∙ ap (λ (xs : List ℕ). noisy_text n h place number s.m first ++ xs) (same_sent n h place (number + 1) sends rest some hard two are others)
    ∙ ap (λ (xs : List ℕ). noisy_text n h place number s.m first ++ made_from v h place (number + 1) sends xs) (sym left)
    ∙ ap (λ (xs : List ℕ). noisy_text n h place number s.m xs ++ made_from v h place (number + 1) sends (drop size bytes)) (sym front)

same_block : (n : NoiseChannel) (h : Header) (number : ℕ) (b : Block) → 0 < n.amp → h.kind ≡ kind.Hard →
    All (λ s. s.m.qm ≡ 2) h.sends → All (λ s. IsMatch s.m) h.sends → IsBlock h b → (points n).block h number b ≡ (channel n).block h number b
same_block n h number b some hard two are is =
    let P : Kind → Type 0 = λ k. AreTransmissions k (lengths h) b.bytes in
    ap (λ (xs : List ℕ). record { text = word_text b.payload ++ xs; line = []; failed = false })
    (same_sent n h number 0 h.sends b.bytes some hard two are (subst P hard is.sent))

-- and those of what a stream still says
same_step : (n : NoiseChannel) (h : Header) (number failed more place : ℕ) (left : List ℕ) (after : ℕ → List ℕ → Body) (s : Step) → 0 < n.amp → h.kind ≡ kind.Hard →
    All (λ s. s.m.qm ≡ 2) h.sends → All (λ s. IsMatch s.m) h.sends → AreBytes left → step h more place left ≡ s →
    ((number failed place : ℕ) (rest : List ℕ) → AreBytes rest → 0 < more →
    body_answer (points n) h number failed (after place rest) ≡ body_answer (channel n) h number failed (after place rest)) →
    body_answer (points n) h number failed (after_step place after s) ≡ body_answer (channel n) h number failed (after_step place after s)
same_step n h number failed more place left after (block b rest) some hard two are bytes e others =
    let r = step-block h more place left b rest bytes e in
    let B : List ℕ → Type 0 = λ xs. AreBytes xs in
    let ok : AreBytes rest = bytes-suffix (block_text b) rest (subst B r.left_is bytes) in
    let start = next_start place b in
    let x = (channel n).block h number b in
    ap (λ (y : Handled). preceded_by (part y b ∷ []) (body_answer (points n) h (number + 1) (failed + one_if y.failed) (after start rest))) (same_block n h number b some hard two are r.is)
    ∙ ap (preceded_by (part x b ∷ [])) (others (number + 1) (failed + one_if x.failed) start rest ok r.room)
same_step n h number failed more place left after ended some hard two are bytes e others = refl
same_step n h number failed more place left after (refused r) some hard two are bytes e others = refl

pub same_body : (n : NoiseChannel) (h : Header) (number failed more place : ℕ) (left : List ℕ) → 0 < n.amp → h.kind ≡ kind.Hard →
    All (λ s. s.m.qm ≡ 2) h.sends → All (λ s. IsMatch s.m) h.sends → AreBytes left →
    body_answer (points n) h number failed (body h more place left) ≡ body_answer (channel n) h number failed (body h more place left)
unfolding body
same_body n h number failed zero place left some hard two are bytes =
    same_step n h number failed zero place left (λ _ _. no_more whole) (step h zero place left) some hard two are bytes refl (λ _ _ _ _ _ no. absurd (omega (arith, no)))
same_body n h number failed (suc more) place left some hard two are bytes =
    same_step n h number failed (suc more) place left (body h more) (step h (suc more) place left) some hard two are bytes refl
    (λ k f at rest ok room. same_body n h k f more at rest some hard two are ok)
