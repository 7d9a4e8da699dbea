use Rattle.std.proofs.Common.{◌≡◌, ◌++◌, ℕ, List, length, take, drop, ap, ◌∙◌, arith}
use Rattle.std.proofs.Math.Seq.{take-append_seam}
use Rattle.lte_bits.specs.declared.bit.Bit.{Bit}
use Rattle.lte_bits.specs.declared.bit.Cell.{Cell}
use Rattle.model_sender.specs.ConstituentCoder.{parities}
use Rattle.model_sender.specs.CodedStreams.{cells_of, null_filled, coded, interleaved}
use Rattle.turbo_encode.proofs.StreamsMade.{length-interleaved, streams-made}
use Rattle.turbo_encode.proofs.encoder.encode_with.Goals as goal

-- a list that is written whole
all_written : (len : ℕ) (old new : List Cell) → len ≡ length old → length new ≡ length old → take len (new ++ drop (length new) old) ≡ new
all_written len old new is long = ap (λ (n : ℕ). take n (new ++ drop (length new) old)) (let e : len ≡ length new = omega (arith, is, long) in e) ∙ take-append_seam new (drop (length new) old)

pub returns : goal.returns
returns c =
    let bits = c.as_slice-bits.result.now in let fill = c.args.block.now.fill in
    let ends = c.code-ends.result in
    let coders = c.code-ends.ensures in
    let first = c.in_ok-first.first in let second = c.in_ok-second.second in
    let tails = c.new-tails.result in
    streams-made fill bits (interleaved bits) ends.first ends.second c.in_ok-ended.field-0 c.in_ok-ended-2.field-0 c.in_ok-ended-3.field-0
    (length-interleaved bits) coders.first_end coders.second_end
    (c.in_ok-ended.ensures ∙ (ap (λ (cells : List Cell). cells ++ cells_of tails.d0) c.in_ok-own.ensures
    ∙ ap (λ (tail : List Bit). null_filled fill bits ++ cells_of tail) c.new-tails.ensures.d0))
    (c.in_ok-ended-2.ensures ∙ (ap (λ (cells : List Cell). cells ++ cells_of tails.d1)
    (all_written first.len first.items c.code-ends.new.first first.ok.0 (omega (arith, c.code-ends.auto.first, ap length c.as_mut_slice.ensures.value)) ∙ coders.first)
    ∙ ap (λ (tail : List Bit). null_filled fill (parities bits) ++ cells_of tail) c.new-tails.ensures.d1))
    (c.in_ok-ended-3.ensures ∙ (ap (λ (cells : List Cell). cells ++ cells_of tails.d2)
    (all_written second.len second.items c.code-ends.new.second second.ok.0 (omega (arith, c.code-ends.auto.second, ap length c.as_mut_slice-2.ensures.value)) ∙ coders.second)
    ∙ ap (λ (tail : List Bit). cells_of (parities (interleaved bits)) ++ cells_of tail) c.new-tails.ensures.d2))
    ∙ ap (λ (bs : List Bit). coded fill bs (interleaved bs)) c.as_slice-bits.ensures
