use Rattle.std.specs.Prelude.{replicate}
use Rattle.std.proofs.Common.{◌≡◌, ℕ, ◌+◌, ◌-◌, List, ◌++◌, length, map, take, drop, sym, ap, ◌∙◌}
use Rattle.lte_bits.proofs.Pushes.{rest_written, longer-kept, rest-long}
use Rattle.lte_bits.specs.declared.bit.Bit.{Bit}
use Rattle.lte_bits.specs.declared.bit.Bit.TheVariants.{Zero}
use Rattle.lte_bits.specs.declared.block.Streams.{Streams}
use Rattle.model_sender.specs.Segmentation.{Plan, size, fill}
use Rattle.model_sender.specs.CircularBuffer.{start, w}
use Rattle.model_sender.specs.Selection.{bit_of_cell, bits_from, holds_bit, repeated, sent}
use Rattle.rate_match.proofs.Lengths.{sent-long}
use Rattle.rate_match.proofs.selecting.push_piece.Goals as goal

-- e bits of the streams, from place k0 of the first n on
chosen : Streams → (k fill k0 n e : ℕ) → List Bit
chosen s k fill k0 n e = map (λ p. bit_of_cell (w k fill s p)) (repeated (bits_from (holds_bit k fill) k0 n) e)

same_chosen : (s : Streams) {k l f g a b n m d e : ℕ} → k ≡ l → f ≡ g → a ≡ b → n ≡ m → d ≡ e → chosen s k f a n d ≡ chosen s l g b m e
same_chosen s size fill start places count i = chosen s (size i) (fill i) (start i) (places i) (count i)

same_start : {k l n m : ℕ} (rv : ℕ) → k ≡ l → n ≡ m → start k n rv ≡ start l m rv
same_start rv size places i = start (size i) (places i) rv

pub returns : goal.returns
unfolding chosen
returns c =
    let plan : Plan = c.args.plan.now in
    let had : List Bit = c.args.bits.now.items in
    let now = c.as_mut_slice.result.now in
    let new = c.write_bits.new.out in
    let first : c.len-from.result ≡ length had = c.len-from.ensures ∙ c.args.bits.now.ok.0 in
    let all : length now ≡ c.len-from.result + c.piece_len.result = ap length c.as_mut_slice.ensures.value ∙ sym c.resize.new.self.ok.0 ∙ c.in_ok-resize.ensures.len in
    let from = c.start.ensures ∙ same_start c.args.rv c.ring_of-ring.ensures.size c.ring_of-ring.ensures.places in
    let part : length (take (length now - c.len-from.result) (drop c.len-from.result now)) ≡ c.piece_len.result = rest-long c.len-from.result c.piece_len.result now all in
    let is : new ≡ sent plan c.args.m.now c.args.streams.now c.args.r c.args.rv =
    c.write_bits.ensures
    ∙ ap (chosen c.args.streams.now c.ring_of-ring.result.k c.ring_of-ring.result.fill c.start.result c.ring_of-ring.result.size) part
    ∙ same_chosen c.args.streams.now c.ring_of-ring.ensures.size c.ring_of-ring.ensures.fillers from c.ring_of-ring.ensures.places c.piece_len.ensures.value in
    let long : length new ≡ c.piece_len.result = ap length is ∙ sent-long plan c.args.m.now c.args.streams.now c.args.r c.args.rv ∙ sym c.piece_len.ensures.value in
    rest_written c.len-from.result c.piece_len.result c.resize.new.self.len had now new _ _ first c.in_ok-resize.ensures.len long
    (longer-kept c.len-from.result c.piece_len.result Zero had now c.resize.new.self.items first c.as_mut_slice.ensures.value
    (c.in_ok-resize.ensures.items ∙ ap (λ (m : ℕ). take (c.len-from.result + c.piece_len.result) had ++ replicate (c.len-from.result + c.piece_len.result - m) Zero) (sym c.len-from.ensures)))
    ∙ ap (λ (bits : List Bit). had ++ bits) is
