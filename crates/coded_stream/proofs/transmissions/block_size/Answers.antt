use Rattle.std.proofs.Common.{ℕ, ◌+◌, take, ap, sym, ◌∙◌, arith}
use Rattle.coded_stream.specs.Blocks.{lengths, block_size}
use Rattle.coded_stream.specs.Shown.{header_of}
use Rattle.coded_stream.proofs.Sizes.{size-bounded}
use Rattle.coded_stream.proofs.Turns.{turn-is}
use Rattle.coded_stream.proofs.transmissions.block_size.Goals as goal

pub loop-turn-preserved : goal.loop-turn-preserved
loop-turn-preserved c =
    let h = c.args.header.now in
    let g : ℕ = c.length_at.result in
    let t = turn-is h.kind (lengths (header_of h)) c.loop-turn.turn g c.length_at.ensures.value in
    let small = size-bounded h.kind g (record { some = c.length_at.ensures.some; few = c.length_at.ensures.few }) in
    let before = c.loop-turn.invariant in
    record {
      total = ap (λ (n : ℕ). n + c.transmission_size-total.result) before.total
          ∙ ap (λ (n : ℕ). block_size h.kind (take c.loop-turn.turn (lengths (header_of h))) + n) c.transmission_size-total.ensures ∙ sym t.size;
      few = omega (arith, before.few, small.few, c.transmission_size-total.ensures);
    }
