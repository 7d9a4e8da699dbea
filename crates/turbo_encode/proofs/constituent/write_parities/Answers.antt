use Rattle.std.proofs.Common.{◌≡◌, ◌*◌, ◌/◌, ◌<◌, ℕ, List, ◌++◌, length, take, subst, sym, ap, ◌∙◌, arith}
use Rattle.std.specs.Prelude.{IfSome}
use Rattle.std.proofs.lemmas.List.FromFn.{length-map-range_with_len}
use Rattle.lte_bits.specs.declared.bit.Bit.{Bit}
use Rattle.lte_bits.proofs.Chunks.{take-chunk}
use Rattle.model_sender.specs.ConstituentCoder.{state_number}
use Rattle.model_sender.specs.CodedStreams.{interleaved}
use Rattle.model_sender.specs.Interleaver.{place}
use Rattle.turbo_encode.proofs.Coders.{all_cells, four_coded, four_interleaved, last_state, places_below}
use Rattle.model_sender.proofs.SizeTable.{size-whole}
use Rattle.turbo_encode.proofs.StreamsMade.{length-interleaved}
use Rattle.turbo_encode.proofs.constituent.write_parities.Goals as goal

pub bounds-places-i : goal.bounds-places-i
bounds-places-i c =
    let k : ℕ = length c.args.bits.now in
    let long : length c.args.places.now ≡ k = ap length c.requires.places ∙ length-map-range_with_len (place k) 0 k in
    omega (arith, long, c.loop-i-test.true, c.as_chunks.ensures.front_len, c.as_chunks-2.ensures.front_len)

pub bits_at-requires : goal.bits_at-requires
bits_at-requires c = λ j h.
    let k : ℕ = length c.args.bits.now in
    let long : length c.args.places.now ≡ k = ap length c.requires.places ∙ length-map-range_with_len (place k) 0 k in
    places_below k c.args.places.now _ c.as_chunks-2.result.0.now (length c.args.places.now / 4) c.loop-i.i j c.requires.size c.requires.places
    (omega (arith, long, c.loop-i-test.true, c.as_chunks.ensures.front_len))
    (omega (arith, long))
    c.as_chunks-2.ensures.front
    h

pub loop-i-preserved : goal.loop-i-preserved
loop-i-preserved c =
    let bits = c.args.bits.now in
    let k : ℕ = length bits in
    let loop = c.loop-i in
    let long : length c.args.places.now ≡ k = ap length c.requires.places ∙ length-map-range_with_len (place k) 0 k in
    let below : loop.i < k / 4 = omega (arith, c.loop-i-test.true, c.as_chunks.ensures.front_len) in
    record {
      own = four_coded loop.i bits _ loop.first c.write_four-own.new.cells loop.own c.write_four-own.result loop.invariant.own
          (take-chunk 4 (k / 4) loop.i bits _ c.as_chunks.result.0.now below c.as_chunks.ensures.front)
          c.write_four-own.ensures.cells c.write_four-own.ensures.next c.write_four-own.ensures.small;
      other = four_coded loop.i (interleaved bits) c.bits_at.result loop.second c.write_four-other.new.cells loop.other c.write_four-other.result loop.invariant.other
          (four_interleaved bits c.args.places.now _ c.as_chunks-2.result.0.now (length c.args.places.now / 4) loop.i c.requires.places (omega (arith, long, below)) c.as_chunks-2.ensures.front
          ∙ ap (λ (four : List Bit). take (loop.i * 4) (interleaved bits) ++ four) (sym c.bits_at.ensures))
          c.write_four-other.ensures.cells c.write_four-other.ensures.next c.write_four-other.ensures.small;
    }

pub returns-clause-first : goal.returns-clause-first
returns-clause-first c =
    let bits = c.args.bits.now in
    let loop = c.loop-i in
    all_cells (loop.i * 4) bits loop.first loop.own loop.invariant.own
    (omega (arith, c.loop-i-test.false, c.as_chunks.ensures.front_len, size-whole (length bits) c.requires.size))
    (omega (arith, loop.auto.first, c.requires.first))

pub returns-clause-second : goal.returns-clause-second
returns-clause-second c =
    let bits = c.args.bits.now in
    let loop = c.loop-i in
    all_cells (loop.i * 4) (interleaved bits) loop.second loop.other loop.invariant.other
    (omega (arith, c.loop-i-test.false, c.as_chunks.ensures.front_len, size-whole (length bits) c.requires.size, length-interleaved bits))
    (omega (arith, loop.auto.second, c.requires.second, length-interleaved bits))

pub returns-clause-first_end : goal.returns-clause-first_end
returns-clause-first_end c =
    let bits = c.args.bits.now in
    let loop = c.loop-i in
    last_state (loop.i * 4) bits loop.first loop.own c.unwrap.result loop.invariant.own
    (omega (arith, c.loop-i-test.false, c.as_chunks.ensures.front_len, size-whole (length bits) c.requires.size))
    (subst (λ o. IfSome o (λ s. state_number s ≡ loop.own)) c.unwrap.ensures c.new.ensures.number)

pub returns-clause-second_end : goal.returns-clause-second_end
returns-clause-second_end c =
    let bits = c.args.bits.now in
    let loop = c.loop-i in
    last_state (loop.i * 4) (interleaved bits) loop.second loop.other c.unwrap-2.result loop.invariant.other
    (omega (arith, c.loop-i-test.false, c.as_chunks.ensures.front_len, size-whole (length bits) c.requires.size, length-interleaved bits))
    (subst (λ o. IfSome o (λ s. state_number s ≡ loop.other)) c.unwrap-2.ensures c.new-2.ensures.number)
