use Rattle.std.proofs.Common.{◌≡◌, ℕ, ◌<◌, ℤ, List, [], length, take, get_or, set, subst, ap, sym, ◌∙◌, arith}
use Rattle.std.specs.List.{refill}
use Rattle.std.proofs.lemmas.List.{get_or_read, length-drop}
use Rattle.model_sender.specs.Segmentation.{Plan}
use Rattle.model_sender.specs.CircularBuffer.{piece_length}
use Rattle.model_receiver.specs.SoftCells.{Reception, piece, piece_start, reception}
use Rattle.soft_buffers.specs.Buffers.{HasTaken, cells_of_block}
use Rattle.soft_buffers.proofs.Codewords.{start-within, rest-more, passed-more, refilled}
use Rattle.soft_buffers.proofs.pieces.add_codeword.Goals as goal

pub split_at-requires : goal.split_at-requires
split_at-requires c =
    let p : Plan = c.args.plan.now in
    let count = ap (λ (q : Plan). q.c) c.plan.view_is in
    let within = start-within p c.args.m.now c.loop-r.r (omega (arith, c.loop-r-test.true, count)) in
    omega (
      arith,
      within,
      c.piece_len.ensures.value,
      c.piece_len.ensures.whole,
      c.requires.values,
      ap length c.loop-r.invariant.rest,
      length-drop
          (piece_start p c.args.m.now c.loop-r.r) c.args.softs.now,
    )

pub loop-r-preserved : goal.loop-r-preserved
loop-r-preserved c =
    let p : Plan = c.args.plan.now in
    let count = ap (λ (q : Plan). q.c) c.plan.view_is in
    let m = c.args.m.now in
    let r : ℕ = c.loop-r.r in
    let x : Reception = reception m c.args.rv c.args.softs.now in
    let had : List ℤ = get_or c.loop-r.blocks r c.index-blocks-r.result in
    let inside : r < length c.loop-r.blocks = omega (arith, c.loop-r-test.true, c.loop-r.invariant.passed.count, count) in
    let is : had ≡ cells_of_block c.loop-r.blocks r = sym c.index-blocks-r.is ∙ get_or_read c.loop-r.blocks r c.index-blocks-r.result inside c.index-blocks-r.is [] in
    let given : c.as_mut_slice.result.now ≡ had = c.as_mut_slice.ensures.value in
    let long : length c.add_piece.new.cells ≡ length had = c.add_piece.ensures.long ∙ ap length given in
    let values : c.split_at.result.0.now ≡ piece p x r = c.split_at.ensures.front ∙ ap (λ (n : ℕ). take n c.loop-r.rest.now) c.piece_len.ensures.value
    ∙ ap (take (piece_length m p.c r)) c.loop-r.invariant.rest in
    let took : HasTaken p x r (cells_of_block c.loop-r.blocks r) c.add_piece.new.cells =
    subst (λ (cells : List ℤ). HasTaken p x r cells c.add_piece.new.cells) (given ∙ is) (c.add_piece.ensures.cells c.args.softs.now values) in
    record {
      rest = rest-more p m c.loop-r.r c.piece_len.result c.args.softs.now c.loop-r.rest.now c.split_at.result.1.now c.loop-r.invariant.rest c.piece_len.ensures.value c.split_at.ensures.back;
      passed = passed-more p x c.args.blocks.now c.loop-r.blocks (set c.loop-r.blocks r
          (refill (length had) had c.add_piece.new.cells)) c.loop-r.r c.add_piece.new.cells c.loop-r.invariant.passed (omega (arith, c.loop-r-test.true, count))
          (ap (set c.loop-r.blocks c.loop-r.r) (refilled (length had) had c.add_piece.new.cells (omega (arith, long))))
          (long ∙ ap length is) took;
    }
