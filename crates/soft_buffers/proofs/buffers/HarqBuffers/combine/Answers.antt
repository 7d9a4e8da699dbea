use Rattle.std.proofs.Common.{ℤ, List, ◌++◌, length, take, drop, subst, sym, ap, arith}
use Rattle.model_receiver.specs.SoftCells.{Reception, reception}
use Rattle.soft_buffers.specs.Buffers.{Buffers, HaveTaken, Hold}
use Rattle.soft_buffers.specs.Shown.{shown}
use Rattle.soft_buffers.proofs.Codewords.{hold-more, taken-whole}
use Rattle.soft_buffers.proofs.buffers.HarqBuffers.combine.Goals as goal

pub returns-clause-added : goal.returns-clause-added
returns-clause-added c =
    let b = c.self.inside in
    let x : Reception = reception c.args.m.now c.args.rv c.args.softs.now in
    let new : List (List ℤ) = c.add_codeword.new.blocks in
    subst (λ (v : Buffers). HaveTaken v.plan x v.cells (take b.blocks.len (new ++ drop (length new) b.blocks.items))) c.self.view_is
    (taken-whole b.plan x b.blocks.len b.blocks.items c.as_mut_slice.result.now new c.add_codeword.ensures.cells c.as_mut_slice.ensures.value
    (omega (arith, c.self.invariant.count, c.add_codeword.ensures.count, c.as_mut_slice.ensures.len, ap length c.as_mut_slice.ensures.value)))

pub returns-clause-cells : goal.returns-clause-cells
returns-clause-cells c xs hold =
    let b = c.self.inside in
    let x : Reception = reception c.args.m.now c.args.rv c.args.softs.now in
    let new : List (List ℤ) = take b.blocks.len (c.add_codeword.new.blocks ++ drop (length c.add_codeword.new.blocks) b.blocks.items) in
    let took : HaveTaken b.plan x b.blocks.items new = subst (λ (v : Buffers). HaveTaken v.plan x v.cells new) (sym c.self.view_is) (returns-clause-added c) in
    hold-more (shown b) new xs x took (subst (λ (v : Buffers). Hold v xs) (sym c.self.view_is) hold)
