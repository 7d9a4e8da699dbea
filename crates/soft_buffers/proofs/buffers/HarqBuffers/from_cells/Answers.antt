use Rattle.std.proofs.Common.{ℤ, List, length, sym, subst, ap, ◌∙◌}
use Rattle.soft_buffers.specs.Buffers.{AreLong}
use Rattle.soft_buffers.proofs.FlatCells.{by_block-count, by_block-long}
use Rattle.soft_buffers.proofs.buffers.HarqBuffers.from_cells.Goals as goal

pub invariant_of-result : goal.invariant_of-result
invariant_of-result c =
    let plan = c.args.plan.now in
    let cells : List ℤ = c.args.cells.now in
    record {
      fits = c.requires.fits;
      count = ap length c.in_ok-divided.ensures ∙ by_block-count plan cells;
      long = subst (λ (blocks : List (List ℤ)). AreLong plan blocks) (sym c.in_ok-divided.ensures) (by_block-long plan cells c.requires.cells);
    }
