use Rattle.std.proofs.Common.{◌≡◌, ℕ, ℤ, List, flat_map, length, map, subst, ap, ◌∙◌}
use Rattle.std.proofs.lemmas.Result.{IfOk-weaker}
use Rattle.lte_bits.specs.Softs.{clamped}
use Rattle.model_sender.specs.CircularBuffer.{Match}
use Rattle.model_sender.specs.Segmentation.{Plan}
use Rattle.model_receiver.specs.SoftCells.{Reception, reception}
use Rattle.soft_buffers.specs.Buffers.{AreLong, Buffers, HaveTaken}
use Rattle.soft_buffers.specs.Flat.{by_block, cell_count, combined}
use Rattle.soft_buffers.proofs.FlatCells.{combined-is, combined-long}
use Rattle.gomzelat_c.proofs.combining.cells_with.Goals as goal

-- what was taken, by other names of plan, values and cells
taken-of : (p q : Plan) (m : Match) (rv : ℕ) (vs ws : List ℤ) (old cells new : List (List ℤ)) → q ≡ p → vs ≡ ws → old ≡ cells
    → HaveTaken q (reception m rv vs) old new → HaveTaken p (reception m rv ws) cells new
taken-of p q m rv vs ws old cells new e f g took =
    subst (λ (z : Plan). HaveTaken z (reception m rv ws) cells new) e
    (subst (λ (z : List ℤ). HaveTaken q (reception m rv z) cells new) f
    (subst (λ (z : List (List ℤ)). HaveTaken q (reception m rv vs) z new) g took))

pub returns-clause-cells : goal.returns-clause-cells
returns-clause-cells c =
    let p : Plan = c.args.job.now.plan in
    let m : Match = c.args.job.now.sending.m in
    let rv : ℕ = c.args.job.now.sending.rv in
    let values : List ℤ = map (clamped 127) c.args.values.now in
    let cells : List ℤ = map (clamped 127) c.args.cells.now in
    let b : Buffers = c.in_ok-buffers.buffers in
    let new : Buffers = c.combine.new.self in
    let begun : b.cells ≡ by_block p cells = c.in_ok-buffers.ensures.cells ∙ ap (by_block p) (c.as_slice.ensures ∙ c.in_ok-softs.ensures) in
    let took : HaveTaken p (reception m rv values) (by_block p cells) new.cells =
    taken-of p b.plan m rv c.as_slice-2.result.now values b.cells (by_block p cells) new.cells c.in_ok-buffers.ensures.plan
    (c.as_slice-2.ensures ∙ c.in_ok-values.ensures) begun c.combine.ensures.added in
    let plan_is : new.plan ≡ p = c.combine.ensures.plan ∙ c.in_ok-buffers.ensures.plan in
    let count : length new.cells ≡ p.c = subst (λ (v : Buffers). length v.cells ≡ v.plan.c) c.buffers-2.view_is c.buffers-2.invariant.count ∙ ap (λ (q : Plan). q.c) plan_is in
    let long : AreLong p new.cells = subst (λ (q : Plan). AreLong q new.cells) plan_is (subst (λ (v : Buffers). AreLong v.plan v.cells) c.buffers-2.view_is c.buffers-2.invariant.long) in
    IfOk-weaker c.cells.result (λ xs. xs ≡ flat_map (λ block. block) new.cells) (λ xs. xs ≡ combined p (reception m rv values) cells)
    (λ xs is. is ∙ combined-is p (reception m rv values) cells new.cells count long took) c.cells.ensures

pub returns-clause-long : goal.returns-clause-long
returns-clause-long c =
    let p : Plan = c.args.job.now.plan in
    let x : Reception = reception c.args.job.now.sending.m c.args.job.now.sending.rv (map (clamped 127) c.args.values.now) in
    let cells : List ℤ = map (clamped 127) c.args.cells.now in
    IfOk-weaker c.cells.result (λ xs. xs ≡ combined p x cells) (λ xs. length xs ≡ cell_count p)
    (λ xs is. ap length is ∙ combined-long p x cells) (returns-clause-cells c)
