use Rattle.std.proofs.Common.{◌≡◌, ◌+◌, ◌<◌, ℕ, suc, ℤ, pos, length, get_or, ap, subst, sym, ◌∙◌, arith}
use Rattle.std.proofs.lemmas.List.{get_or_read}
use Rattle.model_sender.specs.declared.spot.Spot.{Spot}
use Rattle.rate_match.specs.Runs.{bit_down}
use Rattle.soft_buffers.specs.Buffers.{IsBit}
use Rattle.soft_buffers.specs.Runs.{with_value, with_values}
use Rattle.soft_buffers.proofs.Adding.{changed}
use Rattle.soft_buffers.proofs.values.add_run.Goals as goal

bit-here : (c : goal.After-spot) → IsBit c.args.k c.spot.result
bit-here c = subst (IsBit c.args.k) (sym c.spot.ensures) (c.requires.bits c.loop-i.i (omega (arith, c.loop-i-test.true, c.requires.long)))

pub cell_index-n-requires-clause-stream : goal.cell_index-n-requires-clause-stream
cell_index-n-requires-clause-stream c = (bit-here c).stream

pub cell_index-n-requires-clause-index : goal.cell_index-n-requires-clause-index
cell_index-n-requires-clause-index c = (bit-here c).index

pub loop-i-preserved : goal.loop-i-preserved
loop-i-preserved c =
    let k : ℕ = c.args.k in
    let values = c.args.values.now in
    let i : ℕ = c.loop-i.i in
    let has = c.loop-i.cells in
    let bits : ℕ → Spot = bit_down c.args.run.first in
    let value : ℤ = get_or values i (pos 0) in
    let below : i < length values = c.loop-i-test.true in
    let within : c.cell_index-n.result < length has = omega (arith, c.cell_index-n.ensures.within, c.requires.cells, c.loop-i.auto.cells) in
    changed k c.spot.result has c.cell_index-n.result c.index-cells-n.result c.index-values-i.result value c.added.result within c.cell_index-n.ensures.value c.index-cells-n.is
    (get_or_read values i c.index-values-i.result below c.index-values-i.is (pos 0)) c.added.ensures
    ∙ ap (λ (b : Spot). with_value k b value has) c.spot.ensures
    ∙ ap (with_value k (bits i) value) c.loop-i.invariant
    ∙ ap (λ (m : ℕ). with_values k bits values m c.args.cells.now) (let e : suc i ≡ i + 1 = omega arith in e)
