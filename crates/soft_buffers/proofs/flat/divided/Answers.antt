use Rattle.std.proofs.Common.{◌≡◌, ℕ, ℤ, List, ap, length, map, sym, ◌∙◌, arith}
use Rattle.std.specs.List.{range_with_len}
use Rattle.std.proofs.lemmas.List.{length-drop}
use Rattle.lte_bits.proofs.Pushes.{pushed_next}
use Rattle.model_sender.specs.Segmentation.{Plan}
use Rattle.soft_buffers.specs.Flat.{cells_in}
use Rattle.soft_buffers.specs.Parts.{before, part}
use Rattle.soft_buffers.proofs.PartLaws.{before-within, front-is, left-more}
use Rattle.soft_buffers.proofs.flat.divided.Goals as goal

pub split_at-requires : goal.split_at-requires
split_at-requires c =
    let p : Plan = c.args.plan.now in
    let count = ap (λ (q : Plan). q.c) c.plan.view_is in
    let within = before-within (cells_in p) c.loop-r.r p.c (omega (arith, c.loop-r-test.true, count)) in
    omega (arith, within, c.cells_in.ensures.value, c.requires, ap length c.loop-r.invariant.left, length-drop (before (cells_in p) c.loop-r.r) c.args.cells.now)

pub loop-r-preserved : goal.loop-r-preserved
loop-r-preserved c =
    let p : Plan = c.args.plan.now in
    let r : ℕ = c.loop-r.r in
    let all : List ℤ = c.args.cells.now in
    let rest : List ℤ = c.loop-r.rest.now in
    let own : c.cells_in.result ≡ cells_in p r = c.cells_in.ensures.value in
    record {
      left = left-more (cells_in p) r c.cells_in.result all rest c.split_at.result.1.now c.loop-r.invariant.left own c.split_at.ensures.back;
      made = pushed_next (part (cells_in p) all) c.loop-r.blocks.items c.push.new.self.items r c.from_vec.result c.loop-r.invariant.made c.in_ok-push.ensures.items
          (c.from_vec.ensures ∙ c.in_ok-from_slice.ensures.items
          ∙ front-is (cells_in p) r c.cells_in.result all rest c.split_at.result.0.now c.loop-r.invariant.left own c.split_at.ensures.front);
    }

pub returns : goal.returns
returns c =
    let p : Plan = c.args.plan.now in
    let all : c.loop-r.r ≡ p.c = omega (arith, c.loop-r-test.false, c.loop-r.auto.r-end, ap (λ (q : Plan). q.c) c.plan.view_is) in
    c.loop-r.invariant.made ∙ ap (λ (n : ℕ). map (part (cells_in p) c.args.cells.now) (range_with_len 0 n)) all
