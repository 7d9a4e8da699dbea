use Rattle.std.proofs.Common.{◌≡◌, ℕ, List, ap, length, map, refl, subst, sym, ◌∙◌, arith}
use Rattle.std.specs.List.{range_with_len}
use Rattle.std.proofs.lemmas.List.{length-drop}
use Rattle.lte_bits.proofs.Pushes.{pushed_next}
use Rattle.lte_bits.specs.Bits.{bit_of}
use Rattle.model_sender.specs.Segmentation.{Plan, size}
use Rattle.model_receiver.specs.declared.result.CodeResult.{CodeResult}
use Rattle.segmentation.specs.Shape.{AreBlocksOf}
use Rattle.soft_buffers.specs.Parts.{before}
use Rattle.soft_buffers.proofs.PartLaws.{before-within, front-is, left-more}
use Rattle.gomzelat_c.specs.State.{kept, kept_result}
use Rattle.gomzelat_c.proofs.KeptBlocks.{kept-shaped, result-is}
use Rattle.gomzelat_c.proofs.state.kept.Goals as goal

pub split_at-requires : goal.split_at-requires
split_at-requires c =
    let p : Plan = c.args.plan.now in
    let count = ap (λ (q : Plan). q.c) c.plan.view_is in
    let within = before-within (size p) c.loop-r.r p.c (omega (arith, c.loop-r-test.true, count)) in
    omega (arith, within, c.size.ensures.value, c.requires.bits, ap length c.loop-r.invariant.left, length-drop (before (size p) c.loop-r.r) c.args.bits.now)

pub loop-r-preserved : goal.loop-r-preserved
loop-r-preserved c =
    let p : Plan = c.args.plan.now in
    let r : ℕ = c.loop-r.r in
    let all : List ℕ = c.args.bits.now in
    let rest : List ℕ = c.loop-r.rest.now in
    let own : c.size.result ≡ size p r = c.size.ensures.value in
    let bits = c.in_ok-bits_of.ensures ∙ ap (map bit_of) (front-is (size p) r c.size.result all rest c.split_at.result.0.now c.loop-r.invariant.left own c.split_at.ensures.front) in
    record {
      left = left-more (size p) r c.size.result all rest c.split_at.result.1.now c.loop-r.invariant.left own c.split_at.ensures.back;
      made = pushed_next (kept_result p c.args.blocks.now all) c.loop-r.results.items c.push.new.self.items r _ c.loop-r.invariant.made c.in_ok-push.ensures.items
          (result-is c.fill.ensures bits refl refl);
    }

pub returns-clause-results : goal.returns-clause-results
unfolding kept
returns-clause-results c =
    let p : Plan = c.args.plan.now in
    let all : c.loop-r.r ≡ p.c = omega (arith, c.loop-r-test.false, c.loop-r.auto.r-end, ap (λ (q : Plan). q.c) c.plan.view_is) in
    c.loop-r.invariant.made ∙ ap (λ (n : ℕ). map (kept_result p c.args.blocks.now c.args.bits.now) (range_with_len 0 n)) all

pub returns-clause-shaped : goal.returns-clause-shaped
returns-clause-shaped c =
    let p : Plan = c.args.plan.now in
    subst (λ (xs : List CodeResult). AreBlocksOf p (map (λ x. x.block) xs)) (sym (returns-clause-results c)) (kept-shaped p c.args.blocks.now c.args.bits.now c.requires.bits)
