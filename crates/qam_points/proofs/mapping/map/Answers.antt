use Rattle.std.proofs.Common.{◌≡◌, ◌*◌, ◌/◌, ℕ, length, take, map, ap, ◌∙◌, arith}
use Rattle.std.specs.List.{range_with_len}
use Rattle.std.proofs.lemmas.List.{take_rest}
use Rattle.lte_bits.proofs.Pushes.{pushed_next}
use Rattle.qam_points.specs.Constellation.{mapped, point, symbol}
use Rattle.qam_points.proofs.mapping.map.Goals as goal

pub loop-s-preserved : goal.loop-s-preserved
loop-s-preserved c =
    let bits = c.args.bits.now in
    pushed_next (λ s. point (symbol c.args.qm bits s)) c.loop-s.points.items c.push.new.self.items c.loop-s.s c.point.result c.loop-s.invariant c.in_ok-push.ensures.items
    (c.point.ensures
    ∙ (ap (λ rest. point (take c.from-width.result rest)) (take_rest bits (c.from-width.result * c.loop-s.s))
    ∙ ap (λ (n : ℕ). point (symbol n bits c.loop-s.s)) c.from-width.ensures))

pub returns : goal.returns
unfolding mapped
returns c =
    let bits = c.args.bits.now in
    let all : c.loop-s.s ≡ length bits / c.from-width.result = omega arith in
    c.from_vec.ensures
    ∙ (c.loop-s.invariant
    ∙ ap (λ (n : ℕ). map (λ s. point (symbol c.args.qm bits s)) (range_with_len 0 n)) (all ∙ ap (λ (n : ℕ). length bits / n) c.from-width.ensures))
