use Rattle.std.proofs.Common.{◌≡◌, ℕ, ◌/◌, ◌%◌, length, ap, ◌∙◌, arith}
use Rattle.qam_points.proofs.Receiving.{length-mapped}
use Rattle.gomzelat_c.proofs.SignalLengths.{length-first}
use Rattle.gomzelat_c.proofs.mapping.write_mapped.Goals as goal

pub map-requires-clause-whole : goal.map-requires-clause-whole
map-requires-clause-whole c =
    let long : length c.as_slice.result.now ≡ c.args.count = ap length (c.as_slice.ensures ∙ c.in_ok-bits.ensures) ∙ length-first c.args.count c.args.bits.now c.in_ok-accepted.ensures.bits in
    ap (λ (n : ℕ). n % c.args.qm) long ∙ c.in_ok-accepted.ensures.whole

pub write_points-requires : goal.write_points-requires
write_points-requires c =
    let long : length c.as_slice.result.now ≡ c.args.count = ap length (c.as_slice.ensures ∙ c.in_ok-bits.ensures) ∙ length-first c.args.count c.args.bits.now c.in_ok-accepted.ensures.bits in
    let points : length c.as_slice-2.result.now ≡ c.args.count / c.args.qm =
    ap length (c.as_slice-2.ensures ∙ c.in_ok-mapped.ensures) ∙ length-mapped c.args.qm c.as_slice.result.now ∙ ap (λ (n : ℕ). n / c.args.qm) long in
    omega (arith, points, c.in_ok-accepted.ensures.room)
