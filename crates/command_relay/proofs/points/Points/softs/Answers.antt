use Rattle.std.proofs.Common.{◌≡◌, ℕ, ◌*◌, ◌/◌, ℤ, List, ◌++◌, length, take, drop, IfOk, ap, sym, subst, ◌∙◌, arith}
use Rattle.std.specs.Prelude.{All}
use Rattle.std.proofs.Math.Seq.{take-append_seam}
use Rattle.lte_bits.specs.Softs.{IsWithin}
use Rattle.soft_channel.proofs.Lengths.{length_noise_terms}
use Rattle.soft_channel.specs.Channel.{NoiseChannel, transmission_over}
use Rattle.soft_channel.specs.Noise.{noise_terms}
use Rattle.qam_points.specs.Constellation.{IsSmall, mapped}
use Rattle.qam_points.specs.Demapping.{IsNearby, demapped}
use Rattle.qam_points.specs.Reception.{received, received_points}
use Rattle.qam_points.specs.declared.point.Point.{Point}
use Rattle.qam_points.proofs.Receiving.{mapped-small, received_points-nearby}
use Rattle.command_relay.proofs.Modulation.{few_terms, terms_needed}
use Rattle.command_relay.proofs.points.Points.softs.Goals as goal

pub terms-requires-clause-count : goal.terms-requires-clause-count
terms-requires-clause-count c =
    let m = c.args.m.now in
    let sent : c.as_slice.result.now ≡ mapped m.qm c.args.bits.now = c.as_slice.ensures ∙ (c.in_ok-points.ensures ∙ ap (λ (q : ℕ). mapped q c.args.bits.now) c.qm.ensures.value) in
    omega (arith, few_terms m c.qm.ensures.lawful, terms_needed m c.args.bits.now c.as_slice.result.now c.requires sent)

pub receive-requires-clause-small : goal.receive-requires-clause-small
receive-requires-clause-small c =
    subst (All IsSmall) (sym (c.as_mut_slice.ensures.value ∙ c.in_ok-points.ensures)) (mapped-small c.qm.result c.args.bits.now)

pub receive-requires-clause-two : goal.receive-requires-clause-two
receive-requires-clause-two c =
    let channel = c.args.self.now.channel in
    ap length (c.as_slice-2.ensures ∙ c.in_ok-terms.ensures.value)
    ∙ (length_noise_terms channel.noise (transmission_over channel c.args.place.block c.args.place.number) (2 * length c.as_slice.result.now)
    ∙ ap (λ (xs : List Point). 2 * length xs) (c.as_slice.ensures ∙ sym c.as_mut_slice.ensures.value))

-- as many values were written as there are
written : (had new : List Point) → length had ≡ length new → take (length had) (new ++ drop (length new) had) ≡ new
written had new same = ap (λ (n : ℕ). take n (new ++ drop (length new) had)) same ∙ take-append_seam new (drop (length new) had)

pub demap-requires-clause-near : goal.demap-requires-clause-near
demap-requires-clause-near c =
    let amp = c.channel.inside.amp in
    let same : length c.in_ok-points.points ≡ length c.receive.new.points = omega (arith, ap length c.as_mut_slice.ensures.value, c.receive.auto.points) in
    let is : c.as_slice-3.result.now ≡ received_points amp c.as_slice-2.result.now c.as_mut_slice.result.now =
    c.as_slice-3.ensures ∙ (written c.in_ok-points.points c.receive.new.points same ∙ c.receive.ensures) in
    let small = subst (All IsSmall) (sym (c.as_mut_slice.ensures.value ∙ c.in_ok-points.ensures)) (mapped-small c.qm.result c.args.bits.now) in
    let near = subst (All (IsWithin 437)) (sym c.as_slice-2.ensures) c.in_ok-terms.ensures.range in
    subst (All IsNearby) (sym is) (received_points-nearby amp c.as_slice-2.result.now c.as_mut_slice.result.now c.channel.invariant.few_amp near small)

pub returns : goal.returns
unfolding received
returns c =
    let m = c.args.m.now in
    let channel = c.args.self.now.channel in
    let amp = c.channel.inside.amp in
    let bits = c.args.bits.now in
    let noise : ℕ → List ℤ = λ count. noise_terms channel.noise (transmission_over channel c.args.place.block c.args.place.number) count in
    let sent : c.in_ok-points.points ≡ mapped m.qm bits = c.in_ok-points.ensures ∙ ap (λ (q : ℕ). mapped q bits) c.qm.ensures.value in
    let count = ap (λ (xs : List Point). 2 * length xs) c.as_slice.ensures ∙ terms_needed m bits c.in_ok-points.points c.requires sent in
    let terms : c.as_slice-2.result.now ≡ noise (2 * (m.g / m.qm)) = c.as_slice-2.ensures ∙ (c.in_ok-terms.ensures.value ∙ ap noise count) in
    let same : length c.in_ok-points.points ≡ length c.receive.new.points = omega (arith, ap length c.as_mut_slice.ensures.value, c.receive.auto.points) in
    let is : c.as_slice-3.result.now ≡ received_points amp (noise (2 * (m.g / m.qm))) (mapped m.qm bits) =
    c.as_slice-3.ensures
    ∙ (written c.in_ok-points.points c.receive.new.points same
    ∙ (c.receive.ensures
    ∙ (ap (λ (xs : List ℤ). received_points amp xs c.as_mut_slice.result.now) terms
    ∙ ap (received_points amp (noise (2 * (m.g / m.qm)))) (c.as_mut_slice.ensures.value ∙ sent)))) in
    let P : List ℤ → Type 0 = λ xs. IfOk c.demap.result (λ softs. softs ≡ xs) in
    subst P
    (ap (λ (q : ℕ). demapped q amp c.as_slice-3.result.now) c.qm-2.ensures.value ∙ ap (demapped m.qm amp) is
    ∙ ap (λ (d : NoiseChannel). demapped m.qm d.amp (received_points d.amp (noise (2 * (m.g / m.qm))) (mapped m.qm bits))) c.channel.view_is)
    c.demap.ensures
