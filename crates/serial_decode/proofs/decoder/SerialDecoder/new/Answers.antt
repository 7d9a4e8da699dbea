use Rattle.std.proofs.Common.{◌≡◌, ℕ, zero, suc, ◌+◌, ◌*◌, ◌≤◌, arith}
use Rattle.model_sender.proofs.RowLaws.{range-of_size}
use Rattle.serial_decode.proofs.decoder.SerialDecoder.new.Goals as goal

narrow : (m w k : ℕ) → m * w ≡ k → 40 ≤ k → k ≤ 6144 → w ≤ 6144
narrow zero w k e least most = absurd (let z : 0 * w ≡ 0 = omega arith in omega (arith, z, e, least))
narrow (suc m) w k e least most = let s : suc m * w ≡ m * w + w = omega arith in omega (arith, s, e, most)

pub new-requires-2-clause-most : goal.new-requires-2-clause-most
new-requires-2-clause-most c =
    let shape = c.in_ok-views.views.shape in let whole = c.width.ensures.whole in
    let range = range-of_size shape.k whole.size in
    omega (arith, c.width.ensures.value, narrow shape.windows _ shape.k whole.whole range.0 range.1)
