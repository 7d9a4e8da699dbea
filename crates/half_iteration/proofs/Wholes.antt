-- The windows of a lawful shape cover its positions.
use Rattle.std.proofs.Common.{◌≡◌, ℕ, ◌*◌, ◌/◌, ◌≤◌, arith, inl, inr}
use Rattle.std.proofs.Math.Nat.{mul-le-mul_left}
use Rattle.std.proofs.lemmas.Bool.{cases_lt}
use Rattle.model_sender.specs.InterleaverLaws.{windows-whole}
use Rattle.model_receiver.specs.HalfIteration.{Shape, IsShape}
use Rattle.half_iteration.specs.Views.{AreWhole}

eight-wide : (k m w : ℕ) → m * w ≡ k → 1 ≤ m → 8 * m ≤ k → 8 ≤ w
eight-wide k m w e some wide =
    elim (cases_lt w 8) [
      | inl lt ↦ absurd (let le : m * w ≤ m * 7 = mul-le-mul_left m (let h : w ≤ 7 = omega (arith, lt) in h) in omega (arith, le, e, some, wide))
      | inr le ↦ le
    ]

pub are-whole : (shape : Shape) → IsShape shape → AreWhole shape
are-whole shape lawful =
    let whole : shape.windows * (shape.k / shape.windows) ≡ shape.k = windows-whole shape.k shape.windows lawful.divided in
    record {
      size = lawful.size;
      whole = whole;
      wide = eight-wide shape.k shape.windows (shape.k / shape.windows) whole lawful.some_windows lawful.wide;
    }
