-- What the halves read, by whether they are even.
use Rattle.std.proofs.Common.{◌≡◌, ℕ, ◌%◌, Bool, cond, take, ap, arith, sym}
use Rattle.std.specs.Prelude.{pos}
use Rattle.lte_bits.specs.declared.block.SoftStreams.{SoftStreams}
use Rattle.model_sender.specs.Interleaver.{place}
use Rattle.model_receiver.specs.Borders.{at}
use Rattle.model_receiver.specs.HalfIteration.{Shape, systematic_at, parity_at}
use Rattle.half_iteration.specs.Views.{AreStreams, by_position}
use Rattle.half_iteration.proofs.Orders.{equal, not-equal}
use Rattle.half_iteration.proofs.Parts.{front-by_position}

pub systematic-even : (soft : SoftStreams) (shape : Shape) (h : ℕ) → h % 2 ≡ 0 → AreStreams soft shape
    → take shape.k soft.d0 ≡ by_position shape (systematic_at soft shape.k h)
systematic-even soft shape h e whole =
    front-by_position (systematic_at soft shape.k h) soft.d0 shape.k (pos 0) (omega (arith, whole.d0))
    (λ i lt. ap (λ (b : Bool). at soft.d0 (cond b i (place shape.k i))) (sym (equal (h % 2) 0 e)))

pub parity-even : (soft : SoftStreams) (shape : Shape) (h : ℕ) → h % 2 ≡ 0 → AreStreams soft shape
    → take shape.k soft.d1 ≡ by_position shape (parity_at soft h)
parity-even soft shape h e whole =
    front-by_position (parity_at soft h) soft.d1 shape.k (pos 0) (omega (arith, whole.d1))
    (λ i lt. ap (λ (b : Bool). cond b (at soft.d1 i) (at soft.d2 i)) (sym (equal (h % 2) 0 e)))

pub parity-odd : (soft : SoftStreams) (shape : Shape) (h : ℕ) → (h % 2 ≡ 0 → ⊥) → AreStreams soft shape
    → take shape.k soft.d2 ≡ by_position shape (parity_at soft h)
parity-odd soft shape h ne whole =
    front-by_position (parity_at soft h) soft.d2 shape.k (pos 0) (omega (arith, whole.d2))
    (λ i lt. ap (λ (b : Bool). cond b (at soft.d1 i) (at soft.d2 i)) (sym (not-equal (h % 2) 0 ne)))
