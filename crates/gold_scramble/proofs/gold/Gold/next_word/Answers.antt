use Rattle.std.proofs.Common.{◌+◌, ◌*◌, ◌^◌, ℕ, ap, sym, ◌∙◌}
use Rattle.lte_bits.specs.Bits.{number}
use Rattle.gold_scramble.specs.Places.{places}
use Rattle.gold_scramble.specs.Registers.{coming, moved}
use Rattle.gold_scramble.proofs.Moving.{coming-append, moved-moved}
use Rattle.gold_scramble.proofs.Numbers.{halves_joined, number-append}
use Rattle.gold_scramble.proofs.PlaceLists.{length-places}
use Rattle.gold_scramble.proofs.gold.Gold.next_word.Goals as goal

pub returns-clause-bits : goal.returns-clause-bits
returns-clause-bits c =
    let g = c.args.self.now in
    let h = c.next_bits-high.ensures in
    let l = c.next_bits-low.ensures in
    let front = places (coming g) 0 16 in
    let back = places (coming (moved g 16)) 0 16 in
    halves_joined c.next_bits-high.result c.next_bits-low.result h.small l.small
    ∙ (ap (λ (n : ℕ). n * 2 ^ 16 + c.next_bits-low.result) h.bits
    ∙ (ap (λ (n : ℕ). number front * 2 ^ 16 + n) (l.bits ∙ ap (λ r. number (places (coming r) 0 16)) h.moved)
    ∙ (ap (λ (n : ℕ). number front * 2 ^ n + number back) (sym (length-places (coming (moved g 16)) 0 16))
    ∙ (sym (number-append front back)
    ∙ ap number (sym (coming-append g 16 16 h.whole))))))

pub returns-clause-moved : goal.returns-clause-moved
returns-clause-moved c =
    c.next_bits-low.ensures.moved
    ∙ (ap (λ g. moved g 16) c.next_bits-high.ensures.moved
    ∙ moved-moved c.args.self.now 16 16 c.next_bits-high.ensures.whole)
