use Rattle.std.proofs.Common.{◌≡◌, ◌+◌, ◌*◌, ◌/◌, ℕ, ap, ◌∙◌, arith, w32}
use Rattle.std.specs.Int.{reverse_bits}
use Rattle.gold_scramble.specs.Places.{highest_first}
use Rattle.gold_scramble.specs.Registers.{moved}
use Rattle.gold_scramble.specs.declared.gold.TheConstants.{STEP}
use Rattle.gold_scramble.proofs.Moving.{first-moved, first_registers, moved-moved, whole_first}
use Rattle.gold_scramble.proofs.Starting.{one_and_zeros, reversed}
use Rattle.gold_scramble.proofs.Stepping.{same_registers}
use Rattle.gold_scramble.proofs.gold.Gold.new.Goals as goal

pub loop-init : goal.loop-init
loop-init c =
    same_registers _ _ _ _ one_and_zeros (ap (λ (z : ℕ). highest_first 31 (z / 2)) (c.reverse_bits.ensures ∙ ap (reverse_bits w32) c.value.ensures.value) ∙ reversed c.args.init)
    ∙ first-moved c.args.init

pub loop-preserved : goal.loop-preserved
loop-preserved c =
    c.next_bits-left_out.ensures.moved
    ∙ (ap (λ g. moved g STEP) c.loop.invariant
    ∙ (moved-moved (first_registers c.args.init) (c.loop.counter * STEP) STEP (whole_first c.args.init)
    ∙ ap (moved (first_registers c.args.init)) (let e : c.loop.counter * STEP + STEP ≡ (c.loop.counter + 1) * STEP = omega arith in e)))

pub returns : goal.returns
returns c = c.loop.invariant ∙ ap (moved (first_registers c.args.init)) (let e : c.loop.counter * STEP ≡ 1600 = omega arith in e)
