use Rattle.std.proofs.Common.{◌≡◌, ◌≤◌, ◌<◌, ◌+◌, ◌-◌, ◌*◌, ◌/◌, ◌%◌, ◌^◌, ◌∙◌, ℕ, List, [], ◌∷◌, ap, sym, arith, length, take, set}
use Rattle.std.proofs.lemmas.Nat.{shr-shr}
use Rattle.std.proofs.lemmas.List.{length-set, take_all, take_more_set}
use Rattle.lte_bits.specs.Bits.{digit, number}
use Rattle.lte_bits.specs.declared.bit.Bit.{Bit}
use Rattle.model_sender.proofs.BitNumbers.{number-append}
use Rattle.block_crc.proofs.generator.digits.Goals as goal

-- one more digit is written
one_digit : (bits : List Bit) (i n : ℕ) (b : Bit) → i < 24 → length bits ≡ 24 → digit b ≡ n / 2 ^ (23 - i) % 2 → number (take i bits) ≡ n / 2 ^ (24 - i)
    → number (take (i + 1) (set bits i b)) ≡ n / 2 ^ (24 - (i + 1))
one_digit bits i n b below width d e =
    let a : number (take (i + 1) (set bits i b)) ≡ number (take i bits) * 2 ^ 1 + number (b ∷ []) =
    ap number (take_more_set bits i b (omega (arith, width, below))) ∙ number-append (take i bits) (b ∷ []) in
    let one : number (b ∷ []) ≡ digit b = omega arith in
    let s : n / 2 ^ (23 - i) / 2 ^ 1 ≡ n / 2 ^ (24 - i) = shr-shr n (23 - i) 1 ∙ ap (λ k. n / 2 ^ k) (let k : 23 - i + 1 ≡ 24 - i = omega (arith, below) in k) in
    let t : n / 2 ^ (24 - (i + 1)) ≡ n / 2 ^ (23 - i) = ap (λ k. n / 2 ^ k) (let f : 24 - (i + 1) ≡ 23 - i = omega (arith, below) in f) in
    omega (arith, a, one, s, t, d, e)

pub loop-i-preserved : goal.loop-i-preserved
loop-i-preserved c = record {
  width = length-set c.loop-i.bits c.loop-i.i c.lowest.result ∙ c.loop-i.invariant.width;
  value = one_digit c.loop-i.bits c.loop-i.i c.args.n c.lowest.result c.loop-i-test.true c.loop-i.invariant.width c.lowest.ensures c.loop-i.invariant.value;
}

pub returns-clause-value : goal.returns-clause-value
returns-clause-value c =
    let all : 24 ≤ c.loop-i.i = c.loop-i-test.false in
    let e : c.args.n / 2 ^ (24 - c.loop-i.i) ≡ c.args.n / 2 ^ 0 = ap (λ k. c.args.n / 2 ^ k) (let z : 24 - c.loop-i.i ≡ 0 = omega (arith, all) in z) in
    sym (ap number (take_all c.loop-i.i c.loop-i.bits (omega (arith, c.loop-i.invariant.width)))) ∙ (c.loop-i.invariant.value ∙ (e ∙ omega arith))
