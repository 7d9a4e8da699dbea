use Rattle.std.proofs.Common.{◌≡◌, ◌/◌, ◌<◌, List, [], take, drop, length, get_or, ap, sym, ◌∙◌, arith}
use Rattle.std.proofs.lemmas.List.{length-drop, length-take-le, take-append-drop, take_all}
use Rattle.lte_bits.specs.Bits.{number}
use Rattle.lte_bits.specs.declared.bit.Bit.{Bit}
use Rattle.lte_bits.proofs.Chunks.{chunk-at}
use Rattle.model_sender.specs.CheckBits.{remainder}
use Rattle.block_crc.proofs.generator.Generator.remainder_of_sixteen.Goals as goal

pub returns-clause-value : goal.returns-clause-value
returns-clause-value c =
    let bits = c.args.bits.now in
    let all : length bits ≡ 16 = omega arith in
    let first : List Bit = take 8 bits in
    let second : List Bit = drop 8 bits in
    let long : length first ≡ 8 = length-take-le 8 bits (omega (arith, all)) in
    let rest : length second ≡ 8 = length-drop 8 bits ∙ omega (arith, all) in
    let some : 0 < length bits / 8 = omega (arith, all) in
    let more : 1 < length bits / 8 = omega (arith, all) in
    let one : get_or c.as_chunks.result.0.now 0 [] ≡ first = ap (λ (cs : List (List Bit)). get_or cs 0 []) c.as_chunks.ensures.front ∙ chunk-at 8 (length bits / 8) 0 bits [] some in
    let two : get_or c.as_chunks.result.0.now 1 [] ≡ second = ap (λ (cs : List (List Bit)). get_or cs 1 []) c.as_chunks.ensures.front ∙ chunk-at 8 (length bits / 8) 1 bits [] more ∙ take_all 8 second (omega (arith, rest)) in
    let high : number first ≡ c.byte_of.result = sym (c.byte_of.ensures ∙ ap number one) in
    let low : number second ≡ c.byte_of-2.result = sym (c.byte_of-2.ensures ∙ ap number two) in
    c.remainder_of_two.ensures.value first second long high rest low
    ∙ ap (remainder c.args.self.now.coefficients c.args.start) (take-append-drop 8 bits)
