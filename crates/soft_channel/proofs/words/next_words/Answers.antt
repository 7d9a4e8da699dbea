use Rattle.std.proofs.Common.{◌≡◌, ◌≢◌, ℕ, ◌+◌, ◌%◌, ◌<◌, ◌^◌, List, length, set, get_or, get_or-set_other, get_or-set_same, below_more, ap, ◌∙◌, arith}
use Rattle.std.proofs.lemmas.List.{length-set}
use Rattle.std.proofs.lemmas.List.FromFn.{fill_by_all}
use Rattle.rand_chacha.specs.ChaCha.{ChaCha, next_word, word_at}
use Rattle.soft_channel.proofs.words.next_words.Goals as goal

word_more : (g h first : ChaCha) (words : List ℕ) (word i : ℕ) → g ≡ record first { word_pos = first.word_pos + i } → (word, h) ≡ next_word 4 g
    → ((k : ℕ) → k < i → get_or words k 0 ≡ word_at 4 first.key first.stream (first.word_pos + k)) → i < length words
    → (k : ℕ) → k < i + 1 → get_or (set words i word) k 0 ≡ word_at 4 first.key first.stream (first.word_pos + k)
word_more g h first words word i at step before inside =
    below_more _ _
    (λ k b. let ne : k ≢ i = omega (arith, b) in rw get_or-set_other (before k b))
    (rw get_or-set_same (ap (λ (p : ℕ × ChaCha). p.0) step ∙ ap (λ (s : ChaCha). word_at 4 s.key s.stream s.word_pos) at))

place_more : (g h first : ChaCha) (word i : ℕ) → g ≡ record first { word_pos = first.word_pos + i } → (word, h) ≡ next_word 4 g → first.word_pos + i + 1 < 2 ^ 68
    → h ≡ record first { word_pos = first.word_pos + (i + 1) }
place_more g h first word i at step small =
    ap (λ (p : ℕ × ChaCha). p.1) step ∙ ap (λ (s : ChaCha). record s { word_pos = (s.word_pos + 1) % 2 ^ 68 }) at
    ∙ ap (λ m. record first { word_pos = m }) (let e : (first.word_pos + i + 1) % 2 ^ 68 ≡ first.word_pos + (i + 1) = omega (arith, small) in e)

pub loop-word-preserved : goal.loop-word-preserved
loop-word-preserved c =
    let first = c.args.generator.now in
    let loop = c.loop-word in (
      length-set loop.word-items loop.word-index c.next_word.result ∙ loop.invariant.0,
      place_more loop.generator c.next_word.new.self first c.next_word.result loop.word-index loop.invariant.1 c.next_word.ensures (omega (arith, c.requires, c.loop-word-test.true)),
      word_more loop.generator c.next_word.new.self first loop.word-items c.next_word.result loop.word-index loop.invariant.1 c.next_word.ensures loop.invariant.2
          (omega (arith, loop.invariant.0, c.loop-word-test.true)),
    )

pub returns-clause-words : goal.returns-clause-words
returns-clause-words c =
    let first = c.args.generator.now in
    fill_by_all (λ k. word_at 4 first.key first.stream (first.word_pos + k)) c.loop-word.word-items 64 0 c.loop-word.invariant.0
    (λ k h. c.loop-word.invariant.2 k (omega (arith, h, c.loop-word-test.false)))

pub returns-clause-after : goal.returns-clause-after
returns-clause-after c =
    let first = c.args.generator.now in
    c.loop-word.invariant.1
    ∙ ap (λ i. record first { word_pos = first.word_pos + i }) (let e : c.loop-word.word-index ≡ 64 = omega (arith, c.loop-word-test.false, c.loop-word.auto.word-index-end) in e)
