use Rattle.std.proofs.Common.{◌≡◌, ℕ, ◌+◌, ◌<◌, length, get_or}
use Rattle.rand_chacha.specs.ChaCha.{word_at}
use Rattle.soft_channel.proofs.words.next_words.Given as goal

abbrev pub invariant-loop-word : goal.invariant-loop-word
invariant-loop-word l =
    (length l.word-items ≡ 64)
    × (l.generator ≡ record l.fn.generator { word_pos = l.fn.generator.word_pos + l.word-index })
    × ((k : ℕ) → k < l.word-index → get_or l.word-items k 0 ≡ word_at 4 l.fn.generator.key l.fn.generator.stream (l.fn.generator.word_pos + k))
