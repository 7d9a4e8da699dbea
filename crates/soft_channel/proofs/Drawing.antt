-- A generator, word after word.
use Rattle.std.proofs.Common.{◌≡◌, ℕ, ◌+◌, List, map, refl, ap, ◌∙◌}
use Rattle.std.specs.List.{range_with_len}
use Rattle.rand_chacha.specs.ChaCha.{ChaCha, key_of, of_seed, word_at}
use Rattle.soft_channel.specs.Words.{Draw, key, word}

-- the generator that has given i words
unfoldable pub drawn : Draw → ℕ → ChaCha
drawn d i = record { key = key_of (key d); stream = 0; word_pos = i }

pub none_drawn : (d : Draw) → of_seed (key d) ≡ drawn d 0
unfolding drawn
none_drawn d = refl

-- the next words
pub words_drawn : (d : Draw) (i n : ℕ) (g : ChaCha) (words : List ℕ) → g ≡ drawn d i → words ≡ map (λ k. word_at 4 g.key g.stream (g.word_pos + k)) (range_with_len 0 n)
    → words ≡ map (λ k. word d (i + k)) (range_with_len 0 n)
unfolding drawn word
words_drawn d i n g words before are =
    are ∙ ap (λ (s : ChaCha). map (λ k. word_at 4 s.key s.stream (s.word_pos + k)) (range_with_len 0 n)) before

-- and the generator after them
pub more_drawn : (d : Draw) (i n j : ℕ) (g h : ChaCha) → g ≡ drawn d i → h ≡ record g { word_pos = g.word_pos + n } → i + n ≡ j → h ≡ drawn d j
unfolding drawn
more_drawn d i n j g h before after sum =
    after ∙ ap (λ (s : ChaCha). record s { word_pos = s.word_pos + n }) before
    ∙ ap (λ m. let r : ChaCha = record { key = key_of (key d); stream = 0; word_pos = m } in r) sum

pub place_drawn : (d : Draw) (i : ℕ) (g : ChaCha) → g ≡ drawn d i → g.word_pos ≡ i
unfolding drawn
place_drawn d i g before = ap (λ (s : ChaCha). s.word_pos) before
