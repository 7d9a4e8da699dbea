-- The text of accepted blocks is read as these blocks.
use Rattle.std.proofs.Common.{◌≡◌, ℕ, ◌-◌, ◌^◌, ◌<◌, ◌≤◌, List, [], ◌∷◌, ◌++◌, length, flat_map, refl, ap, sym, ◌∙◌, append_assoc, arith}
use Rattle.std.proofs.lemmas.List.{append-nil}
use Rattle.std.proofs.lemmas.Nat.{from_be_bytes-to_be_bytes_4}
use Rattle.coded_stream.specs.Header.{Header, word, word_text}
use Rattle.coded_stream.specs.Blocks.{Block, lengths, AreTransmissions, IsBlock, block_text}
use Rattle.coded_stream.specs.Text.{end_word, body_text}
use Rattle.coded_stream.specs.Stream.{AreBlocks}
use Rattle.coded_stream.specs.Body.{block, ended, transmissions_step, step, word_step, whole, onto, next_start, body}
use Rattle.coded_stream.specs.declared.kind.Kind.{Kind}
use Rattle.coded_stream.proofs.WordSteps.{step-word, word-end, word-block}
use Rattle.coded_stream.proofs.Sent.{step-accepted}
use Rattle.coded_stream.proofs.Remaining.{body-block, body-ended}

pub word-of_text : (n : ℕ) → n < 2 ^ 32 → word (word_text n) 0 ≡ n
unfolding word word_text
word-of_text n small = from_be_bytes-to_be_bytes_4 n small

pub text-four : (n : ℕ) → length (word_text n) ≡ 4
unfolding word_text
text-four n = refl

transmissions-read : (kind : Kind) (start : ℕ) (b : Block) (gs bytes left : List ℕ) → AreTransmissions kind gs bytes
    → transmissions_step kind start b gs (bytes ++ left) ≡ block (record b { bytes = b.bytes ++ bytes }) left
transmissions-read kind start b [] bytes left none =
    ap (λ (xs : List ℕ). block b (xs ++ left)) none
    ∙ ap (λ (xs : List ℕ). block (record b { bytes = xs }) left) (sym (append-nil b.bytes) ∙ ap (λ (xs : List ℕ). b.bytes ++ xs) (sym none))
transmissions-read kind start b (g ∷ gs) bytes left (first, more, split, one, others) =
    ap (transmissions_step kind start b (g ∷ gs)) (ap (λ (xs : List ℕ). xs ++ left) split ∙ append_assoc first more left)
    ∙ step-accepted kind start b g gs first (more ++ left) one.size one.good
    ∙ transmissions-read kind start (record b { bytes = b.bytes ++ first }) gs more left others
    ∙ ap (λ (xs : List ℕ). block (record b { bytes = xs }) left) (append_assoc b.bytes first more ∙ ap (λ (xs : List ℕ). b.bytes ++ xs) (sym split))

pub step-read : (h : Header) (more start : ℕ) (b : Block) (left : List ℕ) → h.tb ≤ 18722 → 0 < more → IsBlock h b → step h more start (block_text b ++ left) ≡ block b left
step-read h more start b left few room is =
    let value : word (word_text b.payload) 0 ≡ b.payload = word-of_text b.payload (omega (arith, is.few, few)) in
    ap (step h more start) (append_assoc (word_text b.payload) b.bytes left)
    ∙ step-word h more start (word_text b.payload) (b.bytes ++ left) (text-four b.payload)
    ∙ ap (λ (n : ℕ). word_step h more start n (b.bytes ++ left)) value
    ∙ word-block h more start b.payload (b.bytes ++ left) (λ none. omega (arith, none, is.some)) (λ none. omega (arith, none, room)) is.few
    ∙ transmissions-read h.kind start (record { payload = b.payload; bytes = [] }) (lengths h) b.bytes left is.sent

end-read : (h : Header) (more start : ℕ) → step h more start end_word ≡ ended
end-read h more start =
    ap (step h more start) (sym (append-nil end_word))
    ∙ step-word h more start (word_text 0) [] (text-four 0)
    ∙ word-end h more start (word (word_text 0) 0) [] (word-of_text 0 (omega arith))

pub body-read : (h : Header) (more start : ℕ) (blocks : List Block) → h.tb ≤ 18722 → length blocks ≤ more → AreBlocks h blocks →
    body h more start (body_text blocks) ≡ record { blocks = blocks; ending = whole }
body-read h more start [] few room are = body-ended h more start end_word (end-read h more start)
body-read h more start (b ∷ blocks) few room (is, are) =
    ap (body h more start) (append_assoc (block_text b) (flat_map block_text blocks) end_word)
    ∙ body-block h more start (block_text b ++ body_text blocks) b (body_text blocks) (omega (arith, room)) (step-read h more start b (body_text blocks) few (omega (arith, room)) is)
    ∙ ap (onto b) (body-read h (more - 1) (next_start start b) blocks few (omega (arith, room)) are)
