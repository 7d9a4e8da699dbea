-- What is read as blocks up to the end word is their text.
use Rattle.std.proofs.Common.{◌≡◌, ℕ, zero, suc, ◌+◌, ◌-◌, ◌<◌, ◌≤◌, ◌==◌, Bool, true, false, cond, nat_lt, List, [], ◌∷◌, ◌++◌, length, take, drop, get_or, flat_map, refl, ap, sym, subst, ◌∙◌, append_assoc, arith}
use Rattle.std.proofs.lemmas.List.{append-nil, take-append-drop, length-take-le}
use Rattle.std.proofs.lemmas.Bool.{ltb-false, eqb-true, eqb-false}
use Rattle.std.proofs.lemmas.Nat.{be_bytes_4}
use Rattle.coded_stream.specs.Header.{Header, word, word_text}
use Rattle.coded_stream.specs.Blocks.{Block, lengths, transmission_size, has_bad_bit, AreTransmissions, IsBlock, block_text}
use Rattle.coded_stream.specs.Units.{truncated, refused_at}
use Rattle.coded_stream.specs.Text.{end_word, body_text}
use Rattle.coded_stream.specs.Stream.{AreBlocks, AreBytes}
use Rattle.coded_stream.specs.Body.{Step, block, ended, refused, transmissions_step, step, word_step, end_step, Body, whole, no_more, next_start, after_step, body}
use Rattle.coded_stream.specs.declared.kind.Kind.{Kind}

-- ---- bytes

pub bytes-suffix : (xs ys : List ℕ) → AreBytes (xs ++ ys) → AreBytes ys
bytes-suffix [] ys are = are
bytes-suffix (x ∷ xs) ys (small, are) = bytes-suffix xs ys are

-- the first four are the text of their number
pub spelled-word : (left : List ℕ) → 4 ≤ length left → AreBytes left → word_text (word left 0) ≡ take 4 left
unfolding word word_text
spelled-word [] long are = absurd (omega (arith, long))
spelled-word (a ∷ []) long are = absurd (omega (arith, long))
spelled-word (a ∷ b ∷ []) long are = absurd (omega (arith, long))
spelled-word (a ∷ b ∷ c ∷ []) long are = absurd (omega (arith, long))
spelled-word (a ∷ b ∷ c ∷ d ∷ left) long (pa, (pb, (pc, (pd, are)))) = be_bytes_4 (a ∷ b ∷ c ∷ d ∷ []) _ refl small refl
  where
    small : (i : ℕ) → get_or (a ∷ b ∷ c ∷ d ∷ []) i 0 < 256
    small zero = pa
    small (suc zero) = pb
    small (suc (suc zero)) = pc
    small (suc (suc (suc zero))) = pd
    small (suc (suc (suc (suc i)))) = omega arith

-- ---- transmissions

record IsSplit (kind : Kind) (b : Block) (gs left : List ℕ) (c : Block) (rest : List ℕ) : Type 0 where
  bytes : List ℕ
  are : AreTransmissions kind gs bytes
  left_is : left ≡ bytes ++ rest
  block_is : c ≡ record { payload = b.payload; bytes = b.bytes ++ bytes }

split : (kind : Kind) (start : ℕ) (b : Block) (gs left : List ℕ) (c : Block) (rest : List ℕ) → transmissions_step kind start b gs left ≡ block c rest → IsSplit kind b gs left c rest
split kind start b [] left c rest is = record {
  bytes = [];
  are = refl;
  left_is = cc;
  block_is = (let e : b ≡ c = cc in sym e ∙ ap (λ (xs : List ℕ). record { payload = b.payload; bytes = xs }) (sym (append-nil b.bytes)));
}
split kind start b (g ∷ gs) left c rest is =
    by_tests (nat_lt (length left) (transmission_size kind g)) (has_bad_bit kind g (take (transmission_size kind g) left)) refl refl
    (split kind start (record b { bytes = b.bytes ++ take (transmission_size kind g) left }) gs (drop (transmission_size kind g) left) c rest) is
  where
    by_tests : (t u : Bool) → nat_lt (length left) (transmission_size kind g) ≡ t → has_bad_bit kind g (take (transmission_size kind g) left) ≡ u
        → (transmissions_step kind start (record b { bytes = b.bytes ++ take (transmission_size kind g) left }) gs (drop (transmission_size kind g) left) ≡ block c rest
        → IsSplit kind (record b { bytes = b.bytes ++ take (transmission_size kind g) left }) gs (drop (transmission_size kind g) left) c rest)
        → cond t (refused (truncated start (4 + length b.bytes + length left)))
        (cond u (refused (refused_at 5 (start + (4 + length b.bytes + transmission_size kind g - 1)) (4 + length b.bytes + transmission_size kind g)))
        (transmissions_step kind start (record b { bytes = b.bytes ++ take (transmission_size kind g) left }) gs (drop (transmission_size kind g) left))) ≡ block c rest
        → IsSplit kind b (g ∷ gs) left c rest
    by_tests true u et eu next is = absurd (let no : ⊥ = cc in no)
    by_tests false true et eu next is = absurd (let no : ⊥ = cc in no)
    by_tests false false et eu next is =
        let n : ℕ = transmission_size kind g in
        let enough : n ≤ length left = ltb-false (length left) n et in
        let r = next is in
        record {
          bytes = take n left ++ r.bytes;
          are = (take n left, r.bytes, refl, record { size = length-take-le n left enough; good = eu }, r.are);
          left_is = sym (take-append-drop n left) ∙ ap (λ (xs : List ℕ). take n left ++ xs) r.left_is ∙ sym (append_assoc (take n left) r.bytes rest);
          block_is = r.block_is ∙ ap (λ (xs : List ℕ). record { payload = b.payload; bytes = xs }) (append_assoc b.bytes (take n left) r.bytes);
        }

-- ---- a step

pub record IsRead (h : Header) (more : ℕ) (left : List ℕ) (c : Block) (rest : List ℕ) : Type 0 where
  pub room : 0 < more
  pub is : IsBlock h c
  pub left_is : left ≡ block_text c ++ rest

front : (left : List ℕ) → 4 ≤ length left → AreBytes left → left ≡ word_text (word left 0) ++ drop 4 left
front left long are = sym (take-append-drop 4 left) ∙ ap (λ (xs : List ℕ). xs ++ drop 4 left) (sym (spelled-word left long are))

pub step-block : (h : Header) (more start : ℕ) (left : List ℕ) (c : Block) (rest : List ℕ) → AreBytes left → step h more start left ≡ block c rest → IsRead h more left c rest
unfolding step
step-block h more start left c rest are is = by_length (nat_lt (length left) 4) refl is
  where
    by_word : (p : ℕ) (a b t : Bool) → 4 ≤ length left → word left 0 ≡ p → (p == 0) ≡ a → (more == 0) ≡ b → nat_lt h.tb p ≡ t
        → cond a (end_step start (drop 4 left)) (cond b (refused (refused_at 8 start 4))
        (cond t (refused (refused_at 4 start 4)) (transmissions_step h.kind start (record { payload = p; bytes = [] }) (lengths h) (drop 4 left)))) ≡ block c rest
        → IsRead h more left c rest
    by_word p true b t long value ea eb et is = by_end (drop 4 left) is
      where
        by_end : (xs : List ℕ) → end_step start xs ≡ block c rest → IsRead h more left c rest
        by_end [] is = absurd (let no : ⊥ = cc in no)
        by_end (x ∷ xs) is = absurd (let no : ⊥ = cc in no)
    by_word p false true t long value ea eb et is = absurd (let no : ⊥ = cc in no)
    by_word p false false true long value ea eb et is = absurd (let no : ⊥ = cc in no)
    by_word p false false false long value ea eb et is =
        let s = split h.kind start (record { payload = p; bytes = [] }) (lengths h) (drop 4 left) c rest is in
        let some : p ≡ 0 → ⊥ = eqb-false p 0 ea in
        let room : more ≡ 0 → ⊥ = eqb-false more 0 eb in
        let payload : c.payload ≡ p = ap (λ (b : Block). b.payload) s.block_is in
        let bytes : c.bytes ≡ s.bytes = ap (λ (b : Block). b.bytes) s.block_is in
        let P : List ℕ → Type 0 = λ xs. AreTransmissions h.kind (lengths h) xs in
        record {
          room = omega (arith, room);
          is = record { some = omega (arith, some, payload); few = omega (arith, payload, ltb-false h.tb p et); sent = subst P (sym bytes) s.are };
          left_is = front left long are ∙ ap (λ (n : ℕ). word_text n ++ drop 4 left) (value ∙ sym payload)
              ∙ ap (λ (xs : List ℕ). word_text c.payload ++ xs) (s.left_is ∙ ap (λ (xs : List ℕ). xs ++ rest) (sym bytes)) ∙ sym (append_assoc (word_text c.payload) c.bytes rest);
        }

    by_length : (t : Bool) → nat_lt (length left) 4 ≡ t → cond t (refused (truncated start (length left))) (word_step h more start (word left 0) (drop 4 left)) ≡ block c rest →
        IsRead h more left c rest
    by_length true e is = absurd (let no : ⊥ = cc in no)
    by_length false e is = by_word (word left 0) (word left 0 == 0) (more == 0) (nat_lt h.tb (word left 0)) (ltb-false (length left) 4 e) refl refl refl refl is

step-ended : (h : Header) (more start : ℕ) (left : List ℕ) → AreBytes left → step h more start left ≡ ended → left ≡ end_word
unfolding step
step-ended h more start left are is = by_length (nat_lt (length left) 4) refl is
  where
    no_block : (kind : Kind) (b : Block) (gs xs : List ℕ) → transmissions_step kind start b gs xs ≡ ended → ⊥
    no_block kind b [] xs is = cc
    no_block kind b (g ∷ gs) xs is = by_tests (nat_lt (length xs) (transmission_size kind g)) (has_bad_bit kind g (take (transmission_size kind g) xs))
        (transmissions_step kind start (record b { bytes = b.bytes ++ take (transmission_size kind g) xs }) gs (drop (transmission_size kind g) xs))
        (no_block kind (record b { bytes = b.bytes ++ take (transmission_size kind g) xs }) gs (drop (transmission_size kind g) xs)) is
      where
        by_tests : (t u : Bool) (s : Step) → (s ≡ ended → ⊥) →
            cond t (refused (truncated start (4 + length b.bytes + length xs)))
            (cond u (refused (refused_at 5 (start + (4 + length b.bytes + transmission_size kind g - 1)) (4 + length b.bytes + transmission_size kind g))) s) ≡ ended → ⊥
        by_tests true u s never is = cc
        by_tests false true s never is = cc
        by_tests false false s never is = never is

    by_word : (p : ℕ) (a b t : Bool) → 4 ≤ length left → word left 0 ≡ p → (p == 0) ≡ a
        → cond a (end_step start (drop 4 left)) (cond b (refused (refused_at 8 start 4))
        (cond t (refused (refused_at 4 start 4)) (transmissions_step h.kind start (record { payload = p; bytes = [] }) (lengths h) (drop 4 left)))) ≡ ended
        → left ≡ end_word
    by_word p true b t long value ea is = by_end (drop 4 left) refl is
      where
        by_end : (xs : List ℕ) → drop 4 left ≡ xs → end_step start xs ≡ ended → left ≡ end_word
        by_end [] e is = front left long are ∙ ap (λ (xs : List ℕ). word_text (word left 0) ++ xs) e ∙ append-nil (word_text (word left 0)) ∙ ap word_text (value ∙ eqb-true p 0 ea)
        by_end (x ∷ xs) e is = absurd (let no : ⊥ = cc in no)
    by_word p false true t long value ea is = absurd (let no : ⊥ = cc in no)
    by_word p false false true long value ea is = absurd (let no : ⊥ = cc in no)
    by_word p false false false long value ea is = absurd (no_block h.kind (record { payload = p; bytes = [] }) (lengths h) (drop 4 left) is)

    by_length : (t : Bool) → nat_lt (length left) 4 ≡ t → cond t (refused (truncated start (length left))) (word_step h more start (word left 0) (drop 4 left)) ≡ ended → left ≡ end_word
    by_length true e is = absurd (let no : ⊥ = cc in no)
    by_length false e is = by_word (word left 0) (word left 0 == 0) (more == 0) (nat_lt h.tb (word left 0)) (ltb-false (length left) 4 e) refl refl is

-- ---- all steps

pub record IsSpelled (h : Header) (more : ℕ) (left : List ℕ) (blocks : List Block) : Type 0 where
  pub few : length blocks ≤ more
  pub each : AreBlocks h blocks
  pub left_is : left ≡ body_text blocks

pub body-spelled : (h : Header) (more start : ℕ) (left : List ℕ) (blocks : List Block) → AreBytes left → body h more start left ≡ record { blocks = blocks; ending = whole } →
    IsSpelled h more left blocks
unfolding body
body-spelled h zero start left blocks are is = by_step (step h zero start left) refl is
  where
    by_step : (s : Step) → step h zero start left ≡ s → after_step start (λ _ _. no_more whole) s ≡ record { blocks = blocks; ending = whole } → IsSpelled h zero left blocks
    by_step (block b rest) e is = absurd (let r = step-block h zero start left b rest are e in omega (arith, r.room))
    by_step ended e is =
        let none : [] ≡ blocks = ap (λ (x : Body). x.blocks) is in
        let P : List Block → Type 0 = λ bs. IsSpelled h zero left bs in
        subst P none (record { few = omega arith; each = tt; left_is = step-ended h zero start left are e })
    by_step (refused r) e is = absurd (let no : ⊥ = cc (ap (λ (x : Body). x.ending) is) in no)
body-spelled h (suc more) start left blocks are is = by_step (step h (suc more) start left) refl (λ place rest bs ok e. body-spelled h more place rest bs ok e) is
  where
    by_step : (s : Step) → step h (suc more) start left ≡ s →
        ((place : ℕ) (rest : List ℕ) (bs : List Block) → AreBytes rest → body h more place rest ≡ record { blocks = bs; ending = whole } → IsSpelled h more rest bs)
        → after_step start (body h more) s ≡ record { blocks = blocks; ending = whole } → IsSpelled h (suc more) left blocks
    by_step (block b rest) e next is =
        let r = step-block h (suc more) start left b rest are e in
        let B : List ℕ → Type 0 = λ xs. AreBytes xs in
        let ok : AreBytes rest = bytes-suffix (block_text b) rest (subst B r.left_is are) in
        let all = body h more (next_start start b) rest in
        let ending : all.ending ≡ whole = ap (λ (x : Body). x.ending) is in
        let these : b ∷ all.blocks ≡ blocks = ap (λ (x : Body). x.blocks) is in
        let s = next (next_start start b) rest all.blocks ok (λ i. record { blocks = all.blocks; ending = ending i }) in
        let P : List Block → Type 0 = λ bs. IsSpelled h (suc more) left bs in
        subst P these (record {
          few = omega (arith, s.few);
          each = (r.is, s.each);
          left_is = r.left_is ∙ ap (λ (xs : List ℕ). block_text b ++ xs) s.left_is ∙ sym (append_assoc (block_text b) (flat_map block_text all.blocks) end_word);
        })
    by_step ended e next is =
        let none : [] ≡ blocks = ap (λ (x : Body). x.blocks) is in
        let P : List Block → Type 0 = λ bs. IsSpelled h (suc more) left bs in
        subst P none (record { few = omega arith; each = tt; left_is = step-ended h (suc more) start left are e })
    by_step (refused r) e next is = absurd (let no : ⊥ = cc (ap (λ (x : Body). x.ending) is) in no)
