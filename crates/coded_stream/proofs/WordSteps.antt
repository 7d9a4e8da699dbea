-- The step from a length word on, by the word.
use Rattle.std.proofs.Common.{◌≡◌, ℕ, ◌+◌, ◌<◌, ◌≤◌, ◌==◌, Bool, true, false, cond, nat_lt, List, [], ◌∷◌, ◌++◌, length, drop, refl, arith}
use Rattle.std.proofs.lemmas.Bool.{lt-ltb, le-ltb, eq-eqb, ne_eqb}
use Rattle.coded_stream.specs.Header.{Header, word}
use Rattle.coded_stream.specs.Blocks.{lengths}
use Rattle.coded_stream.specs.Units.{truncated, refused_at}
use Rattle.coded_stream.specs.Body.{Step, refused, transmissions_step, end_step, word_step, step}
use Rattle.coded_stream.specs.Takes.{step_due}
use Rattle.coded_stream.proofs.Fronts.{drop_front, whole_front, word_front}
use Rattle.coded_stream.proofs.Sent.{due-least}

pub step-short : (h : Header) (more start : ℕ) (left : List ℕ) → length left < 4 → step h more start left ≡ refused (truncated start (length left))
unfolding step
step-short h more start left few = (let e : nat_lt (length left) 4 ≡ true = lt-ltb (length left) 4 few in rw e refl)

pub step-word : (h : Header) (more start : ℕ) (unit left : List ℕ) → length unit ≡ 4 → step h more start (unit ++ left) ≡ word_step h more start (word unit 0) left
unfolding step
step-word h more start unit left long = rw (whole_front unit left 4 long, word_front unit left long, drop_front unit left 4 long) refl

pub word-end : (h : Header) (more start payload : ℕ) (left : List ℕ) → payload ≡ 0 → word_step h more start payload left ≡ end_step start left
word-end h more start payload left none = (let e : (payload == 0) ≡ true = eq-eqb payload 0 none in rw e refl)

pub word-block : (h : Header) (more start payload : ℕ) (left : List ℕ) → (payload ≡ 0 → ⊥) → (more ≡ 0 → ⊥) → payload ≤ h.tb
    → word_step h more start payload left ≡ transmissions_step h.kind start (record { payload = payload; bytes = [] }) (lengths h) left
word-block h more start payload left some room few =
    let e : (payload == 0) ≡ false = ne_eqb payload 0 some in
    let f : (more == 0) ≡ false = ne_eqb more 0 room in
    let l : nat_lt h.tb payload ≡ false = le-ltb h.tb payload few in
    rw (e, f, l) refl

-- after an end word
pub end-followed : (start : ℕ) (unit left : List ℕ) → length unit ≡ 1 → end_step start (unit ++ left) ≡ refused (record { number = 7; place = start + 4; size = 4 + length unit; due = 5 })
end-followed start [] left long = absurd (omega (arith, long))
end-followed start (a ∷ []) left long = refl
end-followed start (a ∷ b ∷ unit) left long = absurd (omega (arith, long))

-- ---- how much of a step must have come before it is known

word-due : (h : Header) (more start payload : ℕ) (left : List ℕ) → 4 ≤ step_due (word_step h more start payload left)
word-due h more start payload left =
    by_tests (payload == 0) (more == 0) (nat_lt h.tb payload) (end_step start left) (transmissions_step h.kind start (record { payload = payload; bytes = [] }) (lengths h) left) (end-due left)
    (due-least h.kind start (record { payload = payload; bytes = [] }) (lengths h) left)
  where
    end-due : (left : List ℕ) → 4 ≤ step_due (end_step start left)
    end-due [] = omega arith
    end-due (byte ∷ left) = omega arith

    by_tests : (a b c : Bool) (s t : Step) → 4 ≤ step_due s → 4 + 0 ≤ step_due t → 4 ≤ step_due (cond a s (cond b (refused (refused_at 8 start 4)) (cond c (refused (refused_at 4 start 4)) t)))
    by_tests true b c s t le lt = le
    by_tests false true c s t le lt = omega arith
    by_tests false false true s t le lt = omega arith
    by_tests false false false s t le lt = omega (arith, lt)

pub step-due : (h : Header) (more start : ℕ) (left : List ℕ) (n : ℕ) → n < 4 → n ≤ length left → n < step_due (step h more start left)
unfolding step
step-due h more start left n few came = by_test (nat_lt (length left) 4) (word_step h more start (word left 0) (drop 4 left)) (word-due h more start (word left 0) (drop 4 left))
  where
    by_test : (t : Bool) (s : Step) → 4 ≤ step_due s → n < step_due (cond t (refused (truncated start (length left))) s)
    by_test true s le = omega (arith, came)
    by_test false s le = omega (arith, le, few)
