-- The transmissions of a block, one after the other.
use Rattle.std.proofs.Common.{◌≡◌, ℕ, ◌+◌, ◌-◌, ◌<◌, ◌≤◌, Bool, true, false, nat_lt, cond, List, [], ◌∷◌, ◌++◌, length, take, drop, Some, refl, ap, sym, ◌∙◌, append_assoc, arith}
use Rattle.std.specs.declared.option.Option.{Option}
use Rattle.std.proofs.lemmas.List.{append-nil, length-append, length-take-le}
use Rattle.std.proofs.lemmas.Bool.{lt-ltb, ltb-false}
use Rattle.coded_stream.specs.Blocks.{Block, transmission_size, has_bad_bit, IsTransmission, AreTransmissions}
use Rattle.coded_stream.specs.Units.{truncated, refused_at}
use Rattle.coded_stream.specs.Body.{Step, refused, transmissions_step}
use Rattle.coded_stream.specs.Takes.{step_due}
use Rattle.coded_stream.specs.declared.kind.Kind.{Kind}
use Rattle.coded_stream.proofs.Fronts.{take_front, drop_front, whole_front}

-- ---- a step

pub step-accepted : (kind : Kind) (start : ℕ) (b : Block) (g : ℕ) (gs unit left : List ℕ) → length unit ≡ transmission_size kind g → has_bad_bit kind g unit ≡ false
    → transmissions_step kind start b (g ∷ gs) (unit ++ left) ≡ transmissions_step kind start (record b { bytes = b.bytes ++ unit }) gs left
step-accepted kind start b g gs unit left long good =
    rw (whole_front unit left (transmission_size kind g) long, take_front unit left (transmission_size kind g) long, good, drop_front unit left (transmission_size kind g) long) refl

pub step-bad : (kind : Kind) (start : ℕ) (b : Block) (g : ℕ) (gs unit left : List ℕ) → length unit ≡ transmission_size kind g → has_bad_bit kind g unit ≡ true
    → transmissions_step kind start b (g ∷ gs) (unit ++ left) ≡ refused (refused_at 5 (start + (4 + length b.bytes + transmission_size kind g - 1)) (4 + length b.bytes + transmission_size kind g))
step-bad kind start b g gs unit left long bad =
    rw (whole_front unit left (transmission_size kind g) long, take_front unit left (transmission_size kind g) long, bad) refl

pub step-cut : (kind : Kind) (start : ℕ) (b : Block) (g : ℕ) (gs left : List ℕ) → length left < transmission_size kind g
    → transmissions_step kind start b (g ∷ gs) left ≡ refused (truncated start (4 + length b.bytes + length left))
step-cut kind start b g gs left few =
    (let e : nat_lt (length left) (transmission_size kind g) ≡ true = lt-ltb (length left) (transmission_size kind g) few in rw e refl)

-- ---- how far a block was read

-- these bytes of its transmissions were read, so many of them
pub record IsMidway (kind : Kind) (start payload : ℕ) (gs : List ℕ) (turn : ℕ) (bytes input : List ℕ) (new : Option (List ℕ)) : Type 0 where
  pub left : List ℕ
  pub input_is : input ≡ bytes ++ left
  pub new_is : new ≡ Some left
  pub step_is : transmissions_step kind start (record { payload = payload; bytes = [] }) gs input
      ≡ transmissions_step kind start (record { payload = payload; bytes = bytes }) (drop turn gs) left

-- one more is accepted
pub AreTransmissions-more : (kind : Kind) (gs : List ℕ) (g : ℕ) (xs ys : List ℕ) → AreTransmissions kind gs xs → IsTransmission kind g ys → AreTransmissions kind (gs ++ g ∷ []) (xs ++ ys)
AreTransmissions-more kind [] g xs ys none is = (ys, [], ap (λ (zs : List ℕ). zs ++ ys) none ∙ sym (append-nil ys), is, refl)
AreTransmissions-more kind (h ∷ gs) g xs ys (first, rest, split, one, others) is =
    (first, rest ++ ys, ap (λ (zs : List ℕ). zs ++ ys) split ∙ append_assoc first rest ys, one, AreTransmissions-more kind gs g rest ys others is)

-- ---- how much of a step must have come before it is known

pub due-least : (kind : Kind) (start : ℕ) (b : Block) (gs left : List ℕ) → 4 + length b.bytes ≤ step_due (transmissions_step kind start b gs left)
due-least kind start b [] left = omega arith
due-least kind start b (g ∷ gs) left =
    by_tests (nat_lt (length left) (transmission_size kind g)) (has_bad_bit kind g (take (transmission_size kind g) left))
    (transmissions_step kind start (record b { bytes = b.bytes ++ take (transmission_size kind g) left }) gs (drop (transmission_size kind g) left))
    (due-least kind start (record b { bytes = b.bytes ++ take (transmission_size kind g) left }) gs (drop (transmission_size kind g) left))
  where
    by_tests : (t u : Bool) (rest : Step) → 4 + length (b.bytes ++ take (transmission_size kind g) left) ≤ step_due rest
        → 4 + length b.bytes ≤ step_due (cond t (refused (truncated start (4 + length b.bytes + length left)))
        (cond u (refused (refused_at 5 (start + (4 + length b.bytes + transmission_size kind g - 1)) (4 + length b.bytes + transmission_size kind g))) rest))
    by_tests true u rest le = omega arith
    by_tests false true rest le = omega arith
    by_tests false false rest le = omega (arith, le, length-append b.bytes (take (transmission_size kind g) left))

-- more than n bytes of the next transmission, which has more
pub due-more : (kind : Kind) (start : ℕ) (b : Block) (g : ℕ) (gs left : List ℕ) (n : ℕ) → n < transmission_size kind g → n ≤ length left
    → 4 + length b.bytes + n < step_due (transmissions_step kind start b (g ∷ gs) left)
due-more kind start b g gs left n within came =
    by_tests (nat_lt (length left) (transmission_size kind g)) (has_bad_bit kind g (take (transmission_size kind g) left)) refl
    (transmissions_step kind start (record b { bytes = b.bytes ++ take (transmission_size kind g) left }) gs (drop (transmission_size kind g) left))
    (due-least kind start (record b { bytes = b.bytes ++ take (transmission_size kind g) left }) gs (drop (transmission_size kind g) left))
  where
    by_tests : (t u : Bool) → nat_lt (length left) (transmission_size kind g) ≡ t → (rest : Step) → 4 + length (b.bytes ++ take (transmission_size kind g) left) ≤ step_due rest
        → 4 + length b.bytes + n < step_due (cond t (refused (truncated start (4 + length b.bytes + length left)))
        (cond u (refused (refused_at 5 (start + (4 + length b.bytes + transmission_size kind g - 1)) (4 + length b.bytes + transmission_size kind g))) rest))
    by_tests true u e rest le = omega (arith, came)
    by_tests false true e rest le = omega (arith, within)
    by_tests false false e rest le =
        let enough : transmission_size kind g ≤ length left = ltb-false (length left) (transmission_size kind g) e in
        let long : length (take (transmission_size kind g) left) ≡ transmission_size kind g = length-take-le (transmission_size kind g) left enough in
        omega (arith, le, length-append b.bytes (take (transmission_size kind g) left), long, within)
