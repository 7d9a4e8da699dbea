-- A refusal of a block is known at the last byte that is read of it, or at the end of the input after it.
use Rattle.std.proofs.Common.{ℕ, zero, suc, ◌+◌, ◌≤◌, Bool, true, false, List, [], ◌∷◌, ◌++◌, length, take, drop, nat_lt, ◌==◌, if◌then◌else◌, arith}
use Rattle.coded_stream.specs.Header.{Header, word}
use Rattle.coded_stream.specs.Blocks.{Block, lengths, transmission_size, has_bad_bit}
use Rattle.coded_stream.specs.Body.{Step, block, ended, refused, transmissions_step, end_step, word_step, step, Ending, whole, bad, Body, no_more, next_start, after_step, body}
use Rattle.coded_stream.specs.declared.kind.Kind.{Kind}

abbrev pub IsNear : Ending → Type 0
IsNear whole = Unit {0}
IsNear (bad r) = r.due ≤ r.size + 1

abbrev IsNearStep : Step → Type 0
IsNearStep (refused r) = r.due ≤ r.size + 1
IsNearStep _ = Unit {0}

near-if : (c : Bool) (x y : Step) → IsNearStep x → IsNearStep y → IsNearStep (if c then x else y)
near-if true x y one other = one
near-if false x y one other = other

near-sent : (kind : Kind) (start : ℕ) (b : Block) (gs left : List ℕ) → IsNearStep (transmissions_step kind start b gs left)
near-sent kind start b [] left = tt
near-sent kind start b (g ∷ gs) left =
    let size = transmission_size kind g in
    near-if (nat_lt (length left) size) _ _ (omega arith)
    (near-if (has_bad_bit kind g (take size left)) _ _ (omega arith)
    (near-sent kind start (record b { bytes = b.bytes ++ take size left }) gs (drop size left)))

near-end : (start : ℕ) (left : List ℕ) → IsNearStep (end_step start left)
near-end start [] = tt
near-end start (byte ∷ left) = omega arith

near-word : (h : Header) (more start payload : ℕ) (left : List ℕ) → IsNearStep (word_step h more start payload left)
near-word h more start payload left =
    near-if (payload == 0) _ _ (near-end start left)
    (near-if (more == 0) _ _ (omega arith)
    (near-if (nat_lt h.tb payload) _ _ (omega arith) (near-sent h.kind start (record { payload = payload; bytes = [] }) (lengths h) left)))

near-step : (h : Header) (more start : ℕ) (left : List ℕ) → IsNearStep (step h more start left)
unfolding step
near-step h more start left = near-if (nat_lt (length left) 4) _ _ (omega arith) (near-word h more start (word left 0) (drop 4 left))

near-after : (start : ℕ) (after : ℕ → List ℕ → Body) (s : Step) → IsNearStep s → ((place : ℕ) (left : List ℕ) → IsNear (after place left).ending) →
    IsNear (after_step start after s).ending
near-after start after (block b left) near others = others (next_start start b) left
near-after start after ended near others = tt
near-after start after (refused r) near others = near

pub near-body : (h : Header) (more start : ℕ) (left : List ℕ) → IsNear (body h more start left).ending
unfolding body
near-body h zero start left = near-after start (λ _ _. no_more whole) (step h zero start left) (near-step h zero start left) (λ _ _. tt)
near-body h (suc more) start left = near-after start (body h more) (step h (suc more) start left) (near-step h (suc more) start left) (near-body h more)
