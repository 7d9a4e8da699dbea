-- The recursion over the receptions gives the first try that delivers.
use Rattle.std.proofs.Common.{◌≡◌, ℕ, suc, ◌+◌, Bool, true, false, cond, List, [], ◌∷◌, ◌++◌, length, refl, sym, ap, ◌∙◌, arith}
use Rattle.std.specs.Prelude.{Option, Some, find, take}
use Rattle.std.specs.List.{range_with_len}
use Rattle.std.proofs.lemmas.List.{length-append, append-nil, append_assoc}
use Rattle.std.proofs.Math.Seq.{take-append-add}
use Rattle.model_sender.specs.Segmentation.{Plan}
use Rattle.model_receiver.specs.declared.result.CodeResult.{CodeResult}
use Rattle.model_receiver.specs.declared.result.TbOutcome.TheVariants.{Delivered, Failed}
use Rattle.model_receiver.specs.SoftCells.{Reception}
use Rattle.model_receiver.specs.Limits.{DecoderLimits}
use Rattle.model_receiver.specs.TransportBlocks.{delivers, delivering_try, held_after, iterations_of, outcome, outcome_from, outcome_in, payload_of, results_in, tried}

-- a number of tries, with the receptions before and after them and the results of the last
record AreTried (plan : Plan) (e : DecoderLimits) (all seen xs : List Reception) (last : List CodeResult) (n : ℕ) : Type 0 where
  is : all ≡ seen ++ xs
  long : length seen ≡ n
  last_is : last ≡ results_in plan e all n

seen-more : (plan : Plan) (e : DecoderLimits) (all seen : List Reception) (x : Reception) (xs : List Reception) (last : List CodeResult) (n : ℕ)
    → AreTried plan e all seen (x ∷ xs) last n
    → AreTried plan e all (seen ++ x ∷ []) xs (tried plan e (seen ++ x ∷ []) (held_after last)) (suc n)
seen-more plan e all seen x xs last n h =
    let count : suc n ≡ length seen + 1 = omega (arith, h.long) in
    let taken : take (suc n) all ≡ seen ++ x ∷ [] = ap (take (suc n)) h.is ∙ (ap (λ (i : ℕ). take i (seen ++ x ∷ xs)) count ∙ take-append-add seen (x ∷ xs) 1) in
    record {
      is = h.is ∙ sym (append_assoc seen (x ∷ []) xs);
      long = length-append seen (x ∷ []) ∙ sym count;
      last_is = ap (λ (ys : List Reception). tried plan e ys (held_after last)) (sym taken) ∙ ap (λ rs. tried plan e (take (suc n) all) (held_after rs)) h.last_is;
    }

from : (plan : Plan) (e : DecoderLimits) (all seen xs : List Reception) (last : List CodeResult) (n a : ℕ)
    → AreTried plan e all seen xs last n → a ≡ suc n
    → outcome_from plan e seen last xs ≡ outcome_in plan e all (find (λ t. delivers plan (results_in plan e all t)) (range_with_len a (length xs)))
from plan e all seen [] last n a h next =
    let count : length all ≡ n = ap length h.is ∙ (ap length (append-nil seen) ∙ h.long) in
    ap (λ (m : ℕ). Failed m (iterations_of last)) (h.long ∙ sym count)
    ∙ ap (λ rs. Failed (length all) (iterations_of rs)) (h.last_is ∙ ap (results_in plan e all) (sym count))
from plan e all seen (x ∷ xs) last n a h next =
    by_test (from plan e all now xs results (suc n) (a + 1) more (let e : a + 1 ≡ suc (suc n) = omega (arith, next) in e)) (delivers plan results) refl
  where
    now : List Reception
    now = seen ++ x ∷ []

    results : List CodeResult
    results = tried plan e now (held_after last)

    rest : Option ℕ
    rest = find (λ t. delivers plan (results_in plan e all t)) (range_with_len (a + 1) (length xs))

    more : AreTried plan e all now xs results (suc n)
    more = seen-more plan e all seen x xs last n h

    same : results ≡ results_in plan e all a
    same = more.last_is ∙ ap (results_in plan e all) (sym next)

    count : length now ≡ a
    count = more.long ∙ sym next

    by_test : outcome_from plan e now results xs ≡ outcome_in plan e all rest → (b : Bool) → delivers plan results ≡ b
        → outcome_from plan e seen last (x ∷ xs) ≡ outcome_in plan e all (cond (delivers plan (results_in plan e all a)) (Some a) rest)
    by_test later true is =
        ap (λ b. cond b (Delivered (payload_of plan results) (length now) (iterations_of results)) (outcome_from plan e now results xs)) is
        ∙ ap (λ (m : ℕ). Delivered (payload_of plan results) m (iterations_of results)) count
        ∙ ap (λ rs. Delivered (payload_of plan rs) a (iterations_of rs)) same
        ∙ sym (ap (λ b. outcome_in plan e all (cond b (Some a) rest)) (ap (delivers plan) (sym same) ∙ is))
    by_test later false is =
        ap (λ b. cond b (Delivered (payload_of plan results) (length now) (iterations_of results)) (outcome_from plan e now results xs)) is
        ∙ later
        ∙ sym (ap (λ b. outcome_in plan e all (cond b (Some a) rest)) (ap (delivers plan) (sym same) ∙ is))

pub first-delivers : (plan : Plan) (e : DecoderLimits) (xs : List Reception) → outcome plan e xs ≡ outcome_in plan e xs (delivering_try plan e xs)
unfolding outcome
first-delivers plan e xs = from plan e xs [] xs [] 0 1 (record { is = refl; long = refl; last_is = refl }) refl
