-- The outcome from transmission to transmission.
use Rattle.std.proofs.Common.{◌≡◌, ℕ, ◌+◌, ◌≤◌, ℤ, List, [], ◌∷◌, ◌++◌, length, take, drop, All, refl, sym, ap, ◌∙◌, subst, arith}
use Rattle.std.specs.Prelude.{None, Some, slice_get}
use Rattle.std.proofs.lemmas.List.{length-append, length-drop, drop_all}
use Rattle.std.proofs.lemmas.List.Sums.{sum_by-cons}
use Rattle.std.proofs.lemmas.Option.{get_or_from_slice_get, slice_get_within}
use Rattle.rate_match.specs.declared.sends.Sending.{Sending}
use Rattle.rate_match.proofs.EachSending.{turn_at}
use Rattle.model_receiver.specs.SoftCells.{Reception, reception}
use Rattle.model_receiver.specs.declared.result.CodeResult.{CodeResult}
use Rattle.model_receiver.specs.declared.result.TbOutcome.TheVariants.{Delivered, Failed}
use Rattle.model_receiver.specs.TransportBlocks.{outcome, outcome_from}
use Rattle.block_receive.specs.declared.progress.Progress.{Progress}
use Rattle.block_receive.specs.declared.task.Task.{Task}
use Rattle.block_receive.specs.Progress.{GoesOn, IsReached}
use Rattle.block_receive.specs.Receptions.{receptions, value_count}

-- i transmissions were taken, and `rest` has the values of the others
pub record IsUnderWay (task : Task) (sends : List Sending) (softs : List ℤ) (i : ℕ) (rest : List ℤ) (p : Progress) : Type 0 where
  pub seen : List Reception
  pub last : List CodeResult
  pub count : length seen ≡ i
  pub reached : IsReached p seen last
  pub left : outcome_from task.plan task.limits seen last (receptions (drop i sends) rest) ≡ outcome task.plan task.limits (receptions sends softs)
  pub long : length rest ≡ value_count (drop i sends)

pub under-way-first : (task : Task) (sends : List Sending) (softs : List ℤ) (p : Progress) → IsReached p [] [] → length softs ≡ value_count sends
    → IsUnderWay task sends softs 0 softs p
unfolding outcome
under-way-first task sends softs p reached long = record { seen = []; last = []; count = refl; reached = reached; left = refl; long = long }

-- the values of transmission i are there
pub enough : (sends : List Sending) (i : ℕ) (rest : List ℤ) (s : Sending) → slice_get sends i ≡ Some s → length rest ≡ value_count (drop i sends)
    → length rest ≡ s.m.g + value_count (drop (i + 1) sends)
enough sends i rest s at long = long ∙ ap value_count (turn_at sends i s at) ∙ sum_by-cons (λ x. x.m.g) s (drop (i + 1) sends)

-- transmission i comes next
ahead : (task : Task) (sends : List Sending) (softs : List ℤ) (i : ℕ) (rest : List ℤ) (s : Sending) (p : Progress) (h : IsUnderWay task sends softs i rest p) → slice_get sends i ≡ Some s
    → outcome_from task.plan task.limits h.seen h.last
    (reception s.m s.rv (take s.m.g rest) ∷ receptions (drop (i + 1) sends) (drop s.m.g rest)) ≡ outcome task.plan task.limits (receptions sends softs)
ahead task sends softs i rest s p h at =
    ap (λ (ss : List Sending). outcome_from task.plan task.limits h.seen h.last (receptions ss rest)) (sym (turn_at sends i s at)) ∙ h.left

pub under-way-next : (task : Task) (sends : List Sending) (softs : List ℤ) (i : ℕ) (rest : List ℤ) (s : Sending) (p p' : Progress) (h : IsUnderWay task sends softs i rest p)
    → slice_get sends i ≡ Some s
    → GoesOn task h.seen h.last (reception s.m s.rv (take s.m.g rest)) p' None → IsUnderWay task sends softs (i + 1) (drop s.m.g rest) p'
under-way-next task sends softs i rest s p p' h at (results, reached, on) =
    let x : Reception = reception s.m s.rv (take s.m.g rest) in
    record {
      seen = h.seen ++ x ∷ [];
      last = results;
      count = length-append h.seen (x ∷ []) ∙ ap (λ (n : ℕ). n + 1) h.count;
      reached = reached;
      left = sym (on (receptions (drop (i + 1) sends) (drop s.m.g rest))) ∙ ahead task sends softs i rest s p h at;
      long = omega (arith, length-drop s.m.g rest, enough sends i rest s at h.long);
    }

pub outcome-delivered : (task : Task) (sends : List Sending) (softs : List ℤ) (i : ℕ) (rest : List ℤ) (s : Sending)
    (p p' : Progress) (bytes : List ℕ) (h : IsUnderWay task sends softs i rest p) → slice_get sends i ≡ Some s
    → GoesOn task h.seen h.last (reception s.m s.rv (take s.m.g rest)) p' (Some bytes) → Delivered bytes (i + 1) p'.iterations ≡ outcome task.plan task.limits (receptions sends softs)
outcome-delivered task sends softs i rest s p p' bytes h at on =
    ap (λ (n : ℕ). Delivered bytes (n + 1) p'.iterations) (sym h.count)
    ∙ sym (on (receptions (drop (i + 1) sends) (drop s.m.g rest))) ∙ ahead task sends softs i rest s p h at

pub outcome-failed : (task : Task) (sends : List Sending) (softs : List ℤ) (i : ℕ) (rest : List ℤ) (p : Progress) → IsUnderWay task sends softs i rest p → length sends ≤ i
    → Failed i p.iterations ≡ outcome task.plan task.limits (receptions sends softs)
outcome-failed task sends softs i rest p h all =
    ap (λ (n : ℕ). Failed n p.iterations) (sym h.count) ∙ ap (Failed (length h.seen)) h.reached.iterations
    ∙ ap (λ (ss : List Sending). outcome_from task.plan task.limits h.seen h.last (receptions ss rest)) (sym (drop_all i sends all)) ∙ h.left

-- what holds of all transmissions holds of one
pub all-at : {X : Type 0} (P : X → Type 0) (xs : List X) (i : ℕ) (x : X) → All P xs → slice_get xs i ≡ Some x → P x
all-at P xs i x h at = subst P (get_or_from_slice_get xs i x x at) (h i x (slice_get_within xs i x at))
