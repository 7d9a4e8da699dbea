-- What a turn of reading transmissions makes of how far a block was read.
use Rattle.std.proofs.Common.{◌≡◌, ℕ, ◌+◌, ◌-◌, ◌<◌, ◌≤◌, inl, inr, false, List, [], ◌∷◌, ◌++◌, length, drop, Some, refl, ap, sym, subst, ◌∙◌, append_assoc, arith}
use Rattle.std.specs.declared.option.Option.{Option}
use Rattle.std.specs.Io.KnownBytes.{prepend_known}
use Rattle.std.proofs.lemmas.List.{drop_all}
use Rattle.edge_io.specs.Edge.{Takes}
use Rattle.edge_io.proofs.Told.{told_rest}
use Rattle.coded_stream.specs.Blocks.{transmission_size, has_bad_bit}
use Rattle.coded_stream.specs.Body.{Step, block, refused, transmissions_step}
use Rattle.coded_stream.specs.Units.{Refusal, Stops}
use Rattle.coded_stream.specs.Takes.{IsBadTransmission, StopsAfterWord, step_due}
use Rattle.coded_stream.specs.declared.kind.Kind.{Kind}
use Rattle.coded_stream.specs.declared.stop.StreamStop.{StreamStop}
use Rattle.coded_stream.proofs.BlockSteps.{same_refusal}
use Rattle.coded_stream.proofs.Stopping.{unit-stops, stops-later}
use Rattle.coded_stream.proofs.Turns.{IsTurn}
use Rattle.coded_stream.proofs.Sent.{step-accepted, step-bad, step-cut, due-more, IsMidway}

-- the step that is due at a turn begins with a transmission
turned : (kind : Kind) (start payload g turn : ℕ) (gs bytes left : List ℕ) → IsTurn kind gs turn g
    → transmissions_step kind start (record { payload = payload; bytes = bytes }) (drop turn gs) left
    ≡ transmissions_step kind start (record { payload = payload; bytes = bytes }) (g ∷ drop (turn + 1) gs) left
turned kind start payload g turn gs bytes left is =
    ap (λ (hs : List ℕ). transmissions_step kind start (record { payload = payload; bytes = bytes }) hs left) is.rest

pub midway-more : (kind : Kind) (start payload g turn : ℕ) (gs : List ℕ) (bytes unit input : List ℕ) (mid new : Option (List ℕ)) → IsMidway kind start payload gs turn bytes input mid →
    IsTurn kind gs turn g
    → Takes mid new unit → length unit ≡ transmission_size kind g → has_bad_bit kind g unit ≡ false → IsMidway kind start payload gs (turn + 1) (bytes ++ unit) input new
midway-more kind start payload g turn gs bytes unit input mid new m less took long good =
    let t = told_rest mid new unit m.left took m.new_is in
    record {
      left = t.left;
      input_is = m.input_is ∙ ap (λ (xs : List ℕ). bytes ++ xs) t.input_is ∙ sym (append_assoc bytes unit t.left);
      new_is = t.new_is;
      step_is =
          m.step_is
          ∙ turned kind start payload g turn gs bytes m.left less
          ∙ ap (transmissions_step kind start (record { payload = payload; bytes = bytes }) (g ∷ drop (turn + 1) gs)) t.input_is
          ∙ step-accepted kind start (record { payload = payload; bytes = bytes }) g (drop (turn + 1) gs) unit t.left long good;
    }

-- a transmission that isn't accepted stops it
pub midway-stops : (kind : Kind) (start payload g turn place : ℕ) (gs : List ℕ) (bytes unit input : List ℕ) (old mid new : Option (List ℕ)) (stop : StreamStop) →
    IsMidway kind start payload gs turn bytes input mid → IsTurn kind gs turn g
    → old ≡ Some input → length unit ≡ transmission_size kind g → 1 ≤ length unit → place ≡ start + 4 + length bytes → IsBadTransmission kind g place mid new unit stop
    → StopsAfterWord (transmissions_step kind start (record { payload = payload; bytes = [] }) gs input) old new stop
midway-stops kind start payload g turn place gs bytes unit input old mid new stop m less is long some at bad =
    stops-later Says IsDue old mid new bytes stop (is ∙ ap Some m.input_is ∙ sym (ap (prepend_known bytes) m.new_is)) (by_case bad)
  where
    s : Step
    s = transmissions_step kind start (record { payload = payload; bytes = [] }) gs input

    t : Step
    t = transmissions_step kind start (record { payload = payload; bytes = bytes }) (g ∷ drop (turn + 1) gs) m.left

    same : s ≡ t
    same = m.step_is ∙ turned kind start payload g turn gs bytes m.left less

    Says : Refusal → Type 0
    Says r = s ≡ refused (record r { size = 4 + r.size })

    IsDue : ℕ → Type 0
    IsDue n = 4 + n < step_due s

    Later : StreamStop → Type 0
    Later stop = Stops (λ r. Says (record r { size = length bytes + r.size })) (λ (n : ℕ). IsDue (length bytes + n)) mid new stop

    by_case : IsBadTransmission kind g place mid new unit stop → Later stop
    by_case (inl ends) =
        unit-stops (λ r. Says (record r { size = length bytes + r.size })) (λ (n : ℕ). IsDue (length bytes + n)) place m.left unit mid new stop m.new_is
        (λ few. (
          4 + length bytes + length m.left + 1,
          same ∙ step-cut kind start (record { payload = payload; bytes = bytes }) g (drop (turn + 1) gs) m.left (omega (arith, few, long))
              ∙ same_refusal 6 (start + (4 + length bytes + length m.left)) (place + length m.left)
              (4 + length bytes + length m.left) (4 + (length bytes + length m.left)) (4 + length bytes + length m.left + 1)
              (4 + length bytes + length m.left + 1) (omega (arith, at)) (omega arith) refl,
        ))
        (λ n few came.
        (let more : 4 + length bytes + n < step_due t = due-more kind start (record { payload = payload; bytes = bytes }) g (drop (turn + 1) gs) m.left n (omega (arith, few, long)) came in
        omega (arith, more, ap step_due same)))
        ends
    by_case (inr (took, spare, stop_is)) =
        let u = told_rest mid new unit m.left took m.new_is in
        let all : ℕ = 4 + length bytes + transmission_size kind g in
        subst Later (sym stop_is) (
          unit,
          u.left,
          all,
          u.old_is,
          u.new_is,
          same
              ∙ ap (transmissions_step kind start (record { payload = payload; bytes = bytes }) (g ∷ drop (turn + 1) gs)) u.input_is
              ∙ step-bad kind start (record { payload = payload; bytes = bytes }) g (drop (turn + 1) gs) unit u.left long spare
              ∙ same_refusal 5 (start + (all - 1)) (place + (length unit - 1)) all (4 + (length bytes + length unit)) all all (omega (arith, at, long, some)) (omega (arith, long)) refl,
        )

-- after the last turn the block is read
pub midway-done : (kind : Kind) (start payload : ℕ) (gs bytes input : List ℕ) (old new : Option (List ℕ)) → IsMidway kind start payload gs (length gs) bytes input new → old ≡ Some input
    → (left : List ℕ) × (old ≡ Some (bytes ++ left)) × (new ≡ Some left)
    × (transmissions_step kind start (record { payload = payload; bytes = [] }) gs input ≡ block (record { payload = payload; bytes = bytes }) left)
midway-done kind start payload gs bytes input old new m is = (
  m.left,
  is ∙ ap Some m.input_is,
  m.new_is,
  m.step_is ∙ ap (λ (hs : List ℕ). transmissions_step kind start (record { payload = payload; bytes = bytes }) hs m.left) (drop_all (length gs) gs (omega arith)),
)
