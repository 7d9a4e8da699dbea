-- How reading that stops is told: of one unit, and of what was read before it.
use Rattle.std.proofs.Common.{◌≡◌, ℕ, ◌+◌, ◌<◌, ◌≤◌, List, [], ◌++◌, length, Some, inl, inr, ap, sym, subst, ◌∙◌, append_assoc, arith}
use Rattle.std.specs.declared.option.Option.{Option}
use Rattle.std.specs.Io.KnownBytes.{prepend_known}
use Rattle.std.proofs.lemmas.List.{append-nil, length-append}
use Rattle.edge_io.specs.Edge.{Takes}
use Rattle.edge_io.proofs.Known.{takes_then}
use Rattle.edge_io.proofs.Told.{told_rest, told_all}
use Rattle.coded_stream.specs.Units.{Refusal, EndsInUnit, Stops, IsCause}
use Rattle.coded_stream.specs.declared.stop.StreamStop.{StreamStop}
use Rattle.coded_stream.specs.declared.stop.StreamStop.TheVariants.{Bad, Fault, NoMemory}

-- a unit of which not all came: what an input that ends in it says, and how many bytes are due in it
pub unit-stops : (Says : Refusal → Type 0) (IsDue : ℕ → Type 0) (place : ℕ) (left unit : List ℕ) (old new : Option (List ℕ)) (stop : StreamStop) → old ≡ Some left
    → (length left < length unit → (due : ℕ) × Says (record { number = 6; place = place + length left; size = length left; due = due }))
    → ((n : ℕ) → n < length unit → n ≤ length left → IsDue n)
    → EndsInUnit place old new unit stop → Stops Says IsDue old new stop
unit-stops Says IsDue place left unit old new (Bad number at) is short known (bytes, few, took, ended, six, at_is) =
    let t = told_all old new bytes left took ended is in
    let size : length left ≡ length bytes = ap length t.input_is in
    let s = short (omega (arith, size, few)) in
    let at : place + length left ≡ at = omega (arith, size, at_is) in (
      bytes,
      [],
      s.0,
      t.old_is ∙ ap Some (sym (append-nil bytes)),
      t.new_is,
      subst Says (λ i. record { number = sym six i; place = at i; size = size i; due = s.0 }) s.1,
    )
unit-stops Says IsDue place left unit old new Fault is short known (bytes, few, took) =
    let t = told_rest old new bytes left took is in
    (bytes, took, known (length bytes) few (omega (arith, ap length t.input_is, length-append bytes t.left)))
unit-stops Says IsDue place left unit old new NoMemory is short known none = absurd none

-- after these bytes, which were read before
pub stops-later : (Says : Refusal → Type 0) (IsDue : ℕ → Type 0) (old mid new : Option (List ℕ)) (bytes : List ℕ) (stop : StreamStop) → Takes old mid bytes
    → Stops (λ r. Says (record r { size = length bytes + r.size })) (λ n. IsDue (length bytes + n)) mid new stop → Stops Says IsDue old new stop
stops-later Says IsDue old mid new bytes (Bad number place) took (more, left, due, mid_is, new_is, said) = (
  bytes ++ more,
  left,
  due,
  took ∙ ap (prepend_known bytes) mid_is ∙ ap Some (sym (append_assoc bytes more left)),
  new_is,
  subst (λ (n : ℕ). Says (record { number = number; place = place; size = n; due = due })) (sym (length-append bytes more)) said,
)
stops-later Says IsDue old mid new bytes Fault took (more, next, due) =
    (bytes ++ more, takes_then old mid new bytes more took next, subst IsDue (sym (length-append bytes more)) due)
stops-later Says IsDue old mid new bytes NoMemory took none = absurd none

-- some bytes, and then some more
pub taken_both : (old : Option (List ℕ)) (bytes left more rest : List ℕ) → old ≡ Some (bytes ++ left) → left ≡ more ++ rest → old ≡ Some ((bytes ++ more) ++ rest)
taken_both old bytes left more rest is split = is ∙ ap Some (ap (λ (xs : List ℕ). bytes ++ xs) split ∙ sym (append_assoc bytes more rest))

-- in other words
pub stops-as : (Says Says' : Refusal → Type 0) (IsDue IsDue' : ℕ → Type 0) (old new : Option (List ℕ)) (stop : StreamStop) → ((r : Refusal) → Says r → Says' r) → ((n : ℕ) → IsDue n → IsDue' n)
    → Stops Says IsDue old new stop → Stops Says' IsDue' old new stop
stops-as Says Says' IsDue IsDue' old new (Bad number place) says due (bytes, left, d, old_is, new_is, said) = (bytes, left, d, old_is, new_is, says _ said)
stops-as Says Says' IsDue IsDue' old new Fault says due (bytes, took, few) = (bytes, took, due (length bytes) few)
stops-as Says Says' IsDue IsDue' old new NoMemory says due none = absurd none

-- the count of faults rose before, or now
pub cause-later : (before mid now : ℕ) (stop : StreamStop) → before ≤ mid → IsCause mid now stop → IsCause before now stop
cause-later before mid now (Bad number place) le cause = tt
cause-later before mid now Fault le (inl rose) = inl (omega (arith, le, rose))
cause-later before mid now Fault le (inr most) = inr most
cause-later before mid now NoMemory le none = none
