-- How a command opens: a header was taken, and `out` begins with a text.
use Rattle.std.proofs.Common.{◌≡◌, ℕ, ◌<◌, ◌≤◌, List, [], ◌∷◌, ◌++◌, length, take, Some, refl, sym, subst, arith}
use Rattle.std.proofs.lemmas.List.{append-nil}
use Rattle.std.specs.declared.option.Option.{Option}
use Rattle.edge_io.specs.Edge.{Adds, Takes}
use Rattle.run_loop.specs.Answer.{Answer, preceded_by, heading}
use Rattle.run_loop.specs.Due.{TakesSome}
use Rattle.run_loop.specs.Edges.{Edges}
use Rattle.run_loop.specs.Ended.{Ended}
use Rattle.run_loop.specs.Step.{Reached}
use Rattle.run_loop.specs.declared.status.SinkName.TheVariants.{Out}
use Rattle.run_loop.specs.declared.status.Status.TheVariants as status
use Rattle.run_loop.proofs.ReadAhead.{one_read}

pub opened : (a : Answer) (after : List ℕ → Answer) (text bytes rest : List ℕ) (old new : Edges) → old.left ≡ Some (bytes ++ rest) → new.left ≡ Some rest →
    a ≡ preceded_by (heading text (length bytes) ∷ []) (after rest) → Adds old.out new.out text → Adds old.report new.report [] → Reached a after old new
opened a after text bytes rest old new old_is new_is split wrote none =
    let T : Option (List ℕ) → Type 0 = λ o. Takes old.left o bytes in
    record {
      front = heading text (length bytes) ∷ [];
      rest = rest;
      some = omega arith;
      left = new_is;
      stands = record {
        split = split;
        took = (bytes, subst T (sym new_is) old_is, omega arith);
        out = rw (append-nil text) wrote;
        report = none;
      };
    }

-- what it begins with couldn't be written
pub unwritten : (a b : Answer) (text : List ℕ) (size n : ℕ) (old new : Edges) → a ≡ preceded_by (heading text size ∷ []) b → 0 < length text →
    Adds old.out new.out (take n text) → Adds old.report new.report [] → 0 < b.ahead → TakesSome old.left new.left (λ m. m ≤ size) → Ended a old new (status.WriteFault Out)
unwritten a b text size n old new split some wrote none ahead (bytes, took, few) =
    let A : Answer → Type 0 = λ x. Ended x old new (status.WriteFault Out) in
    subst A (sym split) ([], heading text size ∷ b.parts, n, refl, some, wrote, none, (bytes, took, omega (arith, one_read b (heading text size) (length bytes) ahead few)))
