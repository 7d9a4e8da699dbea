-- A round without parts.
use Rattle.std.proofs.Common.{◌≡◌, ℕ, ◌≤◌, List, [], sym, ap, subst}
use Rattle.std.specs.declared.option.Option.{Option}
use Rattle.edge_io.proofs.Known.{takes_none}
use Rattle.run_loop.specs.Answer.{Answer, preceded_by, size_of}
use Rattle.run_loop.specs.Due.{TakesSome, most_read}
use Rattle.run_loop.specs.Step.{Gives, Stops, parts_of}
use Rattle.run_loop.specs.declared.work.Part.{Part}
use Rattle.run_loop.specs.declared.work.Round.{Round}
use Rattle.run_loop.specs.declared.work.Stop.{Stop}

pub gives_alone : (a : Answer) (after : List ℕ → Answer) (old new : Option (List ℕ)) (round : Round) (stop : Stop) →
    round.parts.items ≡ [] → round.stop ≡ stop → Stops a after old new stop →
    TakesSome old new (λ n. n ≤ most_read a a.parts) → Gives a after old new round
gives_alone a after old new round stop none is at read =
    let P : Stop → Type 0 = λ k. Stops a after old new k in (
      a,
      old,
      sym (ap (λ (parts : List Part). preceded_by (parts_of parts) a) none),
      ([], takes_none old, sym (ap (λ (parts : List Part). size_of (parts_of parts)) none)),
      subst P (sym is) at,
      read,
    )
