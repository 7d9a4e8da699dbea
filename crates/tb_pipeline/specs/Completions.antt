-- The rule of the queue of answers.
use Rattle.std.specs.Prelude.{◌≡◌, ℕ, List, [], ◌∷◌, Option, Some, None, length, ⊤, IfSome}
use Rattle.std.specs.List.{AllZip}
use mathlib.Core.Option.{some}
use lib.ListN.{get_elem?}
use Rattle.std.specs.declared.snapshot.Snapshot.{Snapshot}
use Rattle.tb_pipeline.specs.declared.completion.Completion.{Completion}
use Rattle.tb_pipeline.specs.declared.completion.Completion.TheVariants.{Jobs, Done}

-- the values that snapshots are of
abbrev pub values_of : {J : Type 0} → List (Snapshot J) → List J
values_of [] = []
values_of (x ∷ xs) = x.value ∷ values_of xs

module _ {J D : Type 0} where
  -- the jobs that a completion opens
  abbrev pub jobs_of : Completion J D → Option (List J)
  jobs_of (Jobs jobs) = Some (values_of jobs.value.items)
  jobs_of (Done number done) = None

  -- who opens these jobs knows them
  abbrev pub opens : Option (List J) → Completion J D → Option (List J) → Type 0
  opens v x w = w ≡ jobs_of x

module _ {J D : Type 0} (answers : J → D → Type 0) where
  -- an answer on the completion is one of the job with its number
  abbrev pub IsCompletionFor : List J → Completion J D → Type 0
  IsCompletionFor jobs (Jobs others) = ⊤
  IsCompletionFor jobs (Done number done) = (job : J) × (get_elem? jobs number ≡ some job) × answers job done

  -- each completion is one for these jobs
  abbrev pub AreCompletionsFor : List J → List (Completion J D) → Type 0
  AreCompletionsFor jobs [] = ⊤
  AreCompletionsFor jobs (x ∷ xs) = IsCompletionFor jobs x × AreCompletionsFor jobs xs

  -- who knows no jobs is alone, and nothing was put; the others know these
  abbrev pub KnowsJobs : List J → List (Completion J D) → List (Option (List J)) → Option (List J) → Type 0
  KnowsJobs jobs items views None = (items ≡ []) × (length views ≡ 1)
  KnowsJobs jobs items views (Some known) = known ≡ jobs

  -- The completions are for the jobs that the passes know.
  pub record IsAnswered (items : List (Completion J D)) (views : List (Option (List J))) : Type 0 where
    pub jobs : List J
    pub each : AreCompletionsFor jobs items
    pub knows : (j : ℕ) (v : Option (List J)) → get_elem? views j ≡ some v → KnowsJobs jobs items views v

  -- a completion for the jobs that the pass knows was received
  abbrev pub received : Option (List J) → Completion J D → Option (List J) → Type 0
  received v x w = (w ≡ v) × ((jobs : List J) → v ≡ Some jobs → IsCompletionFor jobs x)

  -- each slot is empty, or has an answer of the job at its place
  abbrev pub AreSlotsOf : List J → List (Option D) → Type 0
  AreSlotsOf jobs slots = AllZip (λ job slot. IfSome slot (λ done. answers job done)) jobs slots
