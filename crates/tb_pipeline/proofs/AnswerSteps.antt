-- Each step keeps the rule of the queue of answers.
use Rattle.std.proofs.Common.{◌≡◌, ◌≢◌, ℕ, zero, suc, ◌<◌, IfSome, List, [], ◌∷◌, ◌++◌, Option, Some, None, length, set, sym, subst, refl, ◌∙◌, ⊎_elim, arith}
use mathlib.Core.Option.{some, some-injective, some-ne-none}
use lib.ListN.{get_elem?}
use Rattle.crossbeam_queue.specs.Fifo.{Pushes, Pops, Forks}
use Rattle.atomic_table.proofs.Lists.{at_set, at_snoc}
use Rattle.tb_pipeline.specs.declared.completion.Completion.{Completion}
use Rattle.tb_pipeline.specs.declared.completion.Completion.TheVariants.{Done}
use Rattle.tb_pipeline.specs.Completions.{jobs_of, opens, IsCompletionFor, AreCompletionsFor, KnowsJobs, IsAnswered, AreSlotsOf, received}
use Rattle.tb_pipeline.proofs.Lists.{only_one}
use Rattle.tb_pipeline.proofs.Zips.{zip_length, zip_set, at_below}

module _ {J D : Type 0} (answers : J → D → Type 0) where
  completions_snoc : (jobs : List J) (items : List (Completion J D)) (x : Completion J D)
      → AreCompletionsFor answers jobs items → IsCompletionFor answers jobs x → AreCompletionsFor answers jobs (items ++ x ∷ [])
  completions_snoc jobs [] x each fits = (fits, tt)
  completions_snoc jobs (y ∷ items) x each fits = (each.0, completions_snoc jobs items x each.1 fits)

  -- who isn't alone knows the jobs, whatever the queue holds
  others : (jobs : List J) (items items' : List (Completion J D)) (views views' : List (Option (List J))) (u : Option (List J))
      → KnowsJobs answers jobs items views u → (length views ≡ 1 → ⊥) → KnowsJobs answers jobs items' views' u
  others jobs items items' views views' None knows more = absurd (more knows.1)
  others jobs items items' views views' (Some known) knows more = knows

  pub starts : IsAnswered answers [] (None ∷ [])
  starts = record { jobs = []; each = tt; knows = λ j u e. subst (KnowsJobs answers [] [] (None ∷ [])) (only j u e) (refl, refl) }
    where
      only : (j : ℕ) (u : Option (List J)) → get_elem? (None ∷ []) j ≡ some u → None ≡ u
      only zero u e = some-injective None u e
      only (suc j) u e = absurd (some-ne-none u (sym e))

  pub opens_one : (n pass : ℕ) (v : Option (List J)) (x : Completion J D) (jobs : List J) → v ≡ None
      → jobs_of x ≡ Some jobs → IsCompletionFor answers jobs x → Pushes (IsAnswered answers) n pass v x (opens v x)
  opens_one n pass v x jobs none asked fits items views room r at =
      let w : Option (List J) = jobs_of x in
      let mine : (items ≡ []) × (length views ≡ 1) = subst (KnowsJobs answers r.jobs items views) none (r.knows pass v at) in (
        w,
        record {
          jobs = jobs;
          each = subst (λ (l : List (Completion J D)). AreCompletionsFor answers jobs (l ++ x ∷ [])) (sym mine.0) (fits, tt);
          knows = λ j u e. ⊎_elim (λ (q : (j ≡ pass) × (w ≡ u)). subst (KnowsJobs answers jobs (items ++ x ∷ []) (set views pass w)) (sym asked ∙ q.1) refl)
              (λ (q : (j ≢ pass) × (get_elem? views j ≡ some u)). absurd (q.0 (only_one views j pass u v mine.1 q.1 at))) (at_set views pass j w u e);
        },
        refl,
      )

  module _ (pass : ℕ) (v : Option (List J)) (jobs : List J) (is : v ≡ Some jobs) where
    known : (items : List (Completion J D)) (views : List (Option (List J))) (r : IsAnswered answers items views) → get_elem? views pass ≡ some v → jobs ≡ r.jobs
    known items views r at = subst (KnowsJobs answers r.jobs items views) is (r.knows pass v at)

    -- the other passes' views, and this one's, which stays
    stays : (items items' : List (Completion J D)) (views : List (Option (List J))) (r : IsAnswered answers items views) → get_elem? views pass ≡ some v
        → (views' : List (Option (List J))) (j : ℕ) (u : Option (List J)) → get_elem? (set views pass v) j ≡ some u → KnowsJobs answers r.jobs items' views' u
    stays items items' views r at views' j u e =
        ⊎_elim (λ (q : (j ≡ pass) × (v ≡ u)). subst (KnowsJobs answers r.jobs items' views') (sym is ∙ q.1) (known items views r at))
        (λ (q : (j ≢ pass) × (get_elem? views j ≡ some u)). others r.jobs items items' views views' u (r.knows j u q.1) (λ lone. q.0 (only_one views j pass u v lone q.1 at)))
        (at_set views pass j v u e)

    pub sends_one : (n : ℕ) (x : Completion J D) → IsCompletionFor answers jobs x → Pushes (IsAnswered answers) n pass v x (λ w. w ≡ v)
    sends_one n x fits items views room r at = (
      v,
      record {
        jobs = r.jobs;
        each = completions_snoc r.jobs items x r.each (subst (λ (l : List J). IsCompletionFor answers l x) (known items views r at) fits);
        knows = stays items (items ++ x ∷ []) views r at (set views pass v);
      },
      refl,
    )

    pub comes_one : Pops (IsAnswered answers) pass v (received answers v)
    comes_one x items views r at = (
      v,
      record { jobs = r.jobs; each = r.each.1; knows = stays (x ∷ items) items views r at (set views pass v) },
      (
        refl,
        λ others' same. let all : others' ≡ r.jobs = subst (KnowsJobs answers r.jobs (x ∷ items) views) same (r.knows pass v at) in
            subst (λ (l : List J). IsCompletionFor answers l x) (sym all) r.each.0,
      ),
    )

    pub twins_one : Forks (IsAnswered answers) pass v v v
    twins_one items views r at =
        let mid : List (Option (List J)) = set views pass v in
        record {
          jobs = r.jobs;
          each = r.each;
          knows = λ j u e. ⊎_elim (λ (m : get_elem? mid j ≡ some u). stays items items views r at (mid ++ v ∷ []) j u m)
              (λ (q : v ≡ u). subst (KnowsJobs answers r.jobs items (mid ++ v ∷ [])) (sym is ∙ q) (known items views r at)) (at_snoc mid v u j e);
        }

  module _ (jobs : List J) (slots : List (Option D)) (are : AreSlotsOf answers jobs slots) (number : ℕ) where
    slot_below : number < length jobs → number < length slots
    slot_below below = let same = zip_length (λ job slot. IfSome slot (λ done. answers job done)) jobs slots are in omega arith

    pub slot_inside : (done : D) → IsCompletionFor answers jobs (Done number done) → number < length slots
    slot_inside done fits = slot_below (at_below jobs number fits.0 fits.1)

    pub slot_filled : (done : D) → IsCompletionFor answers jobs (Done number done) → AreSlotsOf answers jobs (set slots number (Some done))
    slot_filled done fits =
        zip_set (λ job slot. IfSome slot (λ done. answers job done)) jobs slots number (Some done) are
        (λ x e. subst (λ (job : J). answers job done) (some-injective fits.0 x (sym fits.1 ∙ e)) fits.2)

    pub slot_emptied : AreSlotsOf answers jobs (set slots number None)
    slot_emptied = zip_set (λ job slot. IfSome slot (λ done. answers job done)) jobs slots number None are (λ x e. tt)
