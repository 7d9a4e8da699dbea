-- What jobs make, with one job more.
use Rattle.std.proofs.Common.{◌≡◌, ℕ, zero, suc, ◌+◌, ◌≤◌, ◌<◌, Bool, true, false, Result, List, [], ◌∷◌, ◌++◌, length, take, get_or, refl, ap, subst, ◌∙◌, arith}
use Rattle.std.specs.List.{AllZip}
use Rattle.model_receiver.specs.declared.result.TbOutcome.{TbOutcome}
use Rattle.run_loop.specs.Answer.{Part}
use Rattle.stream_loop.specs.Handling.{one_if}
use Rattle.command_batch.specs.Jobs.{answers}
use Rattle.command_batch.specs.Parts.{failures, handled_job, job_part, job_parts}
use Rattle.command_batch.specs.declared.job.BlockJob.{BlockJob}

parts_suc : (first : ℕ) (jobs : List BlockJob) (i : ℕ) (d : BlockJob) → i < length jobs →
    job_parts first (take (suc i) jobs) ≡ job_parts first (take i jobs) ++ job_part (first + i) (get_or jobs i d) ∷ []
parts_suc first [] i d within = absurd (omega (arith, within))
parts_suc first (k ∷ jobs) zero d within = ap (λ (n : ℕ). job_part n k ∷ []) (let a : first ≡ first + 0 = omega arith in a)
parts_suc first (k ∷ jobs) (suc i) d within =
    ap (λ (ps : List Part). job_part first k ∷ ps) (parts_suc (first + 1) jobs i d (omega (arith, within)))
    ∙ ap (λ (n : ℕ). job_part first k ∷ (job_parts (first + 1) (take i jobs) ++ job_part n (get_or jobs i d) ∷ [])) (let a : first + 1 + i ≡ first + suc i = omega arith in a)

pub parts_more : (first : ℕ) (jobs : List BlockJob) (i : ℕ) (d : BlockJob) → i < length jobs →
    job_parts first (take (i + 1) jobs) ≡ job_parts first (take i jobs) ++ job_part (first + i) (get_or jobs i d) ∷ []
parts_more first jobs i d within = ap (λ (n : ℕ). job_parts first (take n jobs)) (let a : i + 1 ≡ suc i = omega arith in a) ∙ parts_suc first jobs i d within

failures_suc : (first : ℕ) (jobs : List BlockJob) (i : ℕ) (d : BlockJob) → i < length jobs →
    failures first (take (suc i) jobs) ≡ failures first (take i jobs) + one_if (handled_job (first + i) (get_or jobs i d)).failed
failures_suc first [] i d within = absurd (omega (arith, within))
failures_suc first (k ∷ jobs) zero d within =
    let same = ap (λ (n : ℕ). one_if (handled_job n k).failed) (let a : first ≡ first + 0 = omega arith in a) in
    omega (arith, same)
failures_suc first (k ∷ jobs) (suc i) d within =
    let rest = failures_suc (first + 1) jobs i d (omega (arith, within)) in
    let same = ap (λ (n : ℕ). one_if (handled_job n (get_or jobs i d)).failed) (let a : first + 1 + i ≡ first + suc i = omega arith in a) in
    omega (arith, rest, same)

pub failures_more : (first : ℕ) (jobs : List BlockJob) (i : ℕ) (d : BlockJob) → i < length jobs →
    failures first (take (i + 1) jobs) ≡ failures first (take i jobs) + one_if (handled_job (first + i) (get_or jobs i d)).failed
failures_more first jobs i d within = ap (λ (n : ℕ). failures first (take n jobs)) (let a : i + 1 ≡ suc i = omega arith in a) ∙ failures_suc first jobs i d within

pub one_few : (failed : Bool) → one_if failed ≤ 1
one_few true = omega arith
one_few false = omega arith

-- no more failed than there are
pub failures_few : (first : ℕ) (jobs : List BlockJob) → failures first jobs ≤ length jobs
failures_few first [] = omega arith
failures_few first (j ∷ jobs) = omega (arith, one_few (handled_job first j).failed, failures_few (first + 1) jobs)

-- the job whose turn it is, and its answer
pub turn_within : {E : Type 0} (jobs : List BlockJob) (ys zs : List (Result TbOutcome E)) (y : Result TbOutcome E) → AllZip answers jobs (ys ++ y ∷ zs) → length ys < length jobs
turn_within [] [] zs y z = absurd z
turn_within [] (x ∷ ys) zs y z = absurd z
turn_within (j ∷ jobs) [] zs y z = omega arith
turn_within (j ∷ jobs) (x ∷ ys) zs y z = let rest = turn_within jobs ys zs y z.1 in omega (arith, rest)

pub turn_answered : {E : Type 0} (jobs : List BlockJob) (ys zs : List (Result TbOutcome E)) (y : Result TbOutcome E) (d : BlockJob) → AllZip answers jobs (ys ++ y ∷ zs) →
    answers (get_or jobs (length ys) d) y
turn_answered [] [] zs y d z = absurd z
turn_answered [] (x ∷ ys) zs y d z = absurd z
turn_answered (j ∷ jobs) [] zs y d z = z.0
turn_answered (j ∷ jobs) (x ∷ ys) zs y d z = turn_answered jobs ys zs y d z.1

-- as many answers as jobs
pub answered_all_of : {E : Type 0} (jobs : List BlockJob) (ys : List (Result TbOutcome E)) → AllZip answers jobs ys → length ys ≡ length jobs
answered_all_of [] [] z = refl
answered_all_of [] (y ∷ ys) z = absurd z
answered_all_of (j ∷ jobs) [] z = absurd z
answered_all_of (j ∷ jobs) (y ∷ ys) z = ap suc (answered_all_of jobs ys z.1)

-- the answers of the first jobs, with one more
zip_suc : {E : Type 0} (jobs : List BlockJob) (ys : List (Result TbOutcome E)) (i : ℕ) (y : Result TbOutcome E) (d : BlockJob) → i < length jobs →
    AllZip answers (take i jobs) ys → answers (get_or jobs i d) y → AllZip answers (take (suc i) jobs) (ys ++ y ∷ [])
zip_suc [] ys i y d within z a = absurd (omega (arith, within))
zip_suc (j ∷ jobs) [] zero y d within z a = (a, tt)
zip_suc (j ∷ jobs) (x ∷ ys) zero y d within z a = absurd z
zip_suc (j ∷ jobs) [] (suc i) y d within z a = absurd z
zip_suc (j ∷ jobs) (x ∷ ys) (suc i) y d within z a = (z.0, zip_suc jobs ys i y d (omega (arith, within)) z.1 a)

pub zip_push : {E : Type 0} (jobs : List BlockJob) (ys : List (Result TbOutcome E)) (i : ℕ) (y : Result TbOutcome E) (d : BlockJob) → i < length jobs →
    AllZip answers (take i jobs) ys → answers (get_or jobs i d) y → AllZip answers (take (i + 1) jobs) (ys ++ y ∷ [])
zip_push jobs ys i y d within z a =
    let more : suc i ≡ i + 1 = omega arith in
    subst (λ (n : ℕ). AllZip answers (take n jobs) (ys ++ y ∷ [])) more (zip_suc jobs ys i y d within z a)
