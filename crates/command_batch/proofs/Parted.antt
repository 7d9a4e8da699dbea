-- The answer to a stream begins with the parts of the jobs that were made of its blocks.
use Rattle.std.proofs.Common.{◌≡◌, ℕ, suc, ◌+◌, List, [], ◌∷◌, length, refl, ap, sym, ◌∙◌, All, arith}
use Rattle.std.proofs.lemmas.Grind.{common_steps}
use Rattle.model_receiver.specs.Limits.{DecoderLimits}
use Rattle.coded_stream.specs.Header.{Header}
use Rattle.coded_stream.specs.Body.{Body}
use Rattle.run_loop.specs.Answer.{preceded_by, size_of}
use Rattle.stream_loop.specs.Handling.{Handled, body_answer, part, one_if}
use Rattle.command_decode.specs.Decoding.{decoding, decoded, handled}
use Rattle.command_batch.specs.Jobs.{block_in, blocks_in, IsJobOf}
use Rattle.command_batch.specs.Parts.{failures, handled_job, job_part, job_parts}
use Rattle.command_batch.specs.Reading.{onto_all, size_of_blocks}
use Rattle.command_batch.specs.declared.job.BlockJob.{BlockJob}

-- what a command makes of the block of a job
handled_same : (e : DecoderLimits) (h : Header) (number : ℕ) (j : BlockJob) → IsJobOf e h j → (decoding e).block h number (block_in j) ≡ handled_job number j
handled_same e h number j is =
    ap (λ (f : DecoderLimits). handled number (decoded f h (block_in j))) (sym is.0)
    ∙ ap (λ (k : Header). handled number (decoded j.limits k (block_in j))) (sym is.1)

pub answered_jobs : (e : DecoderLimits) (h : Header) (number failed : ℕ) (jobs : List BlockJob) (rest : Body) → All (IsJobOf e h) jobs →
    body_answer (decoding e) h number failed (onto_all (blocks_in jobs) rest)
    ≡ preceded_by (job_parts number jobs) (body_answer (decoding e) h (number + length jobs) (failed + failures number jobs) rest)
answered_jobs e h number failed [] rest are =
    ap (λ (n : ℕ). body_answer (decoding e) h n failed rest) (let a : number ≡ number + 0 = omega arith in a)
    ∙ ap (λ (n : ℕ). body_answer (decoding e) h (number + 0) n rest) (let a : failed ≡ failed + 0 = omega arith in a)
answered_jobs e h number failed (j ∷ jobs) rest all_are =
    let one : IsJobOf e h j = all_are 0 j (omega arith) in
    let others : All (IsJobOf e h) jobs = λ k d inside. all_are (suc k) d (omega (arith, inside)) in
    let w = decoding e in
    let b = block_in j in
    let same = handled_same e h number j one in
    let all = onto_all (blocks_in jobs) rest in
    let f = one_if (handled_job number j).failed in
    ap (λ (x : Handled). preceded_by (part x b ∷ []) (body_answer w h (number + 1) (failed + one_if x.failed) all)) same
    ∙ ap (preceded_by (job_part number j ∷ [])) (answered_jobs e h (number + 1) (failed + f) jobs rest others)
    ∙ ap (λ (n : ℕ). preceded_by (job_parts number (j ∷ jobs)) (body_answer w h n (failed + f + failures (number + 1) jobs) rest))
    (let a : number + 1 + length jobs ≡ number + length (j ∷ jobs) = omega arith in a)
    ∙ ap (λ (n : ℕ). preceded_by (job_parts number (j ∷ jobs)) (body_answer w h (number + length (j ∷ jobs)) n rest))
    (let a : failed + f + failures (number + 1) jobs ≡ failed + failures number (j ∷ jobs) = omega arith in a)

pub length-parts : (number : ℕ) (jobs : List BlockJob) → length (job_parts number jobs) ≡ length jobs
length-parts number [] = refl
length-parts number (j ∷ jobs) = ap suc (length-parts (number + 1) jobs)

pub size-parts : (number : ℕ) (jobs : List BlockJob) → size_of (job_parts number jobs) ≡ size_of_blocks (blocks_in jobs)
size-parts number [] = refl
size-parts number (j ∷ jobs) = grind (arith, common_steps, size-parts (number + 1) jobs)
