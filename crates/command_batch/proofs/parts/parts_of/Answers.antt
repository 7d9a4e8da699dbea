use Rattle.std.proofs.Common.{◌≡◌, ◌<◌, ◌+◌, ◌∷◌, ◌++◌, [], ℕ, Bool, true, false, List, length, take, get_or, map, refl, ap, sym, subst, ◌∙◌, append_assoc, arith}
use Rattle.std.proofs.lemmas.List.{length-append, map-append}
use Rattle.std.proofs.Math.Seq.{take-length}
use Rattle.std.specs.List.{AllZip}
use mir.Val.{bool_byte}
use Rattle.run_loop.specs.Answer.{Part}
use Rattle.run_loop.specs.Step.{part_of}
use Rattle.stream_loop.specs.Handling.{one_if}
use Rattle.command_batch.specs.Jobs.{answers}
use Rattle.command_batch.specs.Parts.{failures, handled_job, job_part, job_parts}
use Rattle.command_batch.specs.declared.job.BlockJob.{BlockJob}
use Rattle.command_batch.proofs.Made.{answered_all_of, failures_more, one_few, parts_more, turn_answered, turn_within}
use Rattle.command_batch.proofs.parts.parts_of.Goals as goal

pub bounds-jobs-i : goal.bounds-jobs-i
bounds-jobs-i c =
    let l = c.loop-received in
    let z = subst (λ ys. AllZip answers c.args.jobs.now ys) (l.invariant.all ∙ ap (λ zs. l.yielded ++ zs) c.in-Some.ensures.steps.0) c.requires.answers in
    omega (arith, c.len-i.ensures, l.parts.ok.0, l.invariant.count, turn_within c.args.jobs.now l.yielded _ c.in-Some.received z)

pub offset_bounds-jobs-i : goal.offset_bounds-jobs-i
offset_bounds-jobs-i c = let n = bounds-jobs-i c in omega (arith, n, c.requires.few)

pub part_of-requires : goal.part_of-requires
part_of-requires c =
    let l = c.loop-received in
    let jobs = c.args.jobs.now in
    let z = subst (λ ys. AllZip answers jobs ys) (l.invariant.all ∙ ap (λ zs. l.yielded ++ zs) c.in-Some.ensures.steps.0) c.requires.answers in
    let there : c.len-i.result ≡ length l.yielded = omega (arith, c.len-i.ensures, l.parts.ok.0, l.invariant.count) in
    record {
      answers = subst (λ (j : BlockJob). answers j c.in-Some.received) (sym c.index-jobs-i.is)
          (subst (λ (i : ℕ). answers (get_or jobs i c.index-jobs-i.result) c.in-Some.received) (sym there) (turn_answered jobs l.yielded _ c.in-Some.received c.index-jobs-i.result z));
    }

byte_of : (failed : Bool) → bool_byte failed ≡ one_if failed
byte_of true = refl
byte_of false = refl

pub loop-received-preserved : goal.loop-received-preserved
loop-received-preserved c =
    let l = c.loop-received in
    let jobs = c.args.jobs.now in
    let first = c.args.first in
    let i = c.len-i.result in
    let d = c.index-jobs-i.result in
    let part = c.in_ok-part.part in
    let there : i ≡ length l.yielded = omega (arith, c.len-i.ensures, l.parts.ok.0, l.invariant.count) in
    let z = subst (λ ys. AllZip answers jobs ys) (l.invariant.all ∙ ap (λ zs. l.yielded ++ zs) c.in-Some.ensures.steps.0) c.requires.answers in
    let within : i < length jobs = omega (arith, there, turn_within jobs l.yielded _ c.in-Some.received z) in
    let one : length (l.yielded ++ c.in-Some.received ∷ []) ≡ length l.yielded + 1 = length-append l.yielded (c.in-Some.received ∷ []) in
    let next : i + 1 ≡ length (l.yielded ++ c.in-Some.received ∷ []) = omega (arith, one, there) in
    let pushed = c.in_ok-push.ensures.items in
    let failed = c.in_ok-part.failed in
    let more = failures_more first jobs i d within in
    let same = ap one_if (c.in_ok-part.ensures.1 ∙ ap (λ (j : BlockJob). (handled_job (first + i) j).failed) c.index-jobs-i.is) in
    let before = l.invariant.failed ∙ ap (λ (n : ℕ). failures first (take n jobs)) (sym there) in
    let after = ap (λ (n : ℕ). failures first (take n jobs)) next in
    let byte = c.from-failures.ensures ∙ byte_of failed in
    record {
      all = l.invariant.all ∙ ap (λ zs. l.yielded ++ zs) c.in-Some.ensures.steps.0 ∙ sym (append_assoc l.yielded (c.in-Some.received ∷ []) _);
      count = omega (arith, ap length pushed, length-append l.parts.items (part ∷ []), one, l.invariant.count);
      parts = ap (map part_of) pushed
          ∙ map-append part_of l.parts.items (part ∷ [])
          ∙ ap (λ (ps : List Part). ps ++ part_of part ∷ []) (l.invariant.parts ∙ ap (λ (n : ℕ). job_parts first (take n jobs)) (sym there))
          ∙ ap (λ (p : Part). job_parts first (take i jobs) ++ p ∷ []) (c.in_ok-part.ensures.0 ∙ ap (job_part (first + i)) c.index-jobs-i.is)
          ∙ sym (parts_more first jobs i d within)
          ∙ ap (λ (n : ℕ). job_parts first (take n jobs)) next;
      failed = omega (arith, before, byte, same, more, after);
      few = omega (arith, byte, one_few failed, one, l.invariant.few);
    }

all_done : (c : goal.After-drop-received-iterator-2) → length c.loop-received.yielded ≡ length c.args.jobs.now
all_done c =
    let l = c.loop-received in
    let rest = l.received-iterator.rest in
    omega (arith, ap length l.invariant.all, length-append l.yielded rest.items, rest.ok.0, c.in-None.ensures.steps.0, answered_all_of c.args.jobs.now c.args.outcomes c.requires.answers)

pub returns-clause-parts : goal.returns-clause-parts
returns-clause-parts c =
    let jobs = c.args.jobs.now in
    c.loop-received.invariant.parts ∙ ap (λ (n : ℕ). job_parts c.args.first (take n jobs)) (all_done c) ∙ ap (job_parts c.args.first) (take-length jobs)

pub returns-clause-failed : goal.returns-clause-failed
returns-clause-failed c =
    let jobs = c.args.jobs.now in
    c.loop-received.invariant.failed ∙ ap (λ (n : ℕ). failures c.args.first (take n jobs)) (all_done c) ∙ ap (failures c.args.first) (take-length jobs)
