use Rattle.std.proofs.Common.{◌≡◌, ℕ, ◌≤◌, ◌*◌, ◌+◌, length, true, ap, sym, subst, ◌∙◌, arith}
use Rattle.std.proofs.lemmas.Result.{err_from_is_err_and}
use Rattle.model_receiver.specs.Limits.{DecoderLimits}
use Rattle.coded_stream.specs.Header.{Header, kind_code}
use Rattle.coded_stream.specs.Opening.{is_wanted}
use Rattle.coded_stream.specs.Steps.{Reading}
use Rattle.coded_stream.specs.declared.kind.Want.TheVariants as want
use Rattle.run_loop.specs.Step.{Gives}
use Rattle.run_loop.specs.declared.work.Round.{Round}
use Rattle.stream_loop.specs.Rounds.{IsReady}
use Rattle.command_decode.specs.Decoding.{decoding}
use Rattle.command_batch.specs.Batch.{batch_ahead}
use Rattle.command_batch.specs.Reading.{Counts}
use Rattle.command_batch.specs.Parts.{StopsAs, failures, job_parts}
use Rattle.command_batch.proofs.Made.{failures_few}
use Rattle.command_batch.proofs.RoundSteps.{fewer_of, full_of, gives_round, starved_before, starved_round, stops_by}
use Rattle.command_batch.proofs.rounds.BatchRoundsWork.round.Goals as goal

pub returns-in_default-clause-step : goal.returns-in_default-clause-step
returns-in_default-clause-step g c input told =
    let s = c.args.self.now in
    starved_before s.jobs.limits (g.R.Runner.pipes s.runner) s.failed s.jobs.reader input (g.S.Source.left c.args.source.now)

pub returns-in_err-parts-clause-step : goal.returns-in_err-parts-clause-step
returns-in_err-parts-clause-step g c input told =
    let s = c.args.self.now in
    let read = c.read_jobs-reached in
    let N : ℕ → Type 0 = λ n. Counts (length read.new.jobs.items) (2 * n) read.new.self.reader read.result in
    let counts = subst N c.pipes-most.ensures.value read.ensures.counts in
    let some : 1 ≤ g.R.Runner.pipes s.runner = omega (arith, c.pipes-most.ensures.some, c.pipes-most.ensures.value) in
    let p = err_from_is_err_and c.from_residual.result c.from_residual.ensures.1 in
    rw (p.1, p.2)
    (starved_round s.jobs.limits (g.R.Runner.pipes s.runner) s.failed s.jobs.reader read.new.self.reader input read.new.jobs.items (g.S.Source.left c.args.source.now)
    (g.S.Source.left read.new.source) read.result
    some read.ensures.jobs (read.ensures.comes input told) counts)

pub overflow_add-self : goal.overflow_add-self
overflow_add-self g c =
    let r = c.args.self.now.jobs.reader in
    let jobs = c.read_jobs-reached.new.jobs.items in
    let counted = c.in_ok-parts.ensures.failed ∙ ap (failures c.blocks-first.result) c.as_slice.ensures.value ∙ ap (λ (n : ℕ). failures n jobs) c.blocks-first.ensures in
    omega (arith, counted, failures_few r.blocks jobs, c.requires.1.few, c.read_jobs-reached.ensures.passes.blocks, c.read_jobs-reached.ensures.within)

pub stop_of-requires-clause-failed : goal.stop_of-requires-clause-failed
stop_of-requires-clause-failed g c =
    let r = c.args.self.now.jobs.reader in
    let jobs = c.read_jobs-reached.new.jobs.items in
    let counted = c.in_ok-parts.ensures.failed ∙ ap (failures c.blocks-first.result) c.as_slice.ensures.value ∙ ap (λ (n : ℕ). failures n jobs) c.blocks-first.ensures in
    omega (arith, counted, failures_few r.blocks jobs, c.requires.1.few, c.read_jobs-reached.ensures.passes.blocks, c.blocks-2.ensures)

pub returns-in_err-stop-clause-step : goal.returns-in_err-stop-clause-step
returns-in_err-stop-clause-step g c input told =
    let s = c.args.self.now in
    let read = c.read_jobs-reached in
    let N : ℕ → Type 0 = λ n. Counts (length read.new.jobs.items) (2 * n) read.new.self.reader read.result in
    let counts = subst N c.pipes-most.ensures.value read.ensures.counts in
    let some : 1 ≤ g.R.Runner.pipes s.runner = omega (arith, c.pipes-most.ensures.some, c.pipes-most.ensures.value) in
    let p = err_from_is_err_and c.from_residual-in_err-stop.result c.from_residual-in_err-stop.ensures.1 in
    rw (p.1, p.2)
    (starved_round s.jobs.limits (g.R.Runner.pipes s.runner) s.failed s.jobs.reader read.new.self.reader input read.new.jobs.items (g.S.Source.left c.args.source.now)
    (g.S.Source.left read.new.source) read.result
    some read.ensures.jobs (read.ensures.comes input told) counts)

pub returns-clause-step : goal.returns-clause-step
returns-clause-step g c input told =
    let s = c.args.self.now in
    let e = s.jobs.limits in
    let r = s.jobs.reader in
    let read = c.read_jobs-reached in
    let jobs = read.new.jobs.items in
    let source = g.S.Source.left c.args.source.now in
    let left = g.S.Source.left read.new.source in
    let failed = s.failed + c.in_ok-parts.failed in
    let round : Round = record { parts = c.in_ok-parts.parts; stop = c.in_ok-stop.stop } in
    let counted = c.in_ok-parts.ensures.failed ∙ ap (failures c.blocks-first.result) c.as_slice.ensures.value ∙ ap (λ (n : ℕ). failures n jobs) c.blocks-first.ensures in
    let made = c.in_ok-parts.ensures.parts ∙ ap (job_parts c.blocks-first.result) c.as_slice.ensures.value ∙ ap (λ (n : ℕ). job_parts n jobs) c.blocks-first.ensures in
    let M : ℕ → Type 0 = λ n. Counts (length jobs) (2 * n) read.new.self.reader read.result in
    let counts = subst M c.pipes-most.ensures.value read.ensures.counts in
    let some : 1 ≤ g.R.Runner.pipes s.runner = omega (arith, c.pipes-most.ensures.some, c.pipes-most.ensures.value) in
    let N : ℕ → Type 0 = λ n. StopsAs e r.header n failed read.result c.in_ok-stop.stop in
    let stops = subst N c.blocks-2.ensures (c.in_ok-stop.ensures e r.header) in
    let G : DecoderLimits → Reading → Type 0 =
    λ x t. Gives (batch_ahead e (g.R.Runner.pipes s.runner) r s.failed input) (batch_ahead x (g.R.Runner.pipes s.runner) t failed) source left round in
    let gives : G s.jobs.limits read.new.self.reader =
    gives_round e (g.R.Runner.pipes s.runner) s.failed failed r read.new.self.reader input jobs source left read.result round read.ensures.jobs (read.ensures.comes input told) read.ensures.passes
    (ap (λ (n : ℕ). s.failed + n) counted) made stops
    (starved_round e (g.R.Runner.pipes s.runner) s.failed r read.new.self.reader input jobs source left read.result some read.ensures.jobs (read.ensures.comes input told) counts) in
    subst (λ (x : DecoderLimits). G x c.keep_rooms.new.self.reader) (sym (c.keep_rooms.ensures.limits ∙ read.ensures.limits))
    (subst (λ (t : Reading). G s.jobs.limits t) (sym c.keep_rooms.ensures.reader) gives)

pub returns-clause-ready : goal.returns-clause-ready
returns-clause-ready g c go =
    let s = c.args.self.now in
    let e = s.jobs.limits in
    let r = s.jobs.reader in
    let read = c.read_jobs-reached in
    let t = read.new.self.reader in
    let jobs = read.new.jobs.items in
    let failed = s.failed + c.in_ok-parts.failed in
    let counted = c.in_ok-parts.ensures.failed ∙ ap (failures c.blocks-first.result) c.as_slice.ensures.value ∙ ap (λ (n : ℕ). failures n jobs) c.blocks-first.ensures in
    let full = full_of e r.header c.blocks-2.result failed _ _ t read.result c.in_ok-stop.stop (c.in_ok-stop.ensures e r.header) go read.ensures.counts in
    let H : Header → Type 0 = λ h. is_wanted want.Soft (kind_code h.kind) ≡ true in
    let R : Reading → Type 0 = λ x. IsReady (decoding c.keep_rooms.new.self.limits) x failed in (
      c.requires.0,
      subst R (sym c.keep_rooms.ensures.reader) (record {
        live = full.1;
        wanted = subst H (sym read.ensures.passes.header) c.requires.1.wanted;
        few = omega (arith, counted, failures_few r.blocks jobs, c.requires.1.few, read.ensures.passes.blocks);
        within = read.ensures.within;
      }),
    )

pub returns-clause-fewer : goal.returns-clause-fewer
returns-clause-fewer g c =
    let s = c.args.self.now in
    let e = s.jobs.limits in
    let r = s.jobs.reader in
    let read = c.read_jobs-reached in
    let t = read.new.self.reader in
    fewer_of _ _ c.in_ok-stop.stop (λ go.
    let full = full_of e r.header c.blocks-2.result (s.failed + c.in_ok-parts.failed) _ _ t read.result c.in_ok-stop.stop (c.in_ok-stop.ensures e r.header) go read.ensures.counts in
    omega (arith, full.0, c.pipes-most.ensures.some, read.ensures.passes.blocks, read.ensures.within, ap (λ (x : Reading). x.blocks) c.keep_rooms.ensures.reader))

pub returns-clause-stops : goal.returns-clause-stops
returns-clause-stops g c =
    let s = c.args.self.now in
    let e = s.jobs.limits in
    let read = c.read_jobs-reached in
    stops_by e s.jobs.reader.header c.blocks-2.result (s.failed + c.in_ok-parts.failed) _ _ read.result c.in_ok-stop.stop (c.in_ok-stop.ensures e s.jobs.reader.header) read.ensures.fault
