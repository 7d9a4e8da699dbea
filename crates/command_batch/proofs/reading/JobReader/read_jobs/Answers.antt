use Rattle.std.proofs.Common.{◌≡◌, ℕ, List, [], ◌∷◌, ◌++◌, length, Ok, All, ap, sym, subst, ◌∙◌, arith}
use Rattle.std.proofs.lemmas.List.{length-append, map-append}
use Rattle.std.proofs.lemmas.List.Elements.{All-append, All-cons, All-nil}
use Rattle.std.specs.declared.option.Option.{Option}
use Rattle.std.specs.declared.result.Result.{Result}
use Rattle.edge_io.proofs.Known.{takes_bytes_then}
use Rattle.coded_stream.specs.Blocks.{Block}
use Rattle.coded_stream.specs.Steps.{Advances, GoesOn, Reading, remaining}
use Rattle.coded_stream.specs.declared.stop.StreamStop.{StreamStop}
use Rattle.command_batch.specs.Jobs.{block_in, blocks_in, IsJobOf}
use Rattle.command_batch.specs.Reading.{bytes_got, size_got, Came, OnJob}
use Rattle.command_batch.specs.declared.job.BlockJob.{BlockJob}
use Rattle.command_batch.proofs.Coming.{came_more}
use Rattle.command_batch.proofs.reading.JobReader.read_jobs.Goals as goal

pub loop-preserved : goal.loop-preserved
loop-preserved g c =
    let l = c.loop in
    let r = c.args.self.now.reader in
    let s = l.self.reader in
    let t = c.read_job.new.self.reader in
    let job = c.in-Ok-Some.job in
    let is = c.in-Ok-Some.is ∙ ap Ok c.in-Ok-Some.field-0-is in
    let mid = g.S.Source.left l.source in
    let new = g.S.Source.left c.read_job.new.source in
    let Moved : Result (Option BlockJob) StreamStop → Type 0 = λ o. Advances s t (bytes_got o) (size_got o) in
    let moved = subst Moved is c.read_job.ensures.advances in
    let On : List ℕ → Result (Option BlockJob) StreamStop → Type 0 = λ left o. GoesOn (remaining s left) (remaining t) (bytes_got o) mid new (size_got o) in
    let Of : Result (Option BlockJob) StreamStop → Type 0 = λ o. OnJob o (IsJobOf l.self.limits s.header) in
    let of : IsJobOf l.self.limits s.header job = subst Of is c.read_job.ensures.job in
    let same : IsJobOf c.args.self.now.limits r.header job =
    (of.0 ∙ l.invariant.limits, of.1 ∙ l.invariant.passes.header) in
    let pushed = c.push_reserved.ensures.items in
    let blocks : blocks_in l.jobs.items ++ block_in job ∷ [] ≡ blocks_in c.push_reserved.new.self.items =
    sym (ap blocks_in pushed ∙ map-append block_in l.jobs.items (job ∷ [])) in
    let one = length-append l.jobs.items (job ∷ []) in
    record {
      live = ap (λ (x : Reading). x.live) moved.2 ∙ l.invariant.live;
      limits = c.read_job.ensures.limits ∙ l.invariant.limits;
      came = λ input told.
          let had = l.invariant.came input told in
          let B : List Block → Type 0 = λ bs. (left : List ℕ) × Came r t input left bs (g.S.Source.left c.args.source.now) new in
          subst B blocks (came_more r s t input had.0 job.bytes job.payload (blocks_in l.jobs.items) (g.S.Source.left c.args.source.now) mid new had.1
          (subst (On had.0) is (c.read_job.ensures.goes_on had.0 had.1.mid_is)) moved);
      passes = record {
        header = ap (λ (x : Reading). x.header) moved.2 ∙ l.invariant.passes.header;
        blocks = omega (arith, ap (λ (x : Reading). x.blocks) moved.2, l.invariant.passes.blocks, ap length pushed, one);
      };
      count = omega (arith, ap length pushed, one, l.invariant.count);
      within = omega (arith, ap (λ (x : Reading). x.blocks) moved.2, moved.0);
      jobs = let P : List BlockJob → Type 0 = λ xs. All (IsJobOf c.args.self.now.limits r.header) xs in
          subst P (sym pushed) (All-append (IsJobOf c.args.self.now.limits r.header) l.jobs.items (job ∷ []) l.invariant.jobs
          (All-cons (IsJobOf c.args.self.now.limits r.header) job [] same (All-nil (IsJobOf c.args.self.now.limits r.header))));
      room = omega (arith, c.push_reserved.ensures.capacity, l.invariant.room);
      moved = takes_bytes_then _ _ _ l.invariant.moved c.read_job.ensures.moved;
      later = omega (arith, c.read_job.ensures.later, l.invariant.later);
    }

pub returns-in-Ok-None-clause-moved : goal.returns-in-Ok-None-clause-moved
returns-in-Ok-None-clause-moved g c = takes_bytes_then _ _ _ c.loop.invariant.moved c.read_job.ensures.moved

pub returns-in-Err-clause-moved : goal.returns-in-Err-clause-moved
returns-in-Err-clause-moved g c = takes_bytes_then _ _ _ c.loop.invariant.moved c.read_job.ensures.moved
