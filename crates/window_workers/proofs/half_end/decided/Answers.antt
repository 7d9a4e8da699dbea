use Rattle.std.proofs.Common.{◌≡◌, ℕ, suc, ◌+◌, ◌-◌, ◌*◌, ◌%◌, ◌/◌, ◌≤◌, List, length, sym, ap, ◌∙◌, refl, subst, arith}
use Rattle.std.specs.Prelude.{◌↔◌, IsTrue, IsFalse}
use Rattle.lte_bits.specs.declared.bit.Bit.{Bit}
use Rattle.model_sender.specs.CheckBits.{IsMultiple}
use Rattle.model_receiver.specs.declared.result.CheckKind.{CheckKind}
use Rattle.cell_shares.specs.Shares.{cell_values}
use Rattle.model_receiver.specs.Decoding.{generator}
use Rattle.half_iteration.proofs.Parts.{written}
use Rattle.half_iteration.proofs.Stopping.{result_with}
use Rattle.window_workers.specs.Commons.{IsResultAt}
use Rattle.window_workers.specs.Pieces.{job_of_piece}
use Rattle.window_workers.proofs.HalfCells.{cells-long}
use Rattle.window_workers.proofs.Verdicts.{odd-half, some-iteration, checked-bits, fails-of, none_checked-more, result-of_half}
use Rattle.window_workers.proofs.half_end.decided.Goals as goal
use Rattle.window_workers.proofs.half_end.decided.Goals.{else-not-passed-via-then-not-passed+else-iteration-limit, else-not-passed-via-else-not-passed}

pub decide-requires-clause-fill : goal.decide-requires-clause-fill
decide-requires-clause-fill c =
    let job = job_of_piece c.args.about.now.value in
    let long : length (cell_values c.args.cells.now) ≡ job.shape.k = ap length c.requires.cells ∙ cells-long job.streams job.shape (suc c.args.half) in
    let fill = c.f-fill.ensures.value ∙ ap (λ s. s.f) c.requires.progress.shape in
    let filled = c.requires.job.shape.filled in
    omega (arith, long, fill, filled)

pub decide-requires-clause-long : goal.decide-requires-clause-long
decide-requires-clause-long c =
    let job = job_of_piece c.args.about.now.value in
    ap length c.as_mut_slice.ensures.value ∙ (c.requires.progress.bits ∙ sym (ap length c.requires.cells ∙ cells-long job.streams job.shape (suc c.args.half)))

pub returns-then-iteration-limit-clause-undecided : goal.returns-then-iteration-limit-clause-undecided
returns-then-iteration-limit-clause-undecided c =
    let job = job_of_piece c.args.about.now.value in let was = c.requires.progress in let h : ℕ = c.args.half in let n : ℕ = (h + 1) / 2 in
    let odd : h % 2 ≡ 1 = (let no = c.if-half-eq0.false in omega (arith, no)) in
    let eh : h ≡ 2 * n - 1 = odd-half h n odd refl in let one : 1 ≤ n = some-iteration h n odd refl in
    let limit = c.limit.ensures.value ∙ ap (λ s. s.limit) was.shape in
    let long = c.decide.auto.bits ∙ ap length c.as_mut_slice.ensures.value in
    let wrote = written c.args.progress.bits.len c.decide.new.bits c.args.progress.bits.items (long ∙ sym c.args.progress.bits.ok.0) in
    let bits = checked-bits job h n c.f-fill.result (cell_values c.args.cells.now) c.decide.new.bits (c.f-fill.ensures.value ∙ ap (λ s. s.f) was.shape) eh c.requires.cells c.decide.ensures in
    record {
      shape = was.shape;
      interleaver = was.interleaver;
      even_tail = was.even_tail;
      odd_tail = was.odd_tail;
      bits = ap length wrote ∙ (long ∙ was.bits);
      left = was.left;
      within = (let less = c.if-iteration-limit.true in omega (arith, eh, one, limit, less));
      none_checked = none_checked-more job h n eh one was.none_checked
          (fails-of job n c.kind.result c.as_slice.result.now c.holds-passed.result (c.kind.ensures.value ∙ ap (λ s. s.kind) was.shape)
          (c.as_slice.ensures.value ∙ (wrote ∙ bits)) c.holds-passed.ensures (λ yes. let no = c.if-not-passed.true in absurd (cc)));
    }

pub returns-clause-result : goal.returns-clause-result
returns-clause-result c =
    let job = job_of_piece c.args.about.now.value in let was = c.requires.progress in let h : ℕ = c.args.half in let n : ℕ = (h + 1) / 2 in
    let odd : h % 2 ≡ 1 = (let no = c.if-half-eq0.false in omega (arith, no)) in
    let eh : h ≡ 2 * n - 1 = odd-half h n odd refl in let one : 1 ≤ n = some-iteration h n odd refl in
    let long = c.decide.auto.bits ∙ ap length c.as_mut_slice.ensures.value in
    let wrote = written c.args.progress.bits.len c.decide.new.bits c.args.progress.bits.items (long ∙ sym c.args.progress.bits.ok.0) in
    let fill = c.f-fill.ensures.value ∙ ap (λ s. s.f) was.shape in
    let bits = checked-bits job h n c.f-fill.result (cell_values c.args.cells.now) c.decide.new.bits fill eh c.requires.cells c.decide.ensures in
    let kind = c.kind.ensures.value ∙ ap (λ s. s.kind) was.shape in
    let last : IsFalse c.holds-passed.result → job.shape.limit ≤ n = λ no. elim c.else-not-passed.branch [
      | else-not-passed-via-then-not-passed+else-iteration-limit w ↦ (let limit = w.limit.ensures.value ∙ ap (λ s. s.limit) was.shape in let most =
          w.if-iteration-limit.false in omega (arith, limit, most))
      | else-not-passed-via-else-not-passed w ↦ (let yes = w.if-not-passed.false in absurd (cc))
    ] in
    let check : IsTrue c.holds-passed.result ↔ IsMultiple (generator job.shape.kind) c.decide.new.bits =
    subst (λ (k : CheckKind). IsTrue c.holds-passed.result ↔ IsMultiple (generator k) c.decide.new.bits) kind
    (subst (λ (bs : List Bit). IsTrue c.holds-passed.result ↔ IsMultiple (generator c.kind.result) bs) (c.as_slice.ensures.value ∙ wrote) c.holds-passed.ensures) in
    let is : c.result_in.result ≡ result_with job.shape.f c.decide.new.bits n c.holds-passed.result =
    c.result_in.ensures ∙ (ap (λ (bs : List Bit). result_with c.f-fill.result bs n c.holds-passed.result) wrote
    ∙ ap (λ (f : ℕ). result_with f c.decide.new.bits n c.holds-passed.result) fill) in
    subst (IsResultAt job h) (sym is)
    (result-of_half job h n c.decide.new.bits c.holds-passed.result c.requires.job eh one was.within was.none_checked bits check last)
