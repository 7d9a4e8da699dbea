use Rattle.std.proofs.Common.{◌≡◌, ℕ, length, replicate, sym, ap, ◌∙◌, arith, rules}
use Rattle.model_sender.specs.Interleaver.{row_of}
use Rattle.qpp_table.specs.Qpp.{row_in}
use Rattle.model_receiver.specs.HalfIteration.{Shape, Before, none_left, tail_border}
use Rattle.half_iteration.proofs.Stopping.{before-none}
use Rattle.window_workers.proofs.opening_pieces.first_progress.Goals as goal

pub returns-clause-progress : goal.returns-clause-progress
returns-clause-progress c = λ job es ek.
    let k = c.k.ensures.value ∙ sym (ap (λ (s : Shape). s.k) ek) in
    record {
      shape = sym ek;
      interleaver = (let e : row_in c.unwrap-interleaver.result ≡ row_of c.k.result = search rules in e ∙ ap row_of k);
      even_tail = c.tail.ensures ∙ (λ i. tail_border (sym es i) (sym ek i).k 0);
      odd_tail = c.tail-2.ensures ∙ (λ i. tail_border (sym es i) (sym ek i).k 1);
      bits = (let e : length c.in_ok-vec-2.field-0.items ≡ c.k-2.result = search rules in e ∙ (c.k-2.ensures.value ∙ sym (ap (λ (s : Shape). s.k) ek)));
      left = (let e : c.in_ok-vec.field-0.items ≡ replicate c.windows.result none_left = search rules in e
          ∙ (ap (λ (n : ℕ). replicate n none_left) (c.windows.ensures.value ∙ sym (ap (λ (s : Shape). s.windows) ek))
          ∙ sym (ap (λ (b : Before). b.left) (before-none job.streams job.shape))));
      within = (let a = c.k.ensures.lawful.some_iterations in let e : job.shape.limit ≡ c.args.views.now.shape.limit = ap (λ (s : Shape). s.limit) ek in omega (arith, a, e));
      none_checked = λ m some lt. absurd (omega (arith, lt));
    }
