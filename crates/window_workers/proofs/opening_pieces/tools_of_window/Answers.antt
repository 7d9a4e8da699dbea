use Rattle.std.proofs.Common.{◌≡◌, ℕ, map, sym, ap, ◌∙◌, arith}
use Rattle.std.proofs.Math.Nat.{div-le_self}
use Rattle.lte_bits.specs.declared.block.SoftStreams.{SoftStreams}
use Rattle.model_sender.proofs.RowLaws.{range-of_size}
use Rattle.model_receiver.specs.HalfIteration.{Shape, window_width, positions, order, systematic_at, parity_at}
use Rattle.window_workers.proofs.opening_pieces.tools_of_window.Goals as goal

pub new-requires-3-clause-most : goal.new-requires-3-clause-most
new-requires-3-clause-most c =
    let shape = c.args.views.now.shape in
    let most = (range-of_size shape.k c.width.ensures.whole.size).1 in let value = c.width.ensures.value in
    let less = div-le_self shape.k shape.windows in omega (arith, most, value, less)

pub returns-clause-tools : goal.returns-clause-tools
returns-clause-tools c = λ job es ek.
    let soft = c.args.views.now.streams.now in let shape = c.args.views.now.shape in let t : ℕ = c.args.t in
    let same : (X : Type 0) (F : SoftStreams → Shape → X) → F soft shape ≡ F job.streams job.shape = λ X F i. F (sym es i) (sym ek i) in
    let natural = c.in_ok-natural.ensures in let interleaved = c.in_ok-interleaved.ensures in
    record {
      streams = c.of.ensures ∙ sym es;
      shape = c.of-2.ensures ∙ sym ek;
      natural = record {
        systematic = natural.systematic ∙ same _ (λ s x. map (systematic_at s x.k 0) (positions x t));
        parity = natural.parity ∙ same _ (λ s x. map (parity_at s 0) (positions x t));
        places = natural.places ∙ same _ (λ s x. map (order x.k 0) (positions x t));
      };
      interleaved = record {
        systematic = interleaved.systematic ∙ same _ (λ s x. map (systematic_at s x.k 1) (positions x t));
        parity = interleaved.parity ∙ same _ (λ s x. map (parity_at s 1) (positions x t));
        places = interleaved.places ∙ same _ (λ s x. map (order x.k 1) (positions x t));
      };
      room = (let e = c.in_ok-work.ensures in let wide : c.width.result ≡ window_width job.shape = c.width.ensures.value ∙ ap (λ (x : Shape). window_width x) (sym ek) in omega (arith, e, wide));
    }
