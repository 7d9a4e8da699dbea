use Rattle.std.proofs.Common.{◌≡◌, ℕ, ◌+◌, length, map, ap, ◌∙◌, arith}
use Rattle.std.specs.List.{range_with_len}
use Rattle.model_sender.specs.Interleaver.{place}
use Rattle.model_sender.proofs.RowLaws.{range-of_size}
use Rattle.model_receiver.specs.Borders.{at}
use Rattle.half_iteration.specs.Views.{by_position}
use Rattle.half_iteration.proofs.ViewLists.{picks-below, picked-is}
use Rattle.half_iteration.proofs.views.Views.new.Goals as goal

pub own_order-requires : goal.own_order-requires
own_order-requires c =
    let range = range-of_size c.args.shape.now.k c.k-k.ensures.lawful.size in
    omega (arith, c.k-k.ensures.value, range.1)

pub picked-requires : goal.picked-requires
picked-requires c = λ i lt.
    let k : ℕ = c.args.shape.now.k in
    let order : c.as_slice-2.result.now ≡ map (place k) (range_with_len 0 k) =
    c.as_slice-2.ensures.value ∙ (c.in_ok-interleaved.ensures ∙ ap (λ (n : ℕ). map (place n) (range_with_len 0 n)) c.k-k.ensures.value) in
    let long : length c.as_slice.result.now ≡ k + 4 = ap length c.as_slice.ensures ∙ c.requires.d0 in
    picks-below k (length c.as_slice.result.now) c.as_slice-2.result.now c.k-k.ensures.lawful.size order (omega (arith, long)) i lt

pub invariant_of-result : goal.invariant_of-result
invariant_of-result c =
    let shape = c.args.shape.now in
    let order : c.in_ok-interleaved.interleaved.items ≡ by_position shape (place shape.k) =
    c.in_ok-interleaved.ensures ∙ ap (λ (n : ℕ). map (place n) (range_with_len 0 n)) c.k-k.ensures.value in
    record {
      filled = omega (arith, c.k-k.ensures.lawful.filled);
      whole = c.requires;
      in_order = c.in_ok-natural.ensures ∙ ap (λ (n : ℕ). map (λ (i : ℕ). i) (range_with_len 0 n)) c.k-k.ensures.value;
      in_second_order = order;
      read_in_second_order = picked-is c.args.streams.now shape c.in_ok-interleaved.interleaved.items c.in_ok-systematic.systematic.items order
          (c.in_ok-systematic.ensures ∙ (ap (λ ps. map (at c.as_slice.result.now) ps) c.as_slice-2.ensures.value
          ∙ ap (λ xs. map (at xs) c.in_ok-interleaved.interleaved.items) c.as_slice.ensures));
    }
