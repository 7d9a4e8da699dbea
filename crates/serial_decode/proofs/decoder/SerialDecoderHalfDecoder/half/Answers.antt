use Rattle.std.proofs.Common.{◌≡◌, ℕ, ◌++◌, List, length, take, drop, sym, ap, ◌∙◌, arith}
use Rattle.std.proofs.lemmas.List.FromFn.{length-map-range_with_len}
use Rattle.model_receiver.specs.HalfIteration.{position_of, renewed}
use Rattle.half_iteration.specs.Runs.{start_of}
use Rattle.half_iteration.proofs.Parts.{written}
use Rattle.serial_decode.proofs.decoder.SerialDecoderHalfDecoder.half.Goals as goal

pub invariant_of-result-clause-all_places : goal.invariant_of-result-clause-all_places
invariant_of-result-clause-all_places c =
    let d = c.args.self in let b = start_of d.cells.items c.as_mut_slice.result.now in
    ap length c.decode_half-cells.ensures.cells
    ∙ length-map-range_with_len (λ n. renewed d.views.streams.now d.views.shape c.args.h b (position_of d.views.shape.k c.args.h n)) 0 d.views.shape.k

-- as many as were written
still : {X : Type 0} (n len : ℕ) (new items : List X) → len ≡ length items → length new ≡ length items → length items ≡ n → length (take len (new ++ drop (length new) items)) ≡ n
still n len new items ok el en = ap length (written len new items (el ∙ sym ok)) ∙ (el ∙ en)

pub invariant_of-result-clause-all_windows : goal.invariant_of-result-clause-all_windows
invariant_of-result-clause-all_windows c =
    let d = c.args.self in let half = c.decode_half-cells in
    let now = still d.views.shape.windows d.left_before_last.len half.new.left d.left_before_last.items d.left_before_last.ok.0
    (half.auto.left ∙ ap length c.as_mut_slice.ensures.value) d.all_windows_earlier in
    let last = d.all_windows in
    omega (arith, now, last)

pub invariant_of-result-clause-all_windows_earlier : goal.invariant_of-result-clause-all_windows_earlier
invariant_of-result-clause-all_windows_earlier c =
    let d = c.args.self in let half = c.decode_half-cells in
    let now = still d.views.shape.windows d.left_before_last.len half.new.left d.left_before_last.items d.left_before_last.ok.0
    (half.auto.left ∙ ap length c.as_mut_slice.ensures.value) d.all_windows_earlier in
    let last = d.all_windows in
    omega (arith, now, last)
