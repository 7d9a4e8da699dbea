use Rattle.std.proofs.Common.{◌≡◌, ℕ, ◌++◌, List, length, take, drop, sym, ap, ◌∙◌, arith}
use Rattle.std.proofs.lemmas.List.FromFn.{length-map-range_with_len}
use Rattle.model_receiver.specs.HalfIteration.{BordersLeft, position_of, renewed, after}
use Rattle.half_iteration.specs.Runs.{start_of}
use Rattle.half_iteration.proofs.Parts.{written}
use Rattle.lane_windows.proofs.decoder.LaneDecoderHalfDecoder.half.Goals as goal

-- as many as were written
still : {X : Type 0} (n len : ℕ) (new slice items : List X) → len ≡ length items → slice ≡ items → length new ≡ length slice → length items ≡ n
    → length (take len (new ++ drop (length new) items)) ≡ n
still n len new slice items ok es el en =
    ap length (written len new items (el ∙ (ap length es ∙ sym ok))) ∙ (el ∙ (ap length es ∙ en))

pub invariant_of-result : goal.invariant_of-result
invariant_of-result g c =
    let n = g.row.N in let d = c.args.self in let half = c.decode_half in let b = d.borders in
    let now = still n d.left_before_last.len half.new.left c.as_mut_slice-5.result.now d.left_before_last.items
    d.left_before_last.ok.0 c.as_mut_slice-5.ensures.value half.auto.left d.all_windows_earlier in
    let last = d.all_windows in
    record {
      room = omega (arith, d.room, half.ensures.room);
      border_room = record {
        alpha_in = still n b.alpha_in.len half.new.alpha_in c.as_mut_slice.result.now b.alpha_in.items b.alpha_in.ok.0 c.as_mut_slice.ensures.value half.auto.alpha_in d.border_room.alpha_in;
        beta_in = still n b.beta_in.len half.new.beta_in c.as_mut_slice-2.result.now b.beta_in.items b.beta_in.ok.0 c.as_mut_slice-2.ensures.value half.auto.beta_in d.border_room.beta_in;
        alpha_out = still n b.alpha_out.len half.new.alpha_out c.as_mut_slice-3.result.now b.alpha_out.items
            b.alpha_out.ok.0 c.as_mut_slice-3.ensures.value half.auto.alpha_out d.border_room.alpha_out;
        beta_out = still n b.beta_out.len half.new.beta_out c.as_mut_slice-4.result.now b.beta_out.items b.beta_out.ok.0 c.as_mut_slice-4.ensures.value half.auto.beta_out d.border_room.beta_out;
      };
      all_places = ap length half.ensures.cells
          ∙ length-map-range_with_len (λ i. renewed d.views.views.streams.now d.views.views.shape c.args.h (start_of d.banks c.as_mut_slice-5.result.now)
          (position_of d.views.views.shape.k c.args.h i)) 0 d.views.views.shape.k;
      all_windows = omega (arith, now, last);
      all_windows_earlier = omega (arith, now, last);
    }

pub returns-clause-before : goal.returns-clause-before
returns-clause-before g c =
    let d = c.args.self in let half = c.decode_half in let v = d.views.views in
    let after-start = λ (left : List BordersLeft). after v.streams.now v.shape c.args.h (start_of d.banks left) in
    let cells = half.ensures.cells ∙ ap (λ (left : List BordersLeft). (after-start left).cells) c.as_mut_slice-5.ensures.value in
    let left = written d.left_before_last.len half.new.left d.left_before_last.items (half.auto.left ∙ (ap length c.as_mut_slice-5.ensures.value ∙ sym d.left_before_last.ok.0))
    ∙ (half.ensures.left ∙ ap (λ (left : List BordersLeft). (after-start left).left) c.as_mut_slice-5.ensures.value) in
    λ i. record { cells = cells i; left = left i; left_before_last = d.left.items }
