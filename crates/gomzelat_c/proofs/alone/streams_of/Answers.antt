use Rattle.std.proofs.Common.{◌≡◌, ℕ, ◌+◌, ℤ, pos, List, take, drop, ap, ◌∙◌}
use Rattle.model_receiver.specs.SoftCells.{begun_with}
use Rattle.soft_buffers.proofs.StreamCells.{cut-is, streams_with}
use Rattle.gomzelat_c.proofs.alone.streams_of.Goals as goal

pub returns : goal.returns
returns c =
    let values : List ℤ = c.args.values.now in
    let f : ℕ = c.args.fill in
    let w : ℕ = c.args.k + 4 in
    let rest : c.split_at.result.1.now ≡ drop w values = c.split_at.ensures.back in
    let d0 : c.in_ok-begun_with.field-0 ≡ begun_with f (pos 127) (take w values) =
    c.in_ok-begun_with.ensures ∙ ap (λ (v : ℤ). begun_with f v c.split_at.result.0.now) c.from_i8.ensures ∙ ap (begun_with f (pos 127)) c.split_at.ensures.front in
    let d1 : c.in_ok-begun_with-2.field-0 ≡ begun_with f (pos 0) (take w (drop w values)) =
    c.in_ok-begun_with-2.ensures ∙ ap (begun_with f (pos 0)) (c.split_at-2.ensures.front ∙ ap (take w) rest) in
    let d2 : c.in_ok-begun_with-3.field-0 ≡ drop w (drop w values) =
    c.in_ok-begun_with-3.ensures ∙ c.split_at-2.ensures.back ∙ ap (drop w) rest in
    streams_with f d0 d1 d2 ∙ cut-is c.args.k f values c.requires.values
