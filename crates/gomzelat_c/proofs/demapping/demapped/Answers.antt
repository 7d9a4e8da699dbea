use Rattle.std.proofs.Common.{List, sym, subst, ◌∙◌}
use Rattle.std.specs.Prelude.{All}
use Rattle.std.proofs.lemmas.List.Elements.{All-map}
use Rattle.qam_points.specs.Demapping.{IsNearby}
use Rattle.qam_points.specs.declared.point.Point as plane
use Rattle.gomzelat_c.specs.PointsInC.{in_the_plane}
use Rattle.gomzelat_c.proofs.SignalLengths.{demapped_long}
use Rattle.gomzelat_c.proofs.demapping.demapped.Goals as goal

pub demap-requires-clause-near : goal.demap-requires-clause-near
demap-requires-clause-near c =
    subst (λ (own : List plane.Point). All IsNearby own) (sym (c.as_slice.ensures ∙ c.in_ok-points.ensures))
    (All-map IsNearby in_the_plane c.args.points.now c.requires.near)

pub returns-clause-long : goal.returns-clause-long
returns-clause-long c =
    demapped_long c.demap.result c.args.qm c.args.amp c.as_slice.result.now c.args.points.now (c.as_slice.ensures ∙ c.in_ok-points.ensures) c.demap.ensures
