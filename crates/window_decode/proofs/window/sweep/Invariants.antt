use Rattle.std.proofs.Common.{◌≡◌, ℕ, ◌-◌, ◌<◌, length, map, to_z, w16}
use Rattle.model_receiver.specs.Borders.{IsBorder}
use Rattle.model_receiver.specs.Paths.{gain}
use Rattle.model_receiver.specs.Windows.{window_between}
use Rattle.window_decode.specs.Metrics.{IsForwardRow, IsBackwardRow, row_at}
use Rattle.window_decode.proofs.Spread.{IsNarrow}
use Rattle.window_decode.proofs.WindowSweep.{Renewed}
use Rattle.window_decode.proofs.window.sweep.Given as goal

abbrev pub invariant-loop-j : goal.invariant-loop-j
invariant-loop-j g l =
    let cells = g.S.Strip.cells l.strip in
    let w = window_between l.alpha_in l.beta_in (g.S.Strip.systematic l.strip) (g.S.Strip.parity l.strip) cells in
    record {
      row : IsForwardRow l.alpha_in (gain w) l.j (map (to_z w16) l.before);
      border : IsBorder l.alpha_in;
      rows : (i : ℕ) → i < l.j → IsForwardRow l.alpha_in (gain w) i (row_at l.rows.items i);
      narrow : (i : ℕ) → i < l.j → IsNarrow (gain w) i;
      room : length l.rows.items ≡ length l.initial.rows.items;
    }

abbrev pub invariant-loop-i : goal.invariant-loop-i
invariant-loop-i g l =
    let cells = g.S.Strip.cells l.initial.strip in
    let n = length cells in
    let w = window_between l.alpha_in l.beta_in (g.S.Strip.systematic l.initial.strip) (g.S.Strip.parity l.initial.strip) cells in
    record {
      row : IsBackwardRow l.beta_in (gain w) (n - l.i) l.i (map (to_z w16) l.after);
      border : IsBorder l.beta_in;
      cells : Renewed w cells (g.S.Strip.cells l.strip) l.i;
      systematic : g.S.Strip.systematic l.strip ≡ g.S.Strip.systematic l.initial.strip;
      parity : g.S.Strip.parity l.strip ≡ g.S.Strip.parity l.initial.strip;
      rest : g.S.Strip.rest l.strip ≡ g.S.Strip.rest l.initial.strip;
    }
