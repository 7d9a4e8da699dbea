-- What every row of the table keeps (36.212, table 5.1.3-3).
use Rattle.std.specs.Prelude.{◌<◌, ◌≤◌}
use Rattle.model_sender.specs.Interleaver.{Lawful}
use Rattle.model_sender.specs.declared.rows.Row.{Row}

-- it is lawful, and its numbers are small
pub record IsRow (r : Row) : Type 0 where
  pub lawful : Lawful r.0 r.1 r.2
  pub least : 40 ≤ r.0
  pub greatest : r.0 ≤ 6144
  pub first : r.1 < 1024
  pub second : r.2 < 1024
