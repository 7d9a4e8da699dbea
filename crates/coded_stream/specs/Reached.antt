-- What contracts see of a reader, and how far it can have come.
use Rattle.std.specs.Prelude.{◌+◌, ◌*◌, ◌≤◌}
use Rattle.coded_stream.specs.declared.reader.StreamReader.TheInside.{Inside}
use Rattle.coded_stream.specs.Shown.{header_of}
use Rattle.coded_stream.specs.Steps.{Reading}

abbrev pub reading_of : Inside → Reading
reading_of r = record { header = header_of r.header; place = r.place; blocks = r.blocks; live = r.live }

-- at most 8 transmissions of 1,000,000 bytes and a length word for each block, after 68 bytes of header
pub record IsWithin (r : Inside) : Type 0 where
  pub few : r.blocks ≤ 4096
  pub place : r.place ≤ 68 + r.blocks * 8000004
