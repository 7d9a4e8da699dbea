-- The header of the program, as the definitions speak of it.
use Rattle.coded_stream.specs.declared.header.Header as rust
use Rattle.coded_stream.specs.Header.{Header}

abbrev pub header_of : rust.Header → Header
header_of h = record { version = h.version; kind = h.kind; tb = h.tb; sends = h.sends }
