-- What `upgrade` makes of a stream: the same blocks in version Two.
use Rattle.coded_stream.specs.Header.{Header}
use Rattle.coded_stream.specs.declared.kind.Want.TheVariants.{Any}
use Rattle.coded_stream.specs.declared.version.Version.TheVariants.{Two}
use Rattle.stream_loop.specs.Handling.{Handling}
use Rattle.command_relay.specs.Conversions.{Conversion, handling_of}

abbrev pub upgraded : Header → Header
upgraded h = record h { version = Two }

-- each transmission is sent as it was read
abbrev pub as_read : Conversion
as_read = record { want = Any; header = upgraded; made = λ h block number m bytes. bytes }

abbrev pub upgrade : Handling
upgrade = handling_of as_read
