-- What `channel` makes of a hard stream: one of soft values with noise, in the same version.
use Rattle.std.specs.Prelude.{ℕ, List}
use Rattle.model_sender.specs.CircularBuffer.{Match}
use Rattle.soft_channel.specs.Channel.{NoiseChannel, strength_of, transmission_over}
use Rattle.soft_channel.specs.Noise.{noisy}
use Rattle.coded_stream.specs.Header.{Header}
use Rattle.coded_stream.specs.declared.kind.Kind.TheVariants as kind
use Rattle.coded_stream.specs.declared.kind.Want.TheVariants as want
use Rattle.stream_loop.specs.Handling.{Handling}
use Rattle.stream_loop.specs.SoftBytes.{bytes_of}
use Rattle.command_relay.specs.HardBits.{bits_in}
use Rattle.command_relay.specs.Conversions.{Conversion, handling_of}

abbrev pub noisy_text : NoiseChannel → Header → (block number : ℕ) → Match → (bytes : List ℕ) → List ℕ
noisy_text c h block number m bytes =
    bytes_of (noisy (strength_of c) (transmission_over c block number) (bits_in m bytes))

abbrev pub soft_header : Header → Header
soft_header h = record h { kind = kind.Soft }

abbrev pub noisy_conversion : NoiseChannel → Conversion
noisy_conversion c = record { want = want.Hard; header = soft_header; made = noisy_text c }

abbrev pub channel : NoiseChannel → Handling
channel c = handling_of (noisy_conversion c)
