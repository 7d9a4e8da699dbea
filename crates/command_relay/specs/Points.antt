-- What `points` makes of a hard stream: as `channel`, but with the bits sent as points of 36.211, 7.1.
use Rattle.std.specs.Prelude.{◌≡◌, ℕ, ◌*◌, ◌/◌, ℤ, List, All}
use Rattle.model_sender.specs.CircularBuffer.{Match}
use Rattle.soft_channel.specs.Channel.{NoiseChannel, transmission_over}
use Rattle.soft_channel.specs.Noise.{noise_terms}
use Rattle.qam_points.specs.Reception.{received}
use Rattle.coded_stream.specs.Header.{Header}
use Rattle.coded_stream.specs.Opening.{Opening, opens, refuses}
use Rattle.coded_stream.specs.declared.kind.Want.TheVariants as want
use Rattle.stream_loop.specs.Handling.{Handling}
use Rattle.stream_loop.specs.SoftBytes.{bytes_of}
use Rattle.command_relay.specs.Channel.{soft_header}
use Rattle.command_relay.specs.HardBits.{bits_in}
use Rattle.command_relay.specs.Conversions.{Conversion, handling_of}

-- the noise on a transmission's points, which are sent with Q_m bits each: a term for each coordinate
abbrev pub terms_on : NoiseChannel → (block number : ℕ) → Match → List ℤ
terms_on c block number m =
    noise_terms c.noise (transmission_over c block number) (2 * (m.g / m.qm))

abbrev pub received_text : NoiseChannel → Header → (block number : ℕ) → Match → (bytes : List ℕ) → List ℕ
received_text c h block number m bytes =
    bytes_of (received m.qm c.amp (terms_on c block number m) (bits_in m bytes))

abbrev pub point_conversion : NoiseChannel → Conversion
point_conversion c = record { want = want.Hard; header = soft_header; made = received_text c }

abbrev pub points : NoiseChannel → Handling
points c = handling_of (point_conversion c)

-- each transmission of a stream that begins so is sent with two bits a point; none is where the header is refused
abbrev pub HasTwoBitsAPoint : Opening → Type 0
HasTwoBitsAPoint (opens h left) = All (λ s. s.m.qm ≡ 2) h.sends
HasTwoBitsAPoint (refuses r) = Unit {0}
