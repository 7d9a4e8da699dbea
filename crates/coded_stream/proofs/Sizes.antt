-- Bounds of the sizes of transmissions.
use Rattle.std.proofs.Common.{ℕ, ◌*◌, ◌%◌, ◌≤◌, ◌&&◌, nat_le, ◌==◌, arith}
use Rattle.std.proofs.lemmas.Bool.{and_parts, leb-true}
use Rattle.model_sender.specs.CircularBuffer.{Match}
use Rattle.rate_match.specs.Matching.{IsMatch}
use Rattle.coded_stream.specs.Blocks.{transmission_size}
use Rattle.coded_stream.specs.declared.kind.Kind.{Kind}
use Rattle.coded_stream.specs.declared.kind.Kind.TheVariants.{Hard, Soft}

-- G is from 1 to 1,000,000
pub record IsBounded (g : ℕ) : Type 0 where
  pub some : 1 ≤ g
  pub few : g ≤ 1000000

pub match_bounded : (m : Match) → IsMatch m → IsBounded m.g
match_bounded m is =
    let parts = and_parts (nat_le 1 m.g && nat_le m.g 1000000) (m.g % (m.nl * m.qm) == 0) is.g in
    let bounds = and_parts (nat_le 1 m.g) (nat_le m.g 1000000) parts.0 in
    record { some = leb-true 1 m.g bounds.0; few = leb-true m.g 1000000 bounds.1 }

-- and so are the bytes of a transmission
pub size-bounded : (kind : Kind) (g : ℕ) → IsBounded g → IsBounded (transmission_size kind g)
size-bounded Hard g is = record { some = omega (arith, is.some); few = omega (arith, is.few) }
size-bounded Soft g is = is
