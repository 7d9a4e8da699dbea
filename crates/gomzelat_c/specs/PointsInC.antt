-- Points as a caller tells them, and as they are told.
use Rattle.std.specs.Prelude.{ℕ, ◌*◌, ◌/◌, ◌%◌, ℤ, pos, neg_ℤ, Bool, ◌&&◌, ◌==◌, nat_le, int_le, List, [], ◌∷◌, length, map, take}
use Rattle.std.specs.List.{list_all}
use Rattle.lte_bits.specs.Packing.{unpacked}
use Rattle.qam_points.specs.Constellation.{mapped}
use Rattle.qam_points.specs.Demapping.{demapped}
use Rattle.qam_points.specs.declared.point.Point as plane
use Rattle.rate_match.specs.Matching.{is_qm}
use Rattle.gomzelat_c.specs.Tests.{Test, byte_count, is_from, test}
use Rattle.gomzelat_c.specs.declared.points.Point.{Point}
use Rattle.gomzelat_c.specs.declared.refusal.Refusal.TheVariants.{BadQm, BadBits, BadAmp, BadPoints, ShortOutput}

-- ---- What is tested.

-- so many bits a point
abbrev pub order_test : (qm : ℕ) → Test
order_test qm = test (is_qm qm) BadQm

-- a coordinate is from -4000 to 4000
abbrev pub is_near : ℤ → Bool
is_near z = int_le (neg_ℤ (pos 4000)) z && int_le z (pos 4000)

-- both are
abbrev pub is_nearby : Point → Bool
is_nearby p = is_near p.i && is_near p.q

-- so many bits to be mapped, which are in so many bytes, with room for so many points
abbrev pub map_tests : (bits bytes qm room : ℕ) → List Test
map_tests bits bytes qm room =
    order_test qm
    ∷ test (nat_le (byte_count bits) bytes) BadBits
    ∷ test (bits % qm == 0) BadPoints
    ∷ test (nat_le (bits / qm) room) ShortOutput
    ∷ []

-- points to be demapped, with room for so many soft values
abbrev pub demap_tests : List Point → (qm amp room : ℕ) → List Test
demap_tests points qm amp room =
    order_test qm
    ∷ test (is_from 1 127 amp) BadAmp
    ∷ test (list_all is_nearby points) BadPoints
    ∷ test (nat_le (qm * length points) room) ShortOutput
    ∷ []

-- ---- What is written.

-- a caller's point in the plane, and back
abbrev pub in_the_plane : Point → plane.Point
in_the_plane p = record { i = p.i; q = p.q }

abbrev pub for_the_caller : plane.Point → Point
for_the_caller p = record { i = p.i; q = p.q }

-- the points of the first so many bits of bytes
abbrev pub mapped_points : (qm count : ℕ) → (bytes : List ℕ) → List Point
mapped_points qm count bytes = map for_the_caller (mapped qm (take count (unpacked bytes)))

-- the soft values of received points
abbrev pub demapped_values : (qm amp : ℕ) → List Point → List ℤ
demapped_values qm amp points = demapped qm amp (map in_the_plane points)
