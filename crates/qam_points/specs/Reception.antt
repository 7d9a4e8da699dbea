-- A transmission that was sent as points, and what is received of it: this project's own.
use Rattle.std.specs.Prelude.{ℕ, ◌+◌, ◌*◌, ℤ, pos, ◌+ℤ◌, ◌*ℤ◌, List, length, map, slice_index_or}
use Rattle.std.specs.List.{range_with_len}
use Rattle.lte_bits.specs.Softs.{clamped}
use Rattle.lte_bits.specs.declared.bit.Bit.{Bit}
use Rattle.lte_bits.specs.declared.bit.Bit.TheVariants.{Zero}
use Rattle.qam_points.specs.Constellation.{mapped, sign}
use Rattle.qam_points.specs.Demapping.{demapped}
use Rattle.qam_points.specs.declared.point.Point.{Point}

-- the point that is sent in symbol s
abbrev pub sent_point : List Point → (s : ℕ) → Point
sent_point points s = slice_index_or points s (record { i = pos 0; q = pos 0 })

-- the term at a place
abbrev pub term_at : List ℤ → ℕ → ℤ
term_at terms n = slice_index_or terms n (pos 0)

-- the point received in symbol s: the amplitude times its point, and a term for each coordinate
abbrev pub received_point : (amp : ℕ) → (terms : List ℤ) → List Point → (s : ℕ) → Point
received_point amp terms points s = record {
  i = pos amp *ℤ (sent_point points s).i +ℤ term_at terms (2 * s);
  q = pos amp *ℤ (sent_point points s).q +ℤ term_at terms (2 * s + 1);
}

abbrev pub received_points : (amp : ℕ) → (terms : List ℤ) → List Point → List Point
received_points amp terms points = map (received_point amp terms points) (range_with_len 0 (length points))

-- the soft values of bits that were sent with an amplitude as points of qm bits, with these terms
unfoldable pub received : (qm amp : ℕ) → (terms : List ℤ) → List Bit → List ℤ
received qm amp terms bits = demapped qm amp (received_points amp terms (mapped qm bits))

-- the soft value of the bit of place i, sent by itself: the law `two_bits_are_received_by_themselves` says that
-- this is what it is where points have two bits
abbrev pub value_at : (amp : ℕ) → (terms : List ℤ) → List Bit → (i : ℕ) → ℤ
value_at amp terms bits i = clamped 127 (pos amp *ℤ sign (slice_index_or bits i Zero) +ℤ term_at terms i)
