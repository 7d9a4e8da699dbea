-- The places of an interleaved block (36.212 5.1.3.2.3).
use Rattle.std.specs.Prelude.{◌≡◌, ℕ, List, length, map, Contains}
use Rattle.std.specs.List.{range_with_len}
use Rattle.model_sender.specs.Interleaver.{place, sizes}

-- from these places an interleaved block of one of the sizes takes its bits
pub record AreAddresses (list : List ℕ) : Type 0 where
  pub size : Contains sizes (length list)
  pub places : list ≡ map (place (length list)) (range_with_len 0 (length list))
