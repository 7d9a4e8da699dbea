-- Cells of bits, NULL at the fillers.
use Rattle.std.proofs.Common.{◌≡◌, ℕ, ◌+◌, List, length, ap, ◌∙◌, arith}
use Rattle.std.specs.Prelude.{nat_lt, if◌then◌else◌, slice_index_or}
use Rattle.std.proofs.lemmas.List.{get_or-map, length-map}
use Rattle.std.proofs.lemmas.List.FromFn.{fill_by_all, get_or-map-range_with_len, length-map-range_with_len}
use Rattle.lte_bits.specs.Bits.{cell_of}
use Rattle.lte_bits.specs.declared.bit.Bit.{Bit}
use Rattle.lte_bits.specs.declared.bit.Bit.TheVariants.{Zero}
use Rattle.lte_bits.specs.declared.bit.Cell.{Cell}
use Rattle.lte_bits.specs.declared.bit.Cell.TheVariants.{Null}
use Rattle.model_sender.specs.Bits.{at}
use Rattle.model_sender.specs.CodedStreams.{cells_of, filled_cell, null_filled}
use Rattle.turbo_encode.specs.Fillers.{nulls_first}

pub nulls-filled : (fill : ℕ) (bits : List Bit) → nulls_first fill (cells_of bits) ≡ null_filled fill bits
nulls-filled fill bits =
    let cells = cells_of bits in
    let f = λ (i : ℕ). if nat_lt i fill then Null else slice_index_or cells i Null in
    let long : length cells ≡ length bits = length-map bits cell_of in
    fill_by_all (λ i. filled_cell fill i (at bits i)) (nulls_first fill cells) (length bits) Null
    (length-map-range_with_len f 0 (length cells) ∙ long)
    (λ k h. get_or-map-range_with_len f 0 (length cells) k k Null (omega (arith, h, long)) (let e : 0 + k ≡ k = omega arith in e)
    ∙ ap (λ c. if nat_lt k fill then Null else c) (get_or-map cell_of bits k Zero Null h))

pub length-nulls : (fill : ℕ) (cells : List Cell) → length (nulls_first fill cells) ≡ length cells
length-nulls fill cells = length-map-range_with_len (λ i. if nat_lt i fill then Null else slice_index_or cells i Null) 0 (length cells)
