-- The coded streams of a block have NULL at exactly its fillers.
use Rattle.std.proofs.Common.{◌≡◌, ◌↔◌, ℕ, ◌-◌, ◌<◌, ◌≤◌, List, ◌++◌, length, slice_index_or, ap, sym, subst, ◌∙◌, inl, inr, arith}
use Rattle.std.specs.Prelude.{if◌then◌else◌}
use Rattle.std.proofs.lemmas.Bool.{cases_lt, lt-ltb, le-ltb}
use Rattle.std.proofs.lemmas.List.{get_or_append_left, get_or-append_right, get_or-map, length-append, length-map, map-append}
use Rattle.std.proofs.lemmas.List.FromFn.{get_or-map-range_with_len, length-map-range_with_len}
use Rattle.lte_bits.specs.Bits.{cell_of}
use Rattle.lte_bits.specs.declared.bit.Bit.{Bit}
use Rattle.lte_bits.specs.declared.bit.Bit.TheVariants.{Zero, One}
use Rattle.lte_bits.specs.declared.bit.Cell.{Cell}
use Rattle.lte_bits.specs.declared.bit.Cell.TheVariants.{Null}
use Rattle.lte_bits.specs.declared.block.Block.{Block}
use Rattle.model_sender.specs.Bits.{at}
use Rattle.model_sender.specs.CodedStreams.{streams, cells_of, filled_cell, null_filled, interleaved, tail_0, tail_1, tail_2}
use Rattle.model_sender.specs.ConstituentCoder.{values, parities}
use Rattle.model_sender.specs.Interleaver.{place}
use Rattle.model_sender.specs.CircularBuffer.{HasNulls, AreStreams}
use Rattle.model_sender.specs.ConstituentCoder.{zero_state}
use Rattle.model_sender.proofs.Coder.{made}

pub length-null_filled : (fill : ℕ) (bits : List Bit) → length (null_filled fill bits) ≡ length bits
length-null_filled fill bits = length-map-range_with_len (λ i. filled_cell fill i (at bits i)) 0 (length bits)

bit-differs : (b : Bit) → cell_of b ≡ Null → ⊥
bit-differs Zero e = cc
bit-differs One e = cc

-- a cell is NULL exactly at a filler
filled-null : (fill i : ℕ) (b : Bit) → (filled_cell fill i b ≡ Null) ↔ (i < fill)
filled-null fill i b =
    elim (cases_lt i fill) [
      | inl below ↦ (λ _. below, λ _. ap (λ t. if t then Null else cell_of b) (lt-ltb i fill below))
      | inr above ↦ (
        λ e. absurd (bit-differs b (sym (ap (λ t. if t then Null else cell_of b) (le-ltb i fill above)) ∙ e)),
        λ below. absurd (let h : ⊥ = omega (arith, below, above) in h),
      )
    ]

-- a front with NULL at its fillers, and then the cells of bits
with_nulls : (fill : ℕ) (bits tail : List Bit) → fill ≤ length bits → HasNulls fill (null_filled fill bits ++ cells_of tail)
with_nulls fill bits tail fits i within = elim (cases_lt i (length bits)) [ inl front ↦ in_front front | inr behind ↦ in_tail behind ]
  where
    in_front : i < length bits → (slice_index_or (null_filled fill bits ++ cells_of tail) i Null ≡ Null) ↔ (i < fill)
    in_front below =
        let P : Cell → Type 0 = λ cell. (cell ≡ Null) ↔ (i < fill) in
        let left : slice_index_or (null_filled fill bits ++ cells_of tail) i Null ≡ filled_cell fill i (at bits i) =
        get_or_append_left (null_filled fill bits) (cells_of tail) Null i (omega (arith, below, length-null_filled fill bits))
        ∙ get_or-map-range_with_len (λ j. filled_cell fill j (at bits j)) 0 (length bits) i i Null below (omega arith) in
        subst P (sym left) (filled-null fill i (at bits i))

    in_tail : length bits ≤ i → (slice_index_or (null_filled fill bits ++ cells_of tail) i Null ≡ Null) ↔ (i < fill)
    in_tail above =
        let last : i - length bits < length tail = omega (arith, within, above, length-append (null_filled fill bits) (cells_of tail), length-null_filled fill bits, length-map tail cell_of) in
        let right : slice_index_or (null_filled fill bits ++ cells_of tail) i Null ≡ cell_of (at tail (i - length bits)) =
        get_or-append_right (null_filled fill bits) (cells_of tail) (length bits) i Null (length-null_filled fill bits) above
        ∙ get_or-map cell_of tail (i - length bits) Zero Null last in
        (λ e. absurd (bit-differs (at tail (i - length bits)) (sym right ∙ e)), λ below. absurd (let h : ⊥ = omega (arith, below, above, fits) in h))

-- the cells of bits alone are nowhere NULL
without_nulls : (bits : List Bit) → HasNulls 0 (cells_of bits)
without_nulls bits i within =
    let one : i < length bits = omega (arith, within, length-map bits cell_of) in
    let read : slice_index_or (cells_of bits) i Null ≡ cell_of (at bits i) = get_or-map cell_of bits i Zero Null one in
    (λ e. absurd (bit-differs (at bits i) (sym read ∙ e)), λ below. absurd (let h : ⊥ = omega (arith, below) in h))

length-parities : (c : List Bit) → length (parities c) ≡ length c
length-parities c = (made zero_state c).z_long

pub streams-nulls : (b : Block) → b.fill ≤ length b.bits → AreStreams (length b.bits) b.fill (streams b)
streams-nulls b fits =
    let c : List Bit = b.bits in
    let d : List Bit = interleaved c in
    let k : ℕ = length c in
    let long : length (parities c) ≡ k = length-parities c in
    let t0 : List Bit = tail_0 k (values c) (values d) in
    let t1 : List Bit = tail_1 k (values c) (values d) in
    let t2 : List Bit = tail_2 k (values c) (values d) in
    let second : length d ≡ k = length-map-range_with_len (λ i. at c (place k i)) 0 k in
    let joined : cells_of (parities d ++ t2) ≡ cells_of (parities d) ++ cells_of t2 = map-append cell_of (parities d) t2 in
    record {
      d0_long = omega (arith, length-append (null_filled b.fill c) (cells_of t0), length-null_filled b.fill c);
      d1_long = omega (arith, length-append (null_filled b.fill (parities c)) (cells_of t1), length-null_filled b.fill (parities c), long);
      d2_long = omega (arith, length-append (cells_of (parities d)) (cells_of t2), length-map (parities d) cell_of, length-parities d, second);
      d0_nulls = with_nulls b.fill c t0 fits;
      d1_nulls = with_nulls b.fill (parities c) t1 (omega (arith, fits, long));
      d2_nulls = subst (HasNulls 0) joined (without_nulls (parities d ++ t2));
    }
