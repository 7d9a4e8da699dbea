-- A coder on its way along its inputs, and the inputs of the second one.
use Rattle.std.proofs.Common.{◌≡◌, ℕ, ◌+◌, ◌*◌, ◌<◌, ◌≤◌, List, ◌++◌, length, map, take, drop, get_or, Contains, refl, sym, ap, ◌∙◌, arith}
use Rattle.std.specs.List.{range_with_len}
use Rattle.std.specs.Simd.{first_chunks}
use Rattle.std.proofs.lemmas.List.{map-append, take-map, take_all, get_or-drop, get_or-map, get_or-take, length-drop, length-map, length-take-le}
use Rattle.std.proofs.lemmas.List.FromFn.{fill_by_all, get_or-map-range_with_len, length-map-range_with_len}
use Rattle.lte_bits.specs.declared.bit.Bit.{Bit}
use Rattle.lte_bits.specs.declared.bit.Bit.TheVariants.{Zero}
use Rattle.lte_bits.specs.declared.bit.Cell.{Cell}
use Rattle.lte_bits.proofs.Chunks.{chunk-at, take-chunk}
use Rattle.model_sender.specs.Bits.{at}
use Rattle.model_sender.specs.ConstituentCoder.{State, zero_state, parities, parities_from, state_number}
use Rattle.model_sender.specs.CodedStreams.{cells_of, interleaved}
use Rattle.model_sender.specs.Interleaver.{place, row_of, sizes}
use Rattle.model_sender.specs.InterleaverLaws.{pi_below}
use Rattle.model_sender.specs.Tail.{reached}
use Rattle.model_sender.proofs.RowLaws.{range-of_size}
use Rattle.turbo_encode.proofs.FourSteps.{cells_more, reached_more, same_state}

-- after n inputs the cells and the state are those of the inputs so far
pub record IsCoded (n : ℕ) (inputs : List Bit) (cells : List Cell) (state : ℕ) : Type 0 where
  pub written : take n cells ≡ cells_of (parities (take n inputs))
  pub is_at : state_number (reached zero_state (take n inputs)) ≡ state
  pub small : state < 8

pub none_coded : (inputs : List Bit) (cells : List Cell) → IsCoded (0 * 4) inputs cells 0
none_coded inputs cells = record {
  written = refl;
  is_at = refl;
  small = omega arith;
}

-- four inputs more
pub four_coded : (i : ℕ) (inputs four : List Bit) (old new : List Cell) (state next : ℕ) → IsCoded (i * 4) inputs old state → take ((i + 1) * 4) inputs ≡ take (i * 4) inputs ++ four
    → ((s : State) → state_number s ≡ state → take (4 * i + 4) new ≡ take (4 * i) old ++ cells_of (parities_from s four))
    → ((s : State) → state_number s ≡ state → state_number (reached s four) ≡ next) → next < 8
    → IsCoded ((i + 1) * 4) inputs new next
four_coded i inputs four old new state next so more cells reaches small =
    let s : State = reached zero_state (take (i * 4) inputs) in
    let push : take ((i + 1) * 4) new ≡ take (i * 4) old ++ cells_of (parities_from s four) =
    ap (λ n. take n new) (let e : (i + 1) * 4 ≡ 4 * i + 4 = omega arith in e)
    ∙ cells s so.is_at
    ∙ ap (λ n. take n old ++ cells_of (parities_from s four)) (let e : 4 * i ≡ i * 4 = omega arith in e) in
    record {
      written = cells_more (take (i * 4) inputs) (take ((i + 1) * 4) inputs) four (take (i * 4) old) (take ((i + 1) * 4) new) (cells_of (parities_from s four)) more so.written push refl;
      is_at = reached_more (take (i * 4) inputs) (take ((i + 1) * 4) inputs) four next more (reaches s so.is_at);
      small = small;
    }

-- all inputs
pub all_cells : (n : ℕ) (inputs : List Bit) (cells : List Cell) (state : ℕ) → IsCoded n inputs cells state → length inputs ≤ n → length cells ≡ length inputs → cells ≡ cells_of (parities inputs)
all_cells n inputs cells state so end long =
    sym (take_all n cells (omega (arith, end, long)))
    ∙ so.written
    ∙ ap (λ zs. cells_of (parities zs)) (take_all n inputs end)

pub last_state : (n : ℕ) (inputs : List Bit) (cells : List Cell) (state : ℕ) (s : State) → IsCoded n inputs cells state → length inputs ≤ n → state_number s ≡ state → s ≡ reached zero_state inputs
last_state n inputs cells state s so end is =
    same_state s (reached zero_state inputs) (is ∙ sym so.is_at ∙ ap (λ zs. state_number (reached zero_state zs)) (take_all n inputs end))

-- ---- the inputs of the second coder

-- an interleaved block is its bits at the places
pub bits_at_places : (bits : List Bit) (places : List ℕ) → places ≡ map (place (length bits)) (range_with_len 0 (length bits)) → map (at bits) places ≡ interleaved bits
bits_at_places bits places are =
    let k : ℕ = length bits in
    let long : length places ≡ k = ap length are ∙ length-map-range_with_len (place k) 0 k in
    fill_by_all (λ i. at bits (place k i)) (map (at bits) places) k Zero (length-map places (at bits) ∙ long)
    (λ i h. get_or-map (at bits) places i 0 Zero (omega (arith, h, long))
    ∙ ap (λ xs. at bits (get_or xs i 0)) are
    ∙ ap (at bits) (get_or-map-range_with_len (place k) 0 k i i 0 h (let e : 0 + i ≡ i = omega arith in e)))

pub four_interleaved : (bits : List Bit) (places d : List ℕ) (chunks : List (List ℕ)) (n i : ℕ)
    → places ≡ map (place (length bits)) (range_with_len 0 (length bits)) → i < n → chunks ≡ first_chunks 4 n places
    → take ((i + 1) * 4) (interleaved bits) ≡ take (i * 4) (interleaved bits) ++ map (at bits) (get_or chunks i d)
four_interleaved bits places d chunks n i are below cut =
    ap (take ((i + 1) * 4)) (sym (bits_at_places bits places are))
    ∙ take-map (at bits) ((i + 1) * 4) places
    ∙ ap (map (at bits)) (take-chunk 4 n i places d chunks below cut)
    ∙ map-append (at bits) (take (i * 4) places) (get_or chunks i d)
    ∙ ap (λ xs. xs ++ map (at bits) (get_or chunks i d)) (sym (take-map (at bits) (i * 4) places) ∙ ap (take (i * 4)) (bits_at_places bits places are))

-- four places are places of the block
pub places_below : (k : ℕ) (places d : List ℕ) (chunks : List (List ℕ)) (n i j : ℕ) → Contains sizes k → places ≡ map (place k) (range_with_len 0 k) → i < n
    → n * 4 ≤ k → chunks ≡ first_chunks 4 n places
    → j < length (get_or chunks i d) → get_or (get_or chunks i d) j 0 < k
places_below k places d chunks n i j size are below most cut within =
    let some : 1 ≤ k = omega (arith, (range-of_size k size).0) in
    let chunk : get_or chunks i d ≡ take 4 (drop (i * 4) places) = ap (λ cs. get_or cs i d) cut ∙ chunk-at 4 n i places d below in
    let long : length places ≡ k = ap length are ∙ length-map-range_with_len (place k) 0 k in
    let four : length (take 4 (drop (i * 4) places)) ≡ 4 = length-take-le 4 (drop (i * 4) places) (omega (arith, length-drop (i * 4) places, long, below, most)) in
    let few : j < 4 = omega (arith, within, ap length chunk, four) in
    let e : get_or (get_or chunks i d) j 0 ≡ place k (i * 4 + j) =
    ap (λ xs. get_or xs j 0) chunk
    ∙ get_or-take 4 (drop (i * 4) places) j 0 few
    ∙ get_or-drop (i * 4) places j 0
    ∙ ap (λ xs. get_or xs (i * 4 + j) 0) are
    ∙ get_or-map-range_with_len (place k) 0 k (i * 4 + j) (i * 4 + j) 0 (omega (arith, below, most, few)) (let z : 0 + (i * 4 + j) ≡ i * 4 + j = omega arith in z) in
    omega (arith, e, pi_below k (row_of k).1 (row_of k).2 (i * 4 + j) some)
