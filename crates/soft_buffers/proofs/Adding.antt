-- Values that are added at once to the cells of their bits.
use Rattle.std.proofs.Common.{◌≡◌, ◌≢◌, ℕ, ◌+◌, ◌*◌, ◌/◌, ◌%◌, ◌<◌, ◌≤◌, Bool, true, false, ◌&&◌, ◌==◌, Some, ℤ, pos, List, ◌∷◌, ◌++◌, [], length, map, get_or, set, take, drop, zero, suc, refl, sym, ap, ◌∙◌, arith}
use Rattle.std.specs.List.{range_with_len, zip}
use Rattle.std.proofs.lemmas.Bool.{and_parts, eqb-true, eq-eqb}
use Rattle.std.proofs.lemmas.List.{get_or_read, get_or-set_same, get_or-set_other, length-set, length-drop, length-take-le, map-append, take-append-drop, drop-drop}
use Rattle.std.proofs.lemmas.List.FromFn.{length-map-range_with_len}
use Rattle.std.proofs.lemmas.Nat.{div-mul-add, mod-mul-add}
use Rattle.std.proofs.Math.Nat.{mul-le-mul_left}
use Rattle.model_sender.specs.CircularBuffer.{spot}
use Rattle.model_sender.specs.declared.spot.Spot.{Spot}
use Rattle.rate_match.proofs.Walked.{range-split}
use Rattle.model_receiver.specs.SoftCells.{added, has_bit, is_bit}
use Rattle.soft_buffers.specs.Buffers.{IsBit, cell_index, cell_of}
use Rattle.soft_buffers.specs.Runs.{with_value, with_values}
use Rattle.soft_buffers.proofs.Sums.{sum_of, sum-append, sum-hit, sum-miss, zip-append, zip-more}

-- ---- bits and their cells

abbrev made : (stream index : ℕ) → Spot
made stream index = record { stream = stream; index = index }

pub same_bit : (s t : Spot) → is_bit s (Some t) ≡ true → s ≡ t
same_bit s t pass =
    let parts = and_parts (s.stream == t.stream) (s.index == t.index) pass in
    let stream : s.stream ≡ t.stream = eqb-true s.stream t.stream parts.0 in
    let index : s.index ≡ t.index = eqb-true s.index t.index parts.1 in
    λ i. made (stream i) (index i)

-- different bits have different cells
pub index-tells : (k : ℕ) (s t : Spot) → IsBit k s → IsBit k t → cell_index k s ≡ cell_index k t → s ≡ t
index-tells k s t a b same =
    let w : ℕ = k + 4 in
    let stream : s.stream ≡ t.stream = sym (div-mul-add s.stream w s.index a.index) ∙ ap (λ (n : ℕ). n / w) same ∙ div-mul-add t.stream w t.index b.index in
    let index : s.index ≡ t.index = sym (mod-mul-add s.stream w s.index a.index) ∙ ap (λ (n : ℕ). n % w) same ∙ mod-mul-add t.stream w t.index b.index in
    λ i. made (stream i) (index i)

pub index-below : (k : ℕ) (s : Spot) → IsBit k s → cell_index k s < 3 * (k + 4)
index-below k s a =
    let most : (k + 4) * s.stream ≤ (k + 4) * 2 = mul-le-mul_left (k + 4) a.stream in
    omega (arith, most, a.index)

is_bit-self : (s : Spot) → is_bit s (Some s) ≡ true
is_bit-self s = ap (λ (b : Bool). b && (s.index == s.index)) (eq-eqb s.stream s.stream refl) ∙ eq-eqb s.index s.index refl

-- what is written, by the bit
pub changed : (k : ℕ) (b : Spot) (has : List ℤ) (i : ℕ) (old v value sum : ℤ) → i < length has → i ≡ cell_index k b → old ≡ get_or has i old → v ≡ value → sum ≡ added old v
    → set has i sum ≡ set has (cell_index k b) (added (cell_of k has b) value)
changed k b has i old v value sum within place read given is =
    let cell : old ≡ cell_of k has b = get_or_read has i old within read (pos 0) ∙ ap (λ (n : ℕ). get_or has n (pos 0)) place in
    ap (λ (n : ℕ). set has n sum) place ∙ ap (set has (cell_index k b)) (is ∙ ap (λ (a : ℤ). added a v) cell ∙ ap (added (cell_of k has b)) given)

-- one value more, of the bit that stands at place p
value-added : (k fill : ℕ) (has : List ℤ) (b : Spot) (v : ℤ) (p : ℕ) (pairs : List (ℕ × ℤ)) (c : ℤ) (s : Spot) → spot k fill p ≡ Some b → IsBit k b → IsBit k s → length has ≡ 3 * (k + 4)
    → cell_of k has s ≡ sum_of (has_bit k fill s) pairs c → cell_of k (with_value k b v has) s ≡ sum_of (has_bit k fill s) (pairs ++ (p, v) ∷ []) c
value-added k fill has b v p pairs c s bit inside_b inside long is = by_test (is_bit s (Some b)) refl
  where
    by_test : (t : Bool) → is_bit s (Some b) ≡ t → cell_of k (with_value k b v has) s ≡ sum_of (has_bit k fill s) (pairs ++ (p, v) ∷ []) c
    by_test true e =
        let same : s ≡ b = same_bit s b e in
        let room : cell_index k b < length has = omega (arith, index-below k b inside_b, long) in
        ap (λ (q : Spot). cell_of k (with_value k b v has) q) same
        ∙ get_or-set_same has (cell_index k b) (added (cell_of k has b) v) (pos 0) room
        ∙ ap (λ (c : ℤ). added c v) (ap (cell_of k has) (sym same) ∙ is)
        ∙ sym (sum-hit (has_bit k fill s) pairs c p v (ap (is_bit s) bit ∙ e))
    by_test false e =
        let apart : cell_index k s ≢ cell_index k b = λ same. absurd (let q : s ≡ b = index-tells k s b inside inside_b same in
        let yes : is_bit s (Some b) ≡ true = ap (λ (t : Spot). is_bit s (Some t)) (sym q) ∙ is_bit-self s in cc) in
        get_or-set_other has (cell_index k b) (cell_index k s) (added (cell_of k has b) v) (pos 0) apart
        ∙ is
        ∙ sym (sum-miss (has_bit k fill s) pairs c p v (ap (is_bit s) bit ∙ e))

pub values-long : (k : ℕ) (bits : ℕ → Spot) (values : List ℤ) (m : ℕ) (has : List ℤ) → length (with_values k bits values m has) ≡ length has
values-long k bits values zero has = refl
values-long k bits values (suc m) has =
    length-set (with_values k bits values m has) (cell_index k (bits m)) (added (cell_of k (with_values k bits values m has) (bits m)) (get_or values m (pos 0)))
    ∙ values-long k bits values m has

-- the values of bits that stand one after the other from place p on
pub values-added : (k fill p m : ℕ) (bits : ℕ → Spot) (values has : List ℤ) (s : Spot) → ((i : ℕ) → i < m → spot k fill (p + i) ≡ Some (bits i)) → ((i : ℕ) → i < m → IsBit k (bits i))
    → length has ≡ 3 * (k + 4) → m ≤ length values → IsBit k s
    → cell_of k (with_values k bits values m has) s ≡ sum_of (has_bit k fill s) (zip (map (λ i. p + i) (range_with_len 0 m)) values) (cell_of k has s)
values-added k fill p zero bits values has s bit inside_b long few inside = refl
values-added k fill p (suc m) bits values has s bit inside_b long few inside =
    let before : List ℕ = map (λ i. p + i) (range_with_len 0 m) in
    let old : List ℤ = with_values k bits values m has in
    let counted : length before ≡ m = length-map-range_with_len (λ i. p + i) 0 m in
    let places : map (λ i. p + i) (range_with_len 0 (suc m)) ≡ before ++ (p + m) ∷ [] =
    ap (λ n. map (λ i. p + i) (range_with_len 0 n)) (let e : suc m ≡ m + 1 = omega arith in e)
    ∙ ap (map (λ i. p + i)) (range-split 0 m 1)
    ∙ map-append (λ i. p + i) (range_with_len 0 m) (range_with_len (0 + m) 1)
    ∙ ap (λ n. before ++ n ∷ []) (let e : p + (0 + m) ≡ p + m = omega arith in e) in
    let pairs : zip (map (λ i. p + i) (range_with_len 0 (suc m))) values ≡ zip before values ++ (p + m, get_or values m (pos 0)) ∷ [] =
    ap (λ ns. zip ns values) places
    ∙ zip-more before values (p + m) (pos 0) (omega (arith, counted, few))
    ∙ ap (λ n. zip before values ++ (p + m, get_or values n (pos 0)) ∷ []) counted in
    value-added k fill old (bits m) (get_or values m (pos 0)) (p + m) (zip before values) (cell_of k has s) s (bit m (omega arith)) (inside_b m (omega arith)) inside
    (values-long k bits values m has ∙ long)
    (values-added k fill p m bits values has s (λ i h. bit i (omega (arith, h))) (λ i h. inside_b i (omega (arith, h))) long (omega (arith, few)) inside)
    ∙ ap (λ ps. sum_of (has_bit k fill s) ps (cell_of k has s)) (sym pairs)

-- The next values are added: what is still to come makes the same sum of a cell as before.
pub sums-kept : (test : ℕ → Bool) (places run rest : List ℕ) (values : List ℤ) (taken count next : ℕ) (old new : ℤ) → taken + count ≤ length values → length run ≡ count → next ≡ taken + count
    → places ≡ run ++ rest → new ≡ sum_of test (zip run (take count (drop taken values))) old
    → sum_of test (zip rest (drop next values)) new ≡ sum_of test (zip places (drop taken values)) old
sums-kept test places run rest values taken count next old new fits long goes are is =
    let part : List ℤ = take count (drop taken values) in
    let split : drop taken values ≡ part ++ drop next values =
    sym (take-append-drop count (drop taken values)) ∙ ap (λ vs. part ++ vs) (drop-drop count taken values ∙ ap (λ n. drop n values) (omega (arith, goes))) in
    ap (sum_of test (zip rest (drop next values))) is
    ∙ sym (sum-append test (zip run part) (zip rest (drop next values)) old)
    ∙ ap (λ ps. sum_of test ps old) (sym (ap (λ ns. zip ns (drop taken values)) are ∙ ap (λ vs. zip (run ++ rest) vs) split
    ∙ zip-append run rest part (drop next values) (long ∙ sym (length-take-le count (drop taken values) (omega (arith, fits, length-drop taken values))))))
