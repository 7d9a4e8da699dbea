-- The cells of all blocks in one list.
use Rattle.std.proofs.Common.{◌≡◌, ℕ, ◌+◌, ◌*◌, ◌/◌, ◌%◌, ◌<◌, ◌≤◌, ℤ, pos, List, [], ◌∷◌, ◌++◌, length, take, drop, map, flat_map, fold, get_or, refl, sym, subst, ap, ◌∙◌, append-nil, arith}
use Rattle.std.specs.List.{range_with_len}
use Rattle.std.proofs.Math.Nat.{div-lt_iff_lt-mul}
use Rattle.std.proofs.lemmas.Nat.{div-add-mod', div-mul-add, mod-mul-add}
use Rattle.std.proofs.lemmas.List.{length-drop, length-take}
use Rattle.std.proofs.lemmas.List.Folds.{flat_map-map}
use Rattle.std.proofs.lemmas.List.FromFn.{fill_by_all, get_or-map-range_with_len, length-map-range_with_len}
use Rattle.model_sender.specs.Segmentation.{Plan, size}
use Rattle.model_sender.specs.declared.spot.Spot.{Spot}
use Rattle.model_receiver.specs.SoftCells.{Reception, added, values_of}
use Rattle.soft_buffers.specs.Buffers.{AreLong, HaveTaken, IsBit, cell_index, cell_of, cells_of_block}
use Rattle.soft_buffers.specs.Parts.{before, part, parts}
use Rattle.soft_buffers.specs.Flat.{bit_of_cell, by_block, cell_count, cells_in, combined, combined_block, combined_cell}
use Rattle.soft_buffers.proofs.Adding.{index-below}
use Rattle.soft_buffers.proofs.PartLaws.{before-within, flat-long, parts-are}

-- the cells of a block of a list that is long enough
pub by_block-at : (plan : Plan) (cells : List ℤ) (r : ℕ) → r < plan.c → cells_of_block (by_block plan cells) r ≡ part (cells_in plan) cells r
by_block-at plan cells r below = get_or-map-range_with_len (part (cells_in plan) cells) 0 plan.c r r [] below (omega arith)

pub by_block-count : (plan : Plan) (cells : List ℤ) → length (by_block plan cells) ≡ plan.c
by_block-count plan cells = length-map-range_with_len (part (cells_in plan) cells) 0 plan.c

pub by_block-long : (plan : Plan) (cells : List ℤ) → cell_count plan ≤ length cells → AreLong plan (by_block plan cells)
by_block-long plan cells long r below =
    let first : ℕ = before (cells_in plan) r in
    ap length (by_block-at plan cells r below)
    ∙ omega (arith, before-within (cells_in plan) r plan.c below, long, length-drop first cells, length-take (cells_in plan r) (drop first cells))

-- the bit of each place is a bit of the block, and its cell is there
pub cell-place : (k n : ℕ) → cell_index k (bit_of_cell k n) ≡ n
cell-place k n = div-add-mod' n (k + 4)

pub is-bit : (k n : ℕ) → n < 3 * (k + 4) → IsBit k (bit_of_cell k n)
is-bit k n below =
    let third : n / (k + 4) < 3 = (div-lt_iff_lt-mul {k = k + 4} {x = n} {y = 3} (omega arith)).1 below in
    record { stream = omega (arith, third); index = omega arith }

-- blocks that have taken a reception, one after the other
taken-block : (plan : Plan) (x : Reception) (old new : List (List ℤ)) (r : ℕ) → r < plan.c → AreLong plan new → HaveTaken plan x old new
    → cells_of_block new r ≡ combined_block plan x old r
taken-block plan x old new r below long took =
    let k : ℕ = size plan r in
    let cells : List ℤ = cells_of_block new r in
    fill_by_all (combined_cell plan x old r) cells (cells_in plan r) (pos 0) (long r below)
    (λ n inside. ap (λ (m : ℕ). get_or cells m (pos 0)) (sym (cell-place k n)) ∙ took r below (bit_of_cell k n) (is-bit k n inside))

pub combined-is : (plan : Plan) (x : Reception) (cells : List ℤ) (new : List (List ℤ)) → length new ≡ plan.c → AreLong plan new → HaveTaken plan x (by_block plan cells) new
    → flat_map (λ block. block) new ≡ combined plan x cells
unfolding combined
combined-is plan x cells new count long took =
    let old : List (List ℤ) = by_block plan cells in
    ap (flat_map (λ (block : List ℤ). block)) (fill_by_all (combined_block plan x old) new plan.c [] count (λ r below. taken-block plan x old new r below long took))
    ∙ flat_map-map (λ (block : List ℤ). block) (combined_block plan x old) (range_with_len 0 plan.c)

-- ---- what comes of it

block-long : (plan : Plan) (x : Reception) (old : List (List ℤ)) (r : ℕ) → r < plan.c → length (combined_block plan x old r) ≡ cells_in plan r
block-long plan x old r below = length-map-range_with_len (combined_cell plan x old r) 0 (cells_in plan r)

pub combined-long : (plan : Plan) (x : Reception) (cells : List ℤ) → length (combined plan x cells) ≡ cell_count plan
unfolding combined
combined-long plan x cells = flat-long (cells_in plan) (combined_block plan x (by_block plan cells)) plan.c (block-long plan x (by_block plan cells))

-- the blocks of what was combined are those that have taken the reception, whatever stands after it
pub combined-blocks : (plan : Plan) (x : Reception) (cells tail : List ℤ)
    → by_block plan (combined plan x cells ++ tail) ≡ map (combined_block plan x (by_block plan cells)) (range_with_len 0 plan.c)
unfolding combined
combined-blocks plan x cells tail = parts-are (cells_in plan) (combined_block plan x (by_block plan cells)) plan.c tail (block-long plan x (by_block plan cells))

abbrev spot : ℕ → ℕ → Spot
spot a b = record { stream = a; index = b }

spot-is : {a b c d : ℕ} → a ≡ b → c ≡ d → spot a c ≡ spot b d
spot-is p q i = spot (p i) (q i)

bit-of-place : (k : ℕ) (s : Spot) → IsBit k s → bit_of_cell k (cell_index k s) ≡ s
bit-of-place k s is =
    let stream : (s.stream * (k + 4) + s.index) / (k + 4) ≡ s.stream = div-mul-add s.stream (k + 4) s.index is.index in
    let index : (s.stream * (k + 4) + s.index) % (k + 4) ≡ s.index = mod-mul-add s.stream (k + 4) s.index is.index in
    spot-is stream index

pub combined-taken : (plan : Plan) (x : Reception) (cells tail : List ℤ) → HaveTaken plan x (by_block plan cells) (by_block plan (combined plan x cells ++ tail))
combined-taken plan x cells tail r below s is =
    let k : ℕ = size plan r in
    let old : List (List ℤ) = by_block plan cells in
    let n : ℕ = cell_index k s in
    ap (λ bs. cell_of k (cells_of_block bs r) s) (combined-blocks plan x cells tail)
    ∙ ap (λ (cs : List ℤ). get_or cs n (pos 0)) (get_or-map-range_with_len (combined_block plan x old) 0 plan.c r r [] below (omega arith))
    ∙ get_or-map-range_with_len (combined_cell plan x old r) 0 (cells_in plan r) n n (pos 0) (index-below k s is) (omega arith)
    ∙ ap (λ (t : Spot). fold added (cell_of k (cells_of_block old r) t) (values_of plan x r t)) (bit-of-place k s is)
