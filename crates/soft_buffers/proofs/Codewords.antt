-- A codeword's values are added block after block.
use Rattle.std.proofs.Common.{◌≡◌, ◌≢◌, ℕ, zero, suc, ◌+◌, ◌-◌, ◌*◌, ◌<◌, ◌≤◌, ℤ, List, [], ◌∷◌, ◌++◌, length, take, drop, fold, set, refl, subst, ap, sym, ◌∙◌, inl, inr, arith}
use Rattle.std.proofs.lemmas.Bool.{cases_lt}
use Rattle.std.proofs.lemmas.Bool.Decides.{eqb_tells}
use Rattle.std.proofs.lemmas.List.{drop-drop, get_or-set_same, get_or-set_other, length-set}
use Rattle.std.proofs.Math.Seq.{take-append_seam}
use Rattle.model_sender.specs.Segmentation.{Plan, size}
use Rattle.model_sender.specs.CircularBuffer.{Match, piece_length}
use Rattle.model_sender.proofs.RangeSums.{sum_by-range_more}
use Rattle.model_receiver.specs.SoftCells.{Reception, added, piece_start, values_of}
use Rattle.model_receiver.proofs.SoftSums.{cell-more}
use Rattle.soft_buffers.specs.Buffers.{AreLong, Buffers, HasTaken, HaveTaken, Hold, cells_of_block}

-- the pieces so far are no more than all
pub start-within : (plan : Plan) (m : Match) (r : ℕ) → r < plan.c → piece_start plan m r + piece_length m plan.c r ≤ piece_start plan m plan.c
start-within plan m r below =
    let more : piece_start plan m (r + 1) ≡ piece_start plan m r + piece_length m plan.c r = sum_by-range_more (piece_length m plan.c) r in
    omega (arith, more, rises (plan.c - (r + 1)) (r + 1), ap (piece_start plan m) (let e : r + 1 + (plan.c - (r + 1)) ≡ plan.c = omega (arith, below) in e))
  where
    rises : (n a : ℕ) → piece_start plan m a ≤ piece_start plan m (a + n)
    rises zero a = omega (arith, ap (piece_start plan m) (let e : a + 0 ≡ a = omega arith in e))
    rises (suc n) a = omega (arith, rises n a, sum_by-range_more (piece_length m plan.c) (a + n), ap (piece_start plan m) (let e : a + suc n ≡ a + n + 1 = omega arith in e))

-- what is left of the codeword after one block more
pub rest-more : (plan : Plan) (m : Match) (r e : ℕ) (all rest back : List ℤ) → rest ≡ drop (piece_start plan m r) all → e ≡ piece_length m plan.c r → back ≡ drop e rest
    → back ≡ drop (piece_start plan m (r + 1)) all
rest-more plan m r e all rest back is own drops =
    drops ∙ ap (drop e) is ∙ drop-drop e (piece_start plan m r) all
    ∙ ap (λ (n : ℕ). drop n all) (let sum : piece_start plan m r + e ≡ piece_start plan m (r + 1) = omega (arith, own, sum_by-range_more (piece_length m plan.c) r) in sum)

-- the blocks below r have, and the others are as they were
pub record IsPassed (plan : Plan) (x : Reception) (had : List (List ℤ)) (r : ℕ) (has : List (List ℤ)) : Type 0 where
  pub count : length has ≡ plan.c
  pub long : AreLong plan has
  pub taken : (q : ℕ) → q < r → HasTaken plan x q (cells_of_block had q) (cells_of_block has q)
  pub same : (q : ℕ) → r ≤ q → cells_of_block has q ≡ cells_of_block had q

pub passed-none : (plan : Plan) (x : Reception) (had : List (List ℤ)) → length had ≡ plan.c → AreLong plan had → IsPassed plan x had 0 had
passed-none plan x had count long = record {
  count = count;
  long = long;
  taken = λ q below. absurd (let no : ⊥ = omega (arith, below) in no);
  same = λ q above. refl;
}

pub passed-more : (plan : Plan) (x : Reception) (had has more : List (List ℤ)) (r : ℕ) (cells : List ℤ) → IsPassed plan x had r has → r < plan.c
    → more ≡ set has r cells → length cells ≡ length (cells_of_block has r) → HasTaken plan x r (cells_of_block has r) cells → IsPassed plan x had (r + 1) more
passed-more plan x had has more r cells is below change long took =
    let here : cells_of_block more r ≡ cells = ap (λ bs. cells_of_block bs r) change ∙ get_or-set_same has r cells [] (omega (arith, below, is.count)) in
    let there : (q : ℕ) → q ≢ r → cells_of_block more q ≡ cells_of_block has q = λ q apart. ap (λ bs. cells_of_block bs q) change ∙ get_or-set_other has r q cells [] apart in
    record {
      count = ap length change ∙ length-set has r cells ∙ is.count;
      long = λ q inside. elim (eqb_tells q r) [
        | inl e ↦ ap (λ (n : ℕ). length (cells_of_block more n)) e.1 ∙ ap length here ∙ long ∙ is.long r below ∙ ap (λ (n : ℕ). 3 * (size plan n + 4)) (sym e.1)
        | inr e ↦ ap length (there q e.1) ∙ is.long q inside
      ];
      taken = λ q less. elim (eqb_tells q r) [
        | inl e ↦ subst (λ (n : ℕ). HasTaken plan x n (cells_of_block had n) (cells_of_block more n)) (sym e.1)
            (subst (λ cs. HasTaken plan x r (cells_of_block had r) cs) (sym here) (subst (λ cs. HasTaken plan x r cs cells) (is.same r (omega arith)) took))
        | inr e ↦ subst (λ cs. HasTaken plan x q (cells_of_block had q) cs) (sym (there q e.1)) (is.taken q (let h : q < r = apart q less e.1 in h))
      ];
      same = λ q above. there q (λ e. absurd (let no : ⊥ = omega (arith, e, above) in no)) ∙ is.same q (omega (arith, above));
    }
  where
    apart : (q : ℕ) → q < r + 1 → q ≢ r → q < r
    apart q less other = elim (cases_lt q r) [ inl h ↦ h | inr h ↦ absurd (other (omega (arith, less, h))) ]

-- ---- all blocks

-- what a borrow of a whole list leaves
pub refilled : {X : Type 0} (n : ℕ) (xs ws : List X) → n ≡ length ws → take n (ws ++ drop (length ws) xs) ≡ ws
refilled n xs ws long = ap (λ (m : ℕ). take m (ws ++ drop (length ws) xs)) long ∙ take-append_seam ws (drop (length ws) xs)

pub taken-whole : (plan : Plan) (x : Reception) (n : ℕ) (blocks old new : List (List ℤ)) → HaveTaken plan x old new → old ≡ blocks → n ≡ length new
    → HaveTaken plan x blocks (take n (new ++ drop (length new) blocks))
taken-whole plan x n blocks old new took is long =
    subst (HaveTaken plan x blocks) (sym (refilled n blocks new long)) (subst (λ (had : List (List ℤ)). HaveTaken plan x had new) is took)

-- buffers that hold receptions hold one more
pub hold-more : (b : Buffers) (new : List (List ℤ)) (xs : List Reception) (x : Reception) → HaveTaken b.plan x b.cells new → Hold b xs
    → Hold (record { plan = b.plan; limit = b.limit; cells = new }) (xs ++ x ∷ [])
hold-more b new xs x took hold r below s inside =
    took r below s inside
    ∙ ap (λ (cell : ℤ). fold added cell (values_of b.plan x r s)) (hold r below s inside)
    ∙ sym (cell-more b.plan xs x r s)
