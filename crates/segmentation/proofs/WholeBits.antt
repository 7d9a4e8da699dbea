-- What the blocks of a plan carry.
use Rattle.std.proofs.Common.{◌≡◌, ℕ, zero, suc, ◌+◌, ◌-◌, ◌*◌, ◌<◌, ◌≤◌, Bool, cond, List, [], ◌∷◌, ◌++◌, length, map, get_or, take, drop, refl, sym, ap, ◌∙◌, subst, arith}
use Rattle.std.proofs.lemmas.Bool.{ne_eqb}
use Rattle.std.proofs.lemmas.List.{length-append, length-drop, length-take-le, take_more, take_all, get_or-map}
use Rattle.std.proofs.lemmas.List.Concat.{flat_map-append}
use Rattle.std.proofs.lemmas.List.FromFn.{length-map-range_with_len, get_or-map-range_with_len}
use Rattle.lte_bits.specs.declared.bit.Bit.{Bit}
use Rattle.lte_bits.specs.declared.block.Block.{Block}
use Rattle.model_sender.specs.Segmentation.{Plan, bits_of, count_of, check_length, size, fill}
use Rattle.model_sender.specs.CodeBlocks.{before, whole}
use Rattle.model_sender.proofs.PlanLaws.{IsSound, plan-count}
use Rattle.model_sender.proofs.PlanShares.{before-more, before-whole}
use Rattle.segmentation.specs.Plans.{IsPlan}
use Rattle.segmentation.specs.Shape.{AreBlocksOf}
use Rattle.segmentation.proofs.BlockSizes.{block-size, fillers-few}
use Rattle.segmentation.proofs.OfPlans.{sound-plan}

abbrev no_block : Block
no_block = record { fill = 0; bits = [] }

-- what a block carries, without its fillers and own check bits
abbrev pub carried_by : Plan → Block → List Bit
carried_by p b = take (length b.bits - b.fill - check_length p.c) (drop b.fill b.bits)

-- ---- a block of a plan's shape

pub record IsBlockAt (p : Plan) (i : ℕ) (b : Block) : Type 0 where
  pub inside : i < p.c
  pub size : length b.bits ≡ size p i
  pub fillers : b.fill ≡ fill p i

pub shape-length : (p : Plan) (bs : List Block) → AreBlocksOf p bs → length bs ≡ p.c
shape-length p bs shape = sym (length-map (λ (b : Block). b.fill) bs) ∙ (ap length shape.fillers ∙ length-map-range_with_len (fill p) 0 p.c)
  where
    length-map : {X Y : Type 0} (f : X → Y) (xs : List X) → length (map f xs) ≡ length xs
    length-map f [] = refl
    length-map f (x ∷ xs) = omega (arith, length-map f xs)

pub shape-at : (p : Plan) (bs : List Block) (i : ℕ) (d : Block) → AreBlocksOf p bs → i < length bs → IsBlockAt p i (get_or bs i d)
shape-at p bs i d shape lt =
    let inside : i < p.c = omega (arith, lt, shape-length p bs shape) in
    let sizes : length (get_or bs i d).bits ≡ size p i =
    sym (get_or-map (λ (b : Block). length b.bits) bs i d 0 lt) ∙ (ap (λ (xs : List ℕ). get_or xs i 0) shape.sizes ∙ get_or-map-range_with_len (size p) 0 p.c i i 0 inside (omega arith)) in
    let fills : (get_or bs i d).fill ≡ fill p i =
    sym (get_or-map (λ (b : Block). b.fill) bs i d 0 lt) ∙ (ap (λ (xs : List ℕ). get_or xs i 0) shape.fillers ∙ get_or-map-range_with_len (fill p) 0 p.c i i 0 inside (omega arith)) in
    record { inside = inside; size = sizes; fillers = fills }

-- only block 0 has fillers
pub fill-later : (p : Plan) (i : ℕ) → fill p (suc i) ≡ 0
fill-later p i = ap (λ (t : Bool). cond t p.f 0) (ne_eqb (suc i) 0 (λ e. omega (arith, e)))

-- fillers and own check bits have room in it
pub fillers-fit : (p : Plan) (i : ℕ) → IsPlan p → fill p i + check_length p.c ≤ size p i
fillers-fit p zero is = omega (arith, fillers-few p is)
fillers-fit p (suc i) is = omega (arith, fill-later p i, (block-size p (suc i) is).own)

length-carried_by : (p : Plan) (b : Block) → b.fill + check_length p.c ≤ length b.bits → length (carried_by p b) + b.fill + check_length p.c ≡ length b.bits
length-carried_by p b room = omega (arith, length-take-le (length b.bits - b.fill - check_length p.c) (drop b.fill b.bits) (omega (arith, length-drop b.fill b.bits)), room)

-- ---- all blocks

-- one block more
pub whole-more : (p : Plan) (bs : List Block) (i : ℕ) (d : Block) → i < length bs → whole p (take (i + 1) bs) ≡ whole p (take i bs) ++ carried_by p (get_or bs i d)
whole-more p bs i d lt =
    ap (λ (xs : List Block). whole p xs) (take_more bs i d lt)
    ∙ (flat_map-append (carried_by p) (take i bs) (get_or bs i d ∷ [])
    ∙ ap (λ (xs : List Bit). whole p (take i bs) ++ xs) (single (carried_by p (get_or bs i d))))
  where
    single : (xs : List Bit) → xs ++ [] ≡ xs
    single [] = refl
    single (x ∷ xs) = ap (λ (ys : List Bit). x ∷ ys) (single xs)

-- the first i + 1 blocks carry what they take of S, but for the fillers
length-whole_front : (p : Plan) (bs : List Block) → IsPlan p → AreBlocksOf p bs
    → (i : ℕ) → i < length bs → length (whole p (take (i + 1) bs)) + p.f ≡ before p (i + 1)
length-whole_front p bs is shape = front
  where
    front : (i : ℕ) → i < length bs → length (whole p (take (i + 1) bs)) + p.f ≡ before p (i + 1)
    front zero lt =
        let at = shape-at p bs 0 no_block shape lt in
        let fit = fillers-fit p 0 is in
        let own = length-carried_by p (get_or bs 0 no_block) (omega (arith, at.size, at.fillers, fit)) in
        let more = whole-more p bs 0 no_block lt in
        omega (arith, ap length more, length-append (whole p (take 0 bs)) (carried_by p (get_or bs 0 no_block)), own, at.size, at.fillers, fit, before-more p 0)
    front (suc i) lt =
        let at = shape-at p bs (suc i) no_block shape lt in
        let fit = fillers-fit p (suc i) is in
        let own = length-carried_by p (get_or bs (suc i) no_block) (omega (arith, at.size, at.fillers, fit)) in
        let more = whole-more p bs (suc i) no_block lt in
        let so_far = front i (omega (arith, lt)) in
        let next : i + 1 ≡ suc i = omega arith in
        let same : length (whole p (take (i + 1) bs)) ≡ length (whole p (take (suc i) bs)) = ap (λ (n : ℕ). length (whole p (take n bs))) next in
        let taken : before p (i + 1) ≡ before p (suc i) = ap (λ (n : ℕ). before p n) next in
        omega (
          arith,
          ap length more,
          length-append (whole p (take (suc i) bs))
              (carried_by p (get_or bs (suc i) no_block)),
          own,
          at.size,
          at.fillers,
          fit,
          before-more p (suc i),
          so_far,
          same,
          taken,
          fill-later p i,
        )

-- all blocks carry the payload's bits and 24 more
pub length-whole : (p : Plan) (bs : List Block) → IsPlan p → AreBlocksOf p bs → length (whole p bs) ≡ 8 * p.bytes + 24
length-whole p bs is shape =
    let base = sound-plan p is in
    let count : p.c ≡ count_of (bits_of p.bytes) = ap (λ (q : Plan). q.c) is.planned ∙ plan-count p.bytes in
    let sound : IsSound (bits_of p.bytes + p.c * check_length p.c) p = subst (λ (c : ℕ). IsSound (bits_of p.bytes + c * check_length c) p) (sym count) base in
    let long : length bs ≡ p.c = shape-length p bs shape in
    let last : ℕ = p.c - 1 in
    let all : last + 1 ≡ p.c = omega (arith, base.some) in
    let front = length-whole_front p bs is shape last (omega (arith, long, base.some)) in
    let are : take (last + 1) bs ≡ bs = take_all (last + 1) bs (omega (arith, long, all)) in
    omega (arith, front, ap (λ (xs : List Block). length (whole p xs)) are, ap (λ (n : ℕ). before p n) all, before-whole (bits_of p.bytes) p sound)
