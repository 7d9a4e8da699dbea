-- The blocks of a payload carry its bits and their check bits.
use Rattle.std.proofs.Common.{◌≡◌, ℕ, zero, suc, ◌+◌, ◌-◌, ◌<◌, ◌≤◌, nat_lt, Bool, true, false, cond, List, [], ◌∷◌, ◌++◌, length, map, take, drop, replicate, refl, sym, ap, ◌∙◌, subst, arith, append_assoc}
use Rattle.std.specs.List.{range_with_len}
use Rattle.std.proofs.lemmas.Grind.{common_steps}
use Rattle.std.proofs.lemmas.List.{length-append, length-drop, take_all, take-append-drop, drop-append-le, take-take, drop-take, append-nil}
use Rattle.std.proofs.lemmas.List.Concat.{flat_map-append}
use Rattle.std.proofs.lemmas.List.FromFn.{map-range_with_len_more}
use Rattle.std.proofs.Math.Seq.{take-append_seam, drop-append_seam}
use Rattle.lte_bits.specs.Packing.{unpacked}
use Rattle.lte_bits.specs.declared.bit.Bit.{Bit}
use Rattle.lte_bits.specs.declared.bit.Bit.TheVariants.{Zero}
use Rattle.lte_bits.specs.declared.block.Block.{Block}
use Rattle.model_sender.specs.CheckBits.{crc, crc24a, crc24b}
use Rattle.model_sender.specs.Segmentation.{Plan, check_length, plan_of, fill}
use Rattle.model_sender.specs.CodeBlocks.{before, block, blocks, checked, share, sequence, whole}
use Rattle.model_sender.proofs.CheckBitLaws.{length-crc}
use Rattle.model_sender.proofs.PlanLaws.{plan-sound}
use Rattle.model_sender.proofs.PlanShares.{before-more, before-all}
use Rattle.segmentation.proofs.BlockSizes.{before-le, before-within, fillers-few}
use Rattle.segmentation.proofs.CutBlocks.{length-piece}
use Rattle.segmentation.proofs.OfPlans.{is_plan}
use Rattle.segmentation.proofs.WholeBits.{carried_by, fill-later}

-- ---- one block

-- after the fillers, and before the own check bits, stands the rest of the piece
without_own : (piece own : List Bit) (f l : ℕ) → length own ≡ l → f ≤ length piece → take (length (piece ++ own) - f - l) (drop f (piece ++ own)) ≡ drop f piece
without_own piece own f l long within =
    let n : length (piece ++ own) - f - l ≡ length (drop f piece) = omega (arith, length-append piece own, length-drop f piece, long, within) in
    ap (λ (k : ℕ). take k (drop f (piece ++ own))) n
    ∙ (ap (λ (xs : List Bit). take (length (drop f piece)) xs) (drop-append-le f piece own within)
    ∙ take-append_seam (drop f piece) own)

carried-checked : (c f : ℕ) (piece : List Bit) → f ≤ length piece → take (length (checked c piece) - f - check_length c) (drop f (checked c piece)) ≡ drop f piece
carried-checked c f piece within = by_test (nat_lt 1 c)
  where
    by_test : (t : Bool) → take (length (cond t (piece ++ crc crc24b piece) piece) - f - cond t 24 0) (drop f (cond t (piece ++ crc crc24b piece) piece)) ≡ drop f piece
    by_test true = without_own piece (crc crc24b piece) f 24 (length-crc crc24b piece) within
    by_test false = subst (λ (xs : List Bit). take (length xs - f - 0) (drop f xs) ≡ drop f piece) (append-nil piece) (without_own piece [] f 0 refl within)

-- ---- all blocks

-- the pieces of S, one after the other
next_piece : (all : List Bit) (b s f : ℕ) → f ≤ b → b ≤ length all → drop f (take b all) ++ take s (drop b all) ≡ drop f (take (b + s) all)
next_piece all b s f within inside =
    let front : List Bit = take b all in
    let long : f ≤ length front = grind (arith, common_steps) in
    sym (drop-append-le f front (take s (drop b all)) long)
    ∙ ap (λ (xs : List Bit). drop f xs) (joined all b s)
  where
    joined : (all : List Bit) (b s : ℕ) → take b all ++ take s (drop b all) ≡ take (b + s) all
    joined all b s =
        ap (λ (xs : List Bit). xs ++ take s (drop b all)) (sym (take-take b (b + s) all (omega arith)))
        ∙ (ap (λ (xs : List Bit). take b (take (b + s) all) ++ xs) (sym (drop-take b s all))
        ∙ take-append-drop b (take (b + s) all))

whole_made-more : (p : Plan) (payload : List ℕ) (i : ℕ) → whole p (map (block p payload) (range_with_len 0 (i + 1)))
    ≡ whole p (map (block p payload) (range_with_len 0 i)) ++ carried_by p (block p payload i)
whole_made-more p payload i =
    ap (λ (xs : List Block). whole p xs) (map-range_with_len_more (block p payload) 0 i i (omega arith))
    ∙ (flat_map-append (carried_by p) (map (block p payload) (range_with_len 0 i)) (block p payload i ∷ [])
    ∙ ap (λ (xs : List Bit). whole p (map (block p payload) (range_with_len 0 i)) ++ xs) (append-nil (carried_by p (block p payload i))))

-- the first i + 1 blocks carry the beginning of S without its fillers
whole_front : (payload : List ℕ) → 1 ≤ length payload → length payload ≤ 18722 → (i : ℕ) → i < (plan_of (length payload)).c
    → whole (plan_of (length payload)) (map (block (plan_of (length payload)) payload) (range_with_len 0 (i + 1)))
    ≡ drop (plan_of (length payload)).f (take (before (plan_of (length payload)) (i + 1)) (sequence (plan_of (length payload)) payload))
whole_front payload some few zero lt =
    let p : Plan = plan_of (length payload) in
    let all : List Bit = sequence p payload in
    let first = fillers-few p (is_plan (length payload) some few) in
    let own = carried-checked p.c p.f (take (share p 0) (drop (before p 0) all)) (omega (arith, length-piece payload 0 some few lt, first)) in
    whole_made-more p payload 0
    ∙ (own ∙ ap (λ (n : ℕ). drop p.f (take n all)) (let e : share p 0 ≡ before p (0 + 1) = omega (arith, before-more p 0) in e))
whole_front payload some few (suc i) lt =
    let p : Plan = plan_of (length payload) in
    let all : List Bit = sequence p payload in
    let first = fillers-few p (is_plan (length payload) some few) in
    let none : fill p (suc i) ≡ 0 = fill-later p i in
    let piece : List Bit = take (share p (suc i)) (drop (before p (suc i)) all) in
    let own : carried_by p (block p payload (suc i)) ≡ drop (fill p (suc i)) piece = carried-checked p.c (fill p (suc i)) piece (omega (arith, none)) in
    let carried : carried_by p (block p payload (suc i)) ≡ piece = own ∙ ap (λ (n : ℕ). drop n piece) none in
    let so_far = whole_front payload some few i (omega (arith, lt)) in
    let next : i + 1 ≡ suc i = omega arith in
    let front : whole p (map (block p payload) (range_with_len 0 (suc i))) ≡ drop p.f (take (before p (suc i)) all) =
    ap (λ (n : ℕ). whole p (map (block p payload) (range_with_len 0 n))) (sym next) ∙ (so_far ∙ ap (λ (n : ℕ). drop p.f (take (before p n) all)) next) in
    let behind : p.f ≤ before p (suc i) = omega (
      arith,
      first,
      before-more p 0,
      before-le p 1 (suc i) (let le : 1 ≤ suc i = omega arith in le),
      ap
          (λ (n : ℕ). before p n) (let e : 0 + 1 ≡ 1 = omega arith in e),
    ) in
    let inside : before p (suc i) ≤ length all = omega (arith, before-within payload (suc i) some few lt) in
    whole_made-more p payload (suc i)
    ∙ (ap (λ (xs : List Bit). xs ++ carried_by p (block p payload (suc i))) front
    ∙ (ap (λ (xs : List Bit). drop p.f (take (before p (suc i)) all) ++ xs) carried
    ∙ (next_piece all (before p (suc i)) (share p (suc i)) p.f behind inside
    ∙ ap (λ (n : ℕ). drop p.f (take n all)) (sym (before-more p (suc i))))))

pub whole-blocks : (payload : List ℕ) → 1 ≤ length payload → length payload ≤ 18722
    → whole (plan_of (length payload)) (blocks (plan_of (length payload)) payload) ≡ unpacked payload ++ crc crc24a (unpacked payload)
whole-blocks payload some few =
    let p : Plan = plan_of (length payload) in
    let all : List Bit = sequence p payload in
    let sound = plan-sound (length payload) some few in
    let last : ℕ = p.c - 1 in
    let count : last + 1 ≡ p.c = omega (arith, sound.some) in
    let front = whole_front payload some few last (omega (arith, sound.some)) in
    ap (λ (n : ℕ). whole p (map (block p payload) (range_with_len 0 n))) (sym count)
    ∙ (front
    ∙ (ap (λ (xs : List Bit). drop p.f xs) (take_all (before p (last + 1)) all (omega (arith, ap (λ (n : ℕ). before p n) count, before-all payload some few)))
    ∙ without_fillers p.f (unpacked payload) (crc crc24a (unpacked payload))))
  where
    without_fillers : (f : ℕ) (a b : List Bit) → drop f (replicate f Zero ++ a ++ b) ≡ a ++ b
    without_fillers f a b =
        let long : length (replicate f Zero) ≡ f = grind (arith, common_steps) in
        ap (λ (xs : List Bit). drop f xs) (append_assoc (replicate f Zero) a b)
        ∙ (ap (λ (n : ℕ). drop n (replicate f Zero ++ (a ++ b))) (sym long)
        ∙ drop-append_seam (replicate f Zero) (a ++ b))
