-- The streams of a transport block's code blocks.
use Rattle.std.proofs.Common.{◌≡◌, ℕ, ◌+◌, ◌<◌, List, [], ◌∷◌, ◌++◌, length, map, get_or, flat_map, sym, ap, subst, ◌∙◌, arith}
use Rattle.std.specs.List.{range_with_len}
use Rattle.std.proofs.lemmas.List.FromFn.{get_or-map-range_with_len, length-map-range_with_len}
use Rattle.std.proofs.Math.ListN.{get_or-map}
use Rattle.std.proofs.lemmas.Grind.{flat_map-append}
use Rattle.std.proofs.lemmas.List.{append-nil, length-map}
use Rattle.rate_match.proofs.Walked.{range-split}
use Rattle.lte_bits.specs.declared.block.Block.{Block}
use Rattle.model_sender.specs.Segmentation.{Plan, size, fill}
use Rattle.model_sender.specs.CodeBlocks.{block, blocks}
use Rattle.model_sender.specs.CodedStreams.{streams}
use Rattle.model_sender.specs.CircularBuffer.{AreStreams}
use Rattle.model_sender.proofs.StreamNulls.{streams-nulls}
use Rattle.segmentation.specs.Shape.{AreBlocksOf}
use Rattle.rate_match.proofs.BlockNumbers.{IsBlockOf}

-- what the elements of a list are as functions of their places
at-map : {X Y : Type 0} (f : X → Y) (g : ℕ → Y) (xs : List X) (c r : ℕ) (x : X) → map f xs ≡ map g (range_with_len 0 c) → r < c → x ≡ get_or xs r x → f x ≡ g r
at-map f g xs c r x same within is =
    ap f is ∙ sym (get_or-map f xs r x) ∙ ap (λ ys. get_or ys r (f x)) same ∙ get_or-map-range_with_len g 0 c r r (f x) within (omega arith)

-- what blocks of a plan's shape are coded to
pub block-streams : (p : Plan) (bs : List Block) (r : ℕ) (b : Block) → IsBlockOf p r → AreBlocksOf p bs → r < p.c → b ≡ get_or bs r b → AreStreams (size p r) (fill p r) (streams b)
block-streams p bs r b numbers shape within is =
    let long : length b.bits ≡ size p r = at-map (λ (x : Block). length x.bits) (size p) bs p.c r b shape.sizes within is in
    let fillers : b.fill ≡ fill p r = at-map (λ (x : Block). x.fill) (fill p) bs p.c r b shape.fillers within is in
    placed long fillers (streams-nulls b (omega (arith, long, fillers, numbers.fills)))
  where
    placed : {k l f g : ℕ} → k ≡ l → f ≡ g → AreStreams k f (streams b) → AreStreams l g (streams b)
    placed {k} {l} {f} {g} size fill are = subst (λ (n : ℕ). AreStreams l n (streams b)) fill (subst (λ (n : ℕ). AreStreams n f (streams b)) size are)

pub shape-count : (p : Plan) (bs : List Block) → AreBlocksOf p bs → length bs ≡ p.c
shape-count p bs shape = sym (length-map bs (λ (b : Block). length b.bits)) ∙ ap length shape.sizes ∙ length-map-range_with_len (size p) 0 p.c

pub blocks-count : (p : Plan) (payload : List ℕ) (bs : List Block) → bs ≡ blocks p payload → length bs ≡ p.c
blocks-count p payload bs all = ap length all ∙ length-map-range_with_len (block p payload) 0 p.c

-- the lists of one block more
pub flat_map-more : {X : Type 0} (f : ℕ → List X) (r : ℕ) → flat_map f (range_with_len 0 (r + 1)) ≡ flat_map f (range_with_len 0 r) ++ f r
flat_map-more f r =
    ap (flat_map f) (range-split 0 r 1 ∙ ap (λ (n : ℕ). range_with_len 0 r ++ n ∷ []) (let e : 0 + r ≡ r = omega arith in e))
    ∙ flat_map-append f (range_with_len 0 r) (r ∷ [])
    ∙ ap (λ xs. flat_map f (range_with_len 0 r) ++ xs) (append-nil (f r))
