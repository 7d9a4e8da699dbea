-- The cells of a code block before the first reception.
use Rattle.std.proofs.Common.{◌≡◌, ℕ, ◌+◌, ◌*◌, ◌<◌, ℤ, pos, List, [], map, replicate, ap, ◌∙◌, arith}
use Rattle.std.specs.List.{range_with_len}
use Rattle.std.proofs.lemmas.List.FromFn.{get_or-map-range_with_len}
use Rattle.model_sender.specs.Segmentation.{Plan, size}
use Rattle.soft_buffers.specs.Buffers.{cells_of_block}

abbrev pub fresh : Plan → ℕ → List ℤ
fresh plan r = replicate (3 * (size plan r + 4)) (pos 0)

pub fresh-block : (plan : Plan) (blocks : List (List ℤ)) (n q : ℕ) → blocks ≡ map (fresh plan) (range_with_len 0 n) → q < n → cells_of_block blocks q ≡ fresh plan q
fresh-block plan blocks n q are below = ap (λ bs. cells_of_block bs q) are ∙ get_or-map-range_with_len (fresh plan) 0 n q q [] below (omega arith)
