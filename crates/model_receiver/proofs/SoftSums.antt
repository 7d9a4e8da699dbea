-- What one more reception does to a soft cell.
use Rattle.std.proofs.Common.{◌≡◌, ℕ, pos, List, [], ◌∷◌, ◌++◌, fold, ap, ◌∙◌}
use Rattle.std.proofs.lemmas.Grind.{flat_map-append}
use Rattle.std.proofs.lemmas.List.{append-nil}
use Rattle.std.proofs.lemmas.List.Sums.{fold-append}
use Rattle.model_sender.specs.Segmentation.{Plan}
use Rattle.model_sender.specs.declared.spot.Spot.{Spot}
use Rattle.model_receiver.specs.SoftCells.{Reception, added, soft_cell, values_for, values_of}

pub cell-more : (plan : Plan) (xs : List Reception) (x : Reception) (r : ℕ) (s : Spot) →
    soft_cell plan (xs ++ x ∷ []) r s ≡ fold added (soft_cell plan xs r s) (values_of plan x r s)
cell-more plan xs x r s =
    let all : values_for plan (xs ++ x ∷ []) r s ≡ values_for plan xs r s ++ values_of plan x r s =
    flat_map-append (λ y. values_of plan y r s) xs (x ∷ []) ∙ ap (λ vs. values_for plan xs r s ++ vs) (append-nil (values_of plan x r s)) in
    ap (fold added (pos 0)) all ∙ fold-append added (pos 0) (values_for plan xs r s) (values_of plan x r s)
