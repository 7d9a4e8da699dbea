-- A full buffer fits every plan.
use Rattle.std.proofs.Common.{◌≡◌, ℕ, None, sym, subst}
use Rattle.std.specs.declared.option.Option.{Option}
use Rattle.model_sender.specs.CircularBuffer.{Match, Fits, FitsIn}
use Rattle.model_sender.specs.Segmentation.{Plan}

pub fits_full : (m : Match) (plan : Plan) → m.limit ≡ None → Fits m plan
fits_full m plan full =
    let P : Option ℕ → Type 0 = λ limit. FitsIn limit plan.c plan.k_plus in
    subst P (sym full) tt
