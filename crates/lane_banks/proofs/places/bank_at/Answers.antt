use Rattle.std.proofs.Common.{ℕ, ◌/◌, List, length, get_or, ap, ◌∙◌, arith}
use Rattle.std.specs.Prelude.{slice_index}
use Rattle.std.proofs.lemmas.List.FromFn.{get_or-map-range_with_len}
use Rattle.lane_banks.proofs.places.bank_at.Goals as goal

pub returns : goal.returns
returns c =
    let p : ℕ = slice_index c.args.places.now c.args.i in
    ap (λ (k : ℕ). get_or c.args.banks.now k 0) c.from.ensures
    ∙ (ap (λ (xs : List ℕ). get_or xs p 0) c.requires.banks
    ∙ get_or-map-range_with_len (λ (n : ℕ). n / c.args.width) 0 (length c.args.banks.now) p p 0 c.requires.place (omega arith))
