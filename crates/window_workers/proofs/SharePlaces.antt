-- The places of a share's cells, as a list.
use Rattle.std.proofs.Common.{◌≡◌, ℕ, ◌+◌, ◌*◌, ◌<◌, List, length, get_or, ap, ◌∙◌, refl}
use Rattle.std.proofs.lemmas.List.FromFn.{length-map-range_with_len, get_or-map-range_with_len}
use Rattle.cell_shares.specs.declared.order.Order.{Order}
use Rattle.cell_shares.specs.Deal.{share_places}
use Rattle.cell_shares.specs.Orders.{place_in}

pub long-places : (order : Order) (w t : ℕ) (places : List ℕ) → places ≡ share_places order w t → length places ≡ w
long-places order w t places e = ap length e ∙ length-map-range_with_len (place_in order) (t * w) w

pub place-at : (order : Order) (w t j : ℕ) (places : List ℕ) → places ≡ share_places order w t → j < w → get_or places j 0 ≡ place_in order (t * w + j)
place-at order w t j places e lt =
    ap (λ (xs : List ℕ). get_or xs j 0) e ∙ get_or-map-range_with_len (place_in order) (t * w) w j (t * w + j) 0 lt refl
