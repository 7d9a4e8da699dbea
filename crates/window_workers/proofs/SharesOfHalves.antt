-- The shares of a half have the cells of its windows.
use Rattle.std.proofs.Common.{◌≡◌, ℕ, zero, suc, ◌+◌, ◌*◌, ◌/◌, ◌<◌, List, [], ◌∷◌, ◌++◌, length, get_or, map, take, drop, refl, ap, ◌∙◌, subst, arith}
use Rattle.std.specs.List.{range_with_len}
use Rattle.model_receiver.specs.Windows.{Extrinsic, zero_cell}
use Rattle.model_receiver.specs.HalfIteration.{Shape, Before, window_width, order, cells_in}
use Rattle.model_receiver.proofs.PlacesOfPositions.{order-apart}
use Rattle.half_iteration.specs.Views.{AreWhole}
use Rattle.half_iteration.proofs.WindowParts.{position-inside}
use Rattle.cell_shares.specs.declared.order.Order.{Order}
use Rattle.cell_shares.specs.Orders.{place_in}
use Rattle.cell_shares.specs.Deal.{share_places, values_at}
use Rattle.window_workers.specs.Orders.{IsOrderIn}
use Rattle.window_workers.proofs.OrdersOfHalves.{place-of_order}

one : {X : Type 0} (v : List X) (n : ℕ) (d : X) → n < length v → take 1 (drop n v) ≡ get_or v n d ∷ []
one [] n d lt = absurd (omega (arith, lt))
one (x ∷ xs) zero d lt = refl
one (x ∷ xs) (suc n) d lt = one xs n d (omega (arith, lt))

-- the values at places that there are
values-of : {X : Type 0} (f : ℕ → ℕ) (v : List X) (d : X) (a n : ℕ) → ((i : ℕ) → i < n → f (a + i) < length v)
    → values_at v (map f (range_with_len a n)) ≡ map (λ i. get_or v (f i) d) (range_with_len a n)
values-of f v d a zero below = refl
values-of f v d a (suc n) below =
    let first : f a < length v = subst (λ (i : ℕ). f i < length v) (let e : a + 0 ≡ a = omega arith in e) (below 0 (omega arith)) in
    ap (λ l. l ++ values_at v (map f (range_with_len (a + 1) n))) (one v (f a) d first)
    ∙ ap (λ l. get_or v (f a) d ∷ l)
    (values-of f v d (a + 1) n (λ i li. subst (λ (j : ℕ). f j < length v) (let e : a + suc i ≡ a + 1 + i = omega arith in e) (below (suc i) (omega arith))))

-- what window t of a deal has
abbrev pub dealt : Order → Shape → List Extrinsic → ℕ → List Extrinsic
dealt o shape v t = values_at v (share_places o (length v / shape.windows) t)

pub dealt-cells : (shape : Shape) (h t : ℕ) (o : Order) (b : Before) → AreWhole shape → t < shape.windows → length b.cells ≡ shape.k → IsOrderIn shape.k h o
    → dealt o shape b.cells t ≡ cells_in shape h b t
dealt-cells shape h t o b whole lt long is =
    let w : ℕ = window_width shape in
    let place : (i : ℕ) → place_in o i ≡ order shape.k h i = place-of_order shape.k h o whole.size is in
    let apart = order-apart shape.k h whole.size in
    ap (λ (n : ℕ). values_at b.cells (share_places o (n / shape.windows) t)) long
    ∙ (values-of (λ i. place_in o i) b.cells zero_cell (t * w) w
    (λ i li. let inside = apart.below (t * w + i) (position-inside shape t i whole lt li) in rw (place (t * w + i)) (omega (arith, long, inside)))
    ∙ ap (λ (f : ℕ → ℕ). map (λ i. get_or b.cells (f i) zero_cell) (range_with_len (t * w) w)) (λ j i. place i j))
