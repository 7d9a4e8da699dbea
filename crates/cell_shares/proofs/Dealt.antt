-- Which value is where in a deal.
use Rattle.std.proofs.Common.{◌≡◌, ℕ, zero, suc, ◌+◌, ◌*◌, ◌/◌, ◌<◌, List, [], ◌∷◌, ◌++◌, length, get_or, map, refl, ap, ◌∙◌, subst, arith}
use Prim.Native.Nat.{◌∣◌}
use lib.ListN.{take, drop}
use Rattle.std.specs.List.{range_with_len}
use Rattle.std.proofs.lemmas.List.FromFn.{get_or-map-range_with_len, length-map-range_with_len}
use Rattle.model_sender.specs.InterleaverLaws.{window_place_below}
use Rattle.cell_shares.specs.Deal.{share_places, values_at, deal}
use Rattle.cell_shares.specs.Orders.{place_in, IsOrderOf}
use Rattle.cell_shares.specs.declared.order.Order.{Order}
use Rattle.cell_shares.proofs.Placed.{place-below}

module _ {X : Type 0} where
  value-taken : (v : List X) (n : ℕ) (x : X) → n < length v → take 1 (drop n v) ≡ get_or v n x ∷ []
  value-taken [] n x h = absurd (omega (arith, h))
  value-taken (y ∷ v) zero x h = refl
  value-taken (y ∷ v) (suc n) x h = value-taken v n x (omega (arith, h))

  any-of : (v : List X) (n : ℕ) → n < length v → X
  any-of [] n h = absurd (omega (arith, h))
  any-of (x ∷ v) n h = x

  -- n places of v, which f names from a on
  module _ (f : ℕ → ℕ) (v : List X) where
    abbrev ArePlaces : ℕ → ℕ → Type 0
    ArePlaces a n = (j : ℕ) → j < n → f (a + j) < length v

    values-listed : (a n : ℕ) (x : X) → ArePlaces a n → values_at v (map f (range_with_len a n)) ≡ map (λ i. get_or v (f i) x) (range_with_len a n)
    values-listed a zero x are = refl
    values-listed a (suc n) x are =
        let z : a + 0 ≡ a = omega arith in let here = value-taken v (f a) x (subst (λ (i : ℕ). f i < length v) z (are 0 (omega arith))) in
        let next = λ (j : ℕ) (h : j < n). (let s : a + suc j ≡ (a + 1) + j = omega arith in subst (λ (i : ℕ). f i < length v) s (are (suc j) (omega (arith, h)))) in
        let others = values-listed (a + 1) n x next in λ i. here i ++ others i

    values-many : (a n : ℕ) → ArePlaces a n → length (values_at v (map f (range_with_len a n))) ≡ n
    values-many a zero are = refl
    values-many a (suc n) are =
        let x = any-of v (f (a + 0)) (are 0 (omega arith)) in ap length (values-listed a (suc n) x are) ∙ length-map-range_with_len (λ i. get_or v (f i) x) a (suc n)

    value-listed : (a n j : ℕ) (x : X) → ArePlaces a n → j < n → get_or (values_at v (map f (range_with_len a n))) j x ≡ get_or v (f (a + j)) x
    value-listed a n j x are h = ap (λ (l : List X). get_or l j x) (values-listed a n x are) ∙ get_or-map-range_with_len (λ i. get_or v (f i) x) a n j (a + j) x h refl

-- list t of a deal of v to m shares of w values
module _ {X : Type 0} (order : Order) (m : ℕ) (v : List X) (divides : m ∣ length v) (is : IsOrderOf (length v) order) (t : ℕ) (h : t < m) where
  abbrev w : ℕ
  w = length v / m

  abbrev place : ℕ → ℕ
  place i = place_in order i

  share_below : ArePlaces place v (t * w) w
  share_below j l = let s : j + t * w ≡ t * w + j = omega arith in
      place-below order (length v) (t * w + j) is (subst (λ (i : ℕ). i < length v) s (window_place_below (length v) m j t divides l h))

  dealt-list : get_or (deal order m v) t [] ≡ values_at v (share_places order w t)
  dealt-list = get_or-map-range_with_len (λ s. values_at v (share_places order w s)) 0 m t t [] h (omega arith)

  pub dealt-width : length (get_or (deal order m v) t []) ≡ w
  dealt-width = ap length dealt-list ∙ values-many place v (t * w) w share_below

  pub dealt-value : (j : ℕ) (x : X) → j < w → get_or (get_or (deal order m v) t []) j x ≡ get_or v (place (t * w + j)) x
  dealt-value j x l = ap (λ (ys : List X). get_or ys j x) dealt-list ∙ value-listed place v (t * w) w j x share_below l
