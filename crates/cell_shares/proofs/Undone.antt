-- A deal is undone in one way.
use Rattle.std.proofs.Common.{◌≡◌, ℕ, zero, suc, ◌+◌, ◌*◌, ◌/◌, List, [], ◌∷◌, ◌++◌, length, get_or, map, refl, sym, ap, ◌∙◌, subst, arith}
use Prim.Native.Nat.{◌∣◌}
use lib.ListN.{take, drop}
use Rattle.std.specs.List.{range_with_len, flat_map}
use Rattle.std.proofs.lemmas.List.{append_assoc}
use Rattle.model_sender.specs.InterleaverLaws.{windows-whole}
use Rattle.cell_shares.specs.Deal.{share_places, values_at, deal}
use Rattle.cell_shares.specs.Orders.{place_in, order_places, IsOrderOf}
use Rattle.cell_shares.specs.Parts.{numbered, places, values}
use Rattle.cell_shares.specs.declared.order.Order.{Order}
use Rattle.cell_shares.proofs.Numbers.{places-numbered, values-numbered}
use Rattle.cell_shares.proofs.Placed.{dealt_places}
use Rattle.cell_shares.proofs.Shuffles.{Carried, carried}
use Rattle.cell_shares.proofs.Told.{Tells, told_values, tells_shuffled, tells_shuffled_back, tells_all, run-append}

module _ {X : Type 0} where
  values-append : (v : List X) (xs ys : List ℕ) → values_at v (xs ++ ys) ≡ values_at v xs ++ values_at v ys
  values-append v [] ys = refl
  values-append v (x ∷ xs) ys = ap (λ (l : List X). take 1 (drop x v) ++ l) (values-append v xs ys) ∙ sym (append_assoc (take 1 (drop x v)) (values_at v xs) (values_at v ys))

  -- the lists of shares, one after the other
  all_given : (order : Order) (v : List X) (w n t : ℕ) →
      flat_map (λ l. l) (map (λ t. values_at v (share_places order w t)) (range_with_len t n)) ≡ values_at v (map (λ i. place_in order i) (range_with_len (t * w) (n * w)))
  all_given order v w zero t = let z : 0 ≡ 0 * w = omega arith in ap (λ (k : ℕ). values_at v (map (λ i. place_in order i) (range_with_len (t * w) k))) z
  all_given order v w (suc n) t =
      let place = (λ (i : ℕ). place_in order i) in let a : (t + 1) * w ≡ t * w + w = omega arith in let b : w + n * w ≡ suc n * w = omega arith in
      ap (λ (l : List X). values_at v (share_places order w t) ++ l) (all_given order v w n (t + 1) ∙ ap (λ (k : ℕ). values_at v (map place (range_with_len k (n * w)))) a)
      ∙ (sym (values-append v (map place (range_with_len (t * w) w)) (map place (range_with_len (t * w + w) (n * w))))
      ∙ ap (values_at v) (sym (run-append place (t * w) w (n * w)) ∙ ap (λ (k : ℕ). map place (range_with_len (t * w) k)) b))

  -- cells are told by their places and values
  same_cells : (cs ds : List (ℕ × X)) → places cs ≡ places ds → values cs ≡ values ds → cs ≡ ds
  same_cells [] [] p e = refl
  same_cells [] (d ∷ ds) p e = let no : 0 ≡ suc (length (places ds)) = ap length p in absurd (omega (arith, no))
  same_cells (c ∷ cs) [] p e = let no : suc (length (places cs)) ≡ 0 = ap length p in absurd (omega (arith, no))
  same_cells (c ∷ cs) (d ∷ ds) p e = let rest = same_cells cs ds (ap (drop 1) p) (ap (drop 1) e) in
      λ i. (get_or (p i) 0 0, get_or (e i) 0 c.1) ∷ rest i

  told : (v : List X) → Tells v (numbered 0 v)
  told v = subst (λ (u : List X). Tells u (numbered 0 v)) (values-numbered 0 v) (tells_all (length v) (numbered 0 v) (places-numbered 0 v))

  -- v's values at all places, in order
  itself : (v : List X) → v ≡ values_at v (range_with_len 0 (length v))
  itself v = sym (values-numbered 0 v) ∙ (told_values v (numbered 0 v) (told v) ∙ ap (values_at v) (places-numbered 0 v))

  module _ (order : Order) (k : ℕ) (is : IsOrderOf k order) where
    cells_of : (v : List X) → length v ≡ k → Carried (numbered 0 v) (order_places order k)
    cells_of v long = carried (range_with_len 0 k) (order_places order k) (numbered 0 v) (dealt_places order k is) (places-numbered 0 v ∙ ap (range_with_len 0) long)

    same_list : (v u : List X) → length v ≡ k → length u ≡ k → values_at v (order_places order k) ≡ values_at u (order_places order k) → v ≡ u
    same_list v u lv lu e =
        let cv = cells_of v lv in let cu = cells_of u lu in
        let tv : Tells v cv.cells = tells_shuffled v (numbered 0 v) cv.cells cv.shuffled (told v) in let tu : Tells u cu.cells = tells_shuffled u (numbered 0 u) cu.cells cu.shuffled (told u) in
        let vv = told_values v cv.cells tv ∙ ap (values_at v) cv.placed in let vu = told_values u cu.cells tu ∙ ap (values_at u) cu.placed in
        let one = same_cells cv.cells cu.cells (cv.placed ∙ sym cu.placed) (vv ∙ (e ∙ sym vu)) in
        let both : Tells v (numbered 0 u) = tells_shuffled_back v (numbered 0 u) cu.cells cu.shuffled (subst (Tells v) one tv) in
        itself v ∙ (ap (λ (n : ℕ). values_at v (range_with_len 0 n)) (lv ∙ sym lu) ∙ (ap (values_at v) (sym (places-numbered 0 u)) ∙ (sym (told_values v (numbered 0 u) both) ∙ values-numbered 0 u)))

  pub undone : (order : Order) (m : ℕ) (v u : List X) → m ∣ length v → length u ≡ length v → IsOrderOf (length v) order → deal order m v ≡ deal order m u → v ≡ u
  undone order m v u d long is e =
      let w : ℕ = length v / m in let whole : m * w ≡ length v = windows-whole (length v) m d in let z : 0 * w ≡ 0 = omega arith in
      let flat = λ (x : List X). all_given order x w m 0 ∙ (λ i. values_at x (map (λ j. place_in order j) (range_with_len (z i) (whole i)))) in
      let dealt = ap (flat_map (λ l. l)) (e ∙ ap (λ (k : ℕ). map (λ t. values_at u (share_places order (k / m) t)) (range_with_len 0 m)) long) in
      same_list order (length v) is v u refl long (sym (flat v) ∙ (dealt ∙ flat u))
