-- What the shares of one split have in common.
use Rattle.std.proofs.Common.{◌≡◌, ℕ, suc, ◌*◌, ◌<◌, List, [], ◌∷◌, length, get_or, map, refl, sym, ap, ◌∙◌, arith}
use lib.ListN.{length-map}
use Rattle.std.proofs.lemmas.List.{get_or-map}
use Rattle.std.proofs.lemmas.List.FromFn.{get_or-map-range_with_len, length-map-range_with_len}
use Rattle.cell_shares.specs.declared.cells.Cells.{Cells}
use Rattle.cell_shares.specs.declared.order.Order.{Order}
use Rattle.cell_shares.specs.declared.share.Share.{Share}
use Rattle.cell_shares.specs.Names.{Name}
use Rattle.cell_shares.specs.Shares.{name_of, cell_values, share_name, share_values, share_label, AreAllOf}
use Rattle.cell_shares.proofs.Numbers.{values-long}
use Rattle.cell_shares.proofs.Positions.{width-long}

module _ {X : Type 0} where
  pub cells-long : (c : Cells X) → length (cell_values c) ≡ (name_of c).count
  cells-long c = sym (values-long 0 c.count c.part.cells c.numbered) ∙ c.counted

  -- the shares of one name have one width
  pub width-whole : (s : Share X) → (share_name s).count ≡ (share_name s).windows * length (share_values s)
  width-whole s = sym s.counted ∙ (s.split.whole ∙ ap (λ (w : ℕ). s.split.windows * w) (sym (width-long s)))

  -- shares that have the labels of other shares
  pub labels-same : (xs ys : List (Share X)) → length ys ≡ length xs → ((i : ℕ) (d : Share X) → i < length xs → share_label (get_or ys i d) ≡ share_label (get_or xs i d))
      → map share_label ys ≡ map share_label xs
  labels-same [] [] long each = refl
  labels-same [] (y ∷ ys) long each = let no : suc (length ys) ≡ 0 = long in absurd (omega (arith, no))
  labels-same (x ∷ xs) [] long each = let no : 0 ≡ suc (length xs) = long in absurd (omega (arith, no))
  labels-same (x ∷ xs) (y ∷ ys) long each =
      let same : suc (length ys) ≡ suc (length xs) = long in
      let first = each 0 x (omega arith) in let others = labels-same xs ys (omega (arith, same)) (λ i d h. each (suc i) d (omega (arith, h))) in λ i. first i ∷ others i

  module _ (name : Name) (order : Order) (shares : List (Share X)) (all : AreAllOf name order shares) where
    pub shares-long : length shares ≡ name.windows
    shares-long = sym (length-map shares share_label) ∙ (ap length all.1 ∙ length-map-range_with_len (λ t. (name, (order, t))) 0 name.windows)

    pub share-told : (t : ℕ) (d : Share X) → t < length shares → share_label (get_or shares t d) ≡ (name, (order, t))
    share-told t d h =
        sym (get_or-map share_label shares t d (name, (order, t)) h) ∙ (ap (λ (l : List _). get_or l t (name, (order, t))) all.1
        ∙ get_or-map-range_with_len (λ t. (name, (order, t))) 0 name.windows t t (name, (order, t)) (let long = shares-long in omega (arith, long, h)) (omega arith))

    pub still-all : (others : List (Share X)) → map share_label others ≡ map share_label shares → AreAllOf name order others
    still-all others e = (all.0, e ∙ all.1)
