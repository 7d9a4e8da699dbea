-- The four shares of 40 cells: ten each, and where these are.
use Rattle.std.proofs.Common.{◌≡◌, ℕ, ◌+◌, ◌*◌, ◌<◌, List, length, get_or, sym, ap, ◌∙◌, arith}
use Rattle.cell_shares.specs.Orders.{place_in}
use Rattle.cell_shares.specs.declared.order.Order.{Order}
use Rattle.cell_shares.specs.declared.share.Share.{Share}
use Rattle.cell_shares.specs.Names.{Name}
use Rattle.cell_shares.specs.Shares.{share_name, share_values, share_place, share_label, AreAllOf}
use Rattle.cell_shares.proofs.Labels.{shares-long, share-told, width-whole}

module _ {X : Type 0} (name : Name) (order : Order) (shares : List (Share X)) (all : AreAllOf name order shares) (count : name.count ≡ 40) (windows : name.windows ≡ 4) where
  pub four : length shares ≡ 4
  four = shares-long name order shares all ∙ windows

  label_is : (t : ℕ) (s d : Share X) → t < 4 → s ≡ get_or shares t d → share_label s ≡ (name, (order, t))
  label_is t s d h is = ap share_label is ∙ share-told name order shares all t d (let n = four in omega (arith, n, h))

  pub ten : (t : ℕ) (s d : Share X) → t < 4 → s ≡ get_or shares t d → length (share_values s) ≡ 10
  ten t s d h is =
      let named : share_name s ≡ name = ap (λ (l : Name × (Order × ℕ)). l.0) (label_is t s d h is) in
      let whole : (share_name s).count ≡ (share_name s).windows * length (share_values s) = width-whole s in
      let a : (share_name s).count ≡ 40 = ap (λ (n : Name). n.count) named ∙ count in let b : (share_name s).windows ≡ 4 = ap (λ (n : Name). n.windows) named ∙ windows in
      let product : 40 ≡ 4 * length (share_values s) = sym a ∙ (whole ∙ ap (λ (m : ℕ). m * length (share_values s)) b) in omega (arith, product)

  pub place_is : (t j : ℕ) (s d : Share X) → t < 4 → s ≡ get_or shares t d → place_in order (t * 10 + j) ≡ share_place s j
  place_is t j s d h is = let label = label_is t s d h is in let long = ten t s d h is in sym (λ i. place_in ((label i).1.0) ((label i).1.1 * long i + j))
