-- Which cell is where, in a share and in all cells.
use Rattle.std.proofs.Common.{◌≡◌, ℕ, suc, ◌+◌, ◌*◌, ◌<◌, ◌≤◌, length, sym, ap, ◌∙◌, subst, arith}
use Rattle.std.proofs.Math.Nat.{mul-le-mul_left}
use lib.ListN.{length-map}
use Rattle.cell_shares.specs.Orders.{place_in}
use Rattle.cell_shares.specs.Parts.{IsCell}
use Rattle.cell_shares.specs.declared.cells.Cells.{Cells}
use Rattle.cell_shares.specs.declared.order.Order.TheVariants.{Natural}
use Rattle.cell_shares.specs.declared.share.Share.{Share}
use Rattle.cell_shares.specs.Shares.{cell_values, share_values, share_place}
use Rattle.cell_shares.proofs.Changed.{cell_of}
use Rattle.cell_shares.proofs.Numbers.{values-long}
use Rattle.cell_shares.proofs.Placed.{place-below, natural_places}
use Rattle.cell_shares.proofs.Told.{run-long}

in_window : (t m w j : ℕ) → t < m → j < w → t * w + j < m * w
in_window t m w j ht hj =
    let le : w * suc t ≤ w * m = mul-le-mul_left w (let h : suc t ≤ m = omega (arith, ht) in h) in
    let a : w * suc t ≡ t * w + w = omega arith in let b : w * m ≡ m * w = omega arith in omega (arith, le, a, b, hj)

module _ {X : Type 0} (s : Share X) where
  pub width-long : length (share_values s) ≡ s.split.width
  width-long =
      length-map s.part.cells (λ c. c.1) ∙ sym (length-map s.part.cells (λ c. c.0)) ∙ ap length s.dealt
      ∙ run-long (λ i. place_in s.split.order i) (s.number * s.split.width) s.split.width

  module _ (j : ℕ) (h : j < length (share_values s)) where
    pub in_width : j < s.split.width
    in_width = subst (λ (n : ℕ). j < n) width-long h

    pub position_below : s.first + j < s.split.count
    position_below =
        let b = in_window s.number s.split.windows s.split.width j s.numbered in_width in let f = s.begins in let w = s.split.whole in
        subst (λ (n : ℕ). s.first + j < n) (sym w) (subst (λ (n : ℕ). n + j < s.split.windows * s.split.width) (sym f) b)

    -- cell j is at the place of position first + j
    cell_here : (x : X) × IsCell s.part.cells j (place_in s.split.order (s.first + j)) x
    cell_here =
        subst (λ (n : ℕ). (x : X) × IsCell s.part.cells j (place_in s.split.order (n + j)) x) (sym s.begins)
        (cell_of (λ i. place_in s.split.order i) (s.number * s.split.width) s.split.width j s.part.cells s.dealt in_width)

    pub place_is : share_place s j ≡ place_in s.split.order (s.first + j)
    place_is = ap (λ (n : ℕ). place_in s.split.order (n + j)) (ap (λ (w : ℕ). s.number * w) width-long ∙ sym s.begins)

    -- a number that is cell j's place
    pub at_place : (n : ℕ) → n ≡ share_place s j → (n < s.part.count) × ((x : X) × IsCell s.part.cells j n x)
    at_place n is =
        let order = s.split.order in let here : place_in order (s.first + j) ≡ n = sym (is ∙ place_is) in
        let below = place-below order s.split.count (s.first + j) s.split.fits position_below in (
          subst (λ (k : ℕ). n < k) s.counted (subst (λ (k : ℕ). k < s.split.count) here below),
          subst (λ (k : ℕ). (x : X) × IsCell s.part.cells j k x) here cell_here,
        )

-- cell n of all cells is at place n
pub cell_at : {X : Type 0} (c : Cells X) (n : ℕ) → n < length (cell_values c) → (n < c.part.count) × ((x : X) × IsCell c.part.cells n n x)
cell_at c n h =
    let k = c.count in let low : n < k = subst (λ (m : ℕ). n < m) (sym (values-long 0 k c.part.cells c.numbered)) h in let z : 0 + n ≡ n = omega arith in (
      subst (λ (m : ℕ). n < m) c.counted low,
      subst (λ (m : ℕ). (x : _) × IsCell c.part.cells n m x) z (cell_of (λ i. place_in Natural i) 0 k n c.part.cells (c.numbered ∙ sym (natural_places k)) low),
    )
