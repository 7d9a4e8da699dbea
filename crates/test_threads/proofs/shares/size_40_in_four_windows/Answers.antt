use Rattle.std.proofs.Common.{◌≡◌, length, List, ℕ, ◌<◌, get_or, slice_set, sym, ap, ◌∙◌, subst, arith}
use Prim.Native.Nat.{◌∣◌}
use Rattle.std.proofs.lemmas.Nat.Gcd.{dvd_of_mod-eq-zero}
use Rattle.std.proofs.Math.Seq.{map-set_same}
use Rattle.cell_shares.specs.Orders.{place_in}
use Rattle.cell_shares.specs.declared.order.Order.{Order}
use Rattle.cell_shares.specs.declared.order.Order.TheVariants.{Interleaved}
use Rattle.cell_shares.specs.declared.share.Share.{Share}
use Rattle.cell_shares.specs.Names.{Name}
use Rattle.cell_shares.specs.Shares.{name_of, share_label, share_values, share_place, AreAllOf}
use Rattle.cell_shares.proofs.Labels.{cells-long, still-all}
use Rattle.test_threads.proofs.Forties.{four, ten, place_is}
use Rattle.test_threads.proofs.shares.size_40_in_four_windows.Goals as goal
use Rattle.test_threads.proofs.shares.size_40_in_four_windows.Goals.{After-split-shares, After-set}

pub new-requires-clause-divides : goal.new-requires-clause-divides
new-requires-clause-divides g c = subst (λ (n : ℕ). 4 ∣ n) (sym c.in_ok-numbers.ensures) (dvd_of_mod-eq-zero 4 {n = 40} (omega arith))

module _ (g : _) (c : After-split-shares g) where
  abbrev name : Name
  name = name_of c.in_ok-new.field-0

  abbrev order : Order
  order = Interleaved c.expect.result

  abbrev items : List (Share ℕ)
  items = c.split-shares.result.items

  all : AreAllOf name order items
  all = c.split-shares.ensures.shares

  many : name.count ≡ 40
  many = c.in_ok-new.ensures.count ∙ c.in_ok-numbers.ensures

  tens : (t : ℕ) (s : Share ℕ) → t < 4 → s ≡ get_or items t s → 1 < length (share_values s)
  tens t s h is = let k = ten name order items all many c.in_ok-new.ensures.windows t s s h is in omega (arith, k)

  fours : length items ≡ 4
  fours = four name order items all many c.in_ok-new.ensures.windows

  -- cell 1 of share 2
  at_21 : (s : Share ℕ) → s ≡ get_or items 2 s → place_in order 21 ≡ share_place s 1
  at_21 s is = place_is name order items all many c.in_ok-new.ensures.windows 2 1 s s (omega arith) is

pub get-requires : goal.get-requires
get-requires g c = tens g (goal.at.get-requires g c).After-split-shares 0 c.index.result.now (omega arith) c.index.ensures

pub index-requires-2 : goal.index-requires-2
index-requires-2 g c = let n = fours g (goal.at.index-requires-2 g c).After-split-shares in omega (arith, n)

pub get-requires-2 : goal.get-requires-2
get-requires-2 g c = tens g (goal.at.get-requires-2 g c).After-split-shares 1 c.index-2.result.now (omega arith) c.index-2.ensures

pub index-requires-3 : goal.index-requires-3
index-requires-3 g c = let n = fours g (goal.at.index-requires-3 g c).After-split-shares in omega (arith, n)

pub get-requires-3 : goal.get-requires-3
get-requires-3 g c = tens g (goal.at.get-requires-3 g c).After-split-shares 2 c.index-3.result.now (omega arith) c.index-3.ensures

pub index-requires-4 : goal.index-requires-4
index-requires-4 g c = let n = fours g (goal.at.index-requires-4 g c).After-split-shares in omega (arith, n)

pub get-requires-4 : goal.get-requires-4
get-requires-4 g c = tens g (goal.at.get-requires-4 g c).After-split-shares 3 c.index-4.result.now (omega arith) c.index-4.ensures

pub index-requires-5 : goal.index-requires-5
index-requires-5 g c = let n = fours g (goal.at.index-requires-5 g c).After-split-shares in omega (arith, n)

pub get_at-requires-clause-cell : goal.get_at-requires-clause-cell
get_at-requires-clause-cell g c = tens g (goal.at.get_at-requires-clause-cell g c).After-split-shares 2 c.index-5.result.now (omega arith) c.index-5.ensures

pub get_at-requires-clause-place : goal.get_at-requires-clause-place
get_at-requires-clause-place g c = c.place-place.ensures.place ∙ at_21 g (goal.at.get_at-requires-clause-place g c).After-split-shares c.index-5.result.now c.index-5.ensures

pub index_mut-requires : goal.index_mut-requires
index_mut-requires g c = let n = fours g (goal.at.index_mut-requires g c).After-split-shares in omega (arith, n)

pub set-requires : goal.set-requires
set-requires g c = tens g (goal.at.set-requires g c).After-split-shares 2 c.index_mut.result.now (omega arith) c.index_mut.ensures.value

-- the shares after the write
kept : (g : _) (c : After-set g) → AreAllOf (name_of c.in_ok-new.field-0) (Interleaved c.expect.result) (slice_set c.split-shares.result.items 2 c.set.new.self)
kept g c =
    let shares = c.split-shares.result.items in let s = c.set.new.self in let old = c.index_mut.result.now in
    let name = c.set.ensures.name in let order = c.set.ensures.order in let number = c.set.ensures.number in
    let label : share_label s ≡ share_label old = λ i. (name i, (order i, number i)) in
    still-all (name_of c.in_ok-new.field-0) (Interleaved c.expect.result) shares c.split-shares.ensures.shares _
    (map-set_same share_label shares 2 s old (label ∙ ap share_label c.index_mut.ensures.value))

pub join-requires : goal.join-requires
join-requires g c = record { shares = (_, _, kept g (goal.at.join-requires g c).After-set) }

pub are_numbers-requires : goal.are_numbers-requires
are_numbers-requires g c =
    let here = goal.at.are_numbers-requires g c in
    sym (cells-long c.join.result ∙ (ap (λ (n : Name). n.count) (c.join.ensures.name _ _ (kept g here.After-set)) ∙ many g here.After-split-shares))
