use Rattle.std.proofs.Common.{◌≡◌, length, ℕ, map, List, ◌++◌, get_or, ◌<◌, sym, ap, ◌∙◌, subst, arith, rules}
use Prim.Native.Nat.{◌∣◌}
use lib.ListN.{take, drop, length-map}
use Rattle.std.proofs.Math.Seq.{take-append_seam}
use Rattle.std.proofs.lemmas.Nat.Gcd.{dvd_of_mod-eq-zero}
use Rattle.cell_shares.specs.declared.order.Order.TheVariants.{Interleaved}
use Rattle.cell_shares.specs.Names.{Name}
use Rattle.cell_shares.specs.Shares.{name_of, share_label, AreAllOf}
use Rattle.cell_shares.proofs.Labels.{cells-long, still-all}
use Rattle.test_threads.proofs.Forties.{four, ten}
use Rattle.test_threads.proofs.shares.each_share_is_written_by_a_thread.Goals as goal
use Rattle.test_threads.proofs.shares.each_share_is_written_by_a_thread.Goals.{After-split-shares, After-sign_all}

pub new-requires-clause-divides : goal.new-requires-clause-divides
new-requires-clause-divides g c = let long : length c.from_vec-values.result ≡ 40 = search rules in subst (λ (n : ℕ). 4 ∣ n) (sym long) (dvd_of_mod-eq-zero 4 {n = 40} (omega arith))

module _ (g : _) (c : After-split-shares g) where
  abbrev name : Name
  name = name_of c.in_ok-new.field-0

  many : name.count ≡ 40
  many = c.in_ok-new.ensures.count ∙ (let long : length c.from_vec-values.result ≡ 40 = search rules in long)

  all : AreAllOf name (Interleaved c.expect.result) c.split-shares.result.items
  all = c.split-shares.ensures.shares

  windows : name.windows ≡ 4
  windows = c.in_ok-new.ensures.windows

pub sign_all-requires-after_bounds : goal.sign_all-requires-after_bounds
sign_all-requires-after_bounds g c = λ κs k d h.
    let o = (goal.at.sign_all-requires-after_bounds g c).After-split-shares in let shares = c.split-shares.result.items in
    let e : c.as_mut_slice.result.now ≡ shares = c.as_mut_slice.ensures.value in
    let n = four (name g o) (Interleaved c.expect.result) shares (all g o) (many g o) (windows g o) in
    sym (ten (name g o) (Interleaved c.expect.result) shares (all g o) (many g o) (windows g o) k (get_or c.as_mut_slice.result.now k d) d
    (let l : k < length shares = subst (λ (xs : List _). k < length xs) e h in omega (arith, l, n)) (ap (λ (xs : List _). get_or xs k d) e))

-- the shares that the threads leave
signed : (g : _) (c : After-sign_all g) →
    AreAllOf (name_of c.in_ok-new.field-0) (Interleaved c.expect.result) (take c.split-shares.result.len (c.sign_all.new.shares ++ drop (length c.sign_all.new.shares) c.split-shares.result.items))
signed g c =
    let shares = c.split-shares.result.items in let left = c.sign_all.new.shares in
    let e : map share_label left ≡ map share_label shares = c.sign_all.ensures ∙ ap (map share_label) c.as_mut_slice.ensures.value in
    let long : length left ≡ length shares = sym (length-map left share_label) ∙ (ap length e ∙ length-map shares share_label) in
    let n : c.split-shares.result.len ≡ length shares = search rules in
    let whole : take c.split-shares.result.len (left ++ drop (length left) shares) ≡ left =
    ap (λ (k : ℕ). take k (left ++ drop (length left) shares)) (n ∙ sym long) ∙ take-append_seam left (drop (length left) shares) in
    still-all (name_of c.in_ok-new.field-0) (Interleaved c.expect.result) shares c.split-shares.ensures.shares _ (ap (map share_label) whole ∙ e)

pub join-requires : goal.join-requires
join-requires g c = record { shares = (_, _, signed g (goal.at.join-requires g c).After-sign_all) }

pub are_signed-requires-clause-cells : goal.are_signed-requires-clause-cells
are_signed-requires-clause-cells g c =
    let here = goal.at.are_signed-requires-clause-cells g c in
    cells-long c.join.result ∙ (ap (λ (n : Name). n.count) (c.join.ensures.name _ _ (signed g here.After-sign_all)) ∙ many g here.After-split-shares)
