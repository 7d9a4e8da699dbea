use Rattle.std.proofs.Common.{ℕ, ◌≡◌, ◌+◌, ◌≤◌, List, [], length, sym, ap, subst, ◌∙◌, arith}
use Rattle.std.specs.Prelude.{vec_len}
use Rattle.std.specs.List.{range_with_len}
use Rattle.cell_shares.specs.Orders.{order_places, order_size, IsOrderOf}
use Rattle.cell_shares.specs.Parts.{places, values, Shuffled}
use Rattle.cell_shares.specs.Rights.{HoldsRight}
use Rattle.cell_shares.specs.Names.{Name}
use Rattle.cell_shares.specs.Shares.{AreAllOf}
use Rattle.cell_shares.specs.declared.order.Order.{Order}
use Rattle.cell_shares.specs.declared.order.Order.TheVariants.{Natural}
use Rattle.cell_shares.proofs.JoinSteps.{Joining, joins_last, last_label, joins_next, next_label, all_long, all_placed, all_dealt, empty_list}
use Rattle.cell_shares.proofs.Numbers.{values-long}
use Rattle.cell_shares.proofs.Placed.{joined_places, natural_places}
use Rattle.cell_shares.proofs.Told.{tells_all, tells_shuffled_back}
use Rattle.cell_shares.proofs.joined_cells.join.Goals as goal

pub loop-share-init : goal.loop-share-init
loop-share-init g c =
    let last = c.in-Some.last in let e = c.in-Some.ensures in let t : ℕ = vec_len c.pop.new.self in let r = c.requires.shares in
    let long : t + 1 ≡ length c.args.shares.items = e.len ∙ c.args.shares.ok.0 in
    let label = last_label r.0 r.1 c.args.shares.items r.2 t c.pop.new.self.items last e.items (long ∙ all_long r.0 r.1 c.args.shares.items r.2) in (
      (λ name order are. joins_last name order c.args.shares.items are t c.pop.new.self.items last e.items (long ∙ all_long name order c.args.shares.items are)),
      (let fits = c.args.shares.ok.1 in let cap = e.capacity in
          let m : last.split.windows ≡ length c.args.shares.items = ap (λ l. l.0.windows) label ∙ sym (all_long r.0 r.1 c.args.shares.items r.2) in
          let k : vec_len c.args.shares ≡ length c.args.shares.items = c.args.shares.ok.0 in omega (arith, fits, cap, m, k)),
      subst (HoldsRight last.right last.part.ptr last.split.count last.split.heap) (ap (λ l. l.1.1) label) last.frees,
    )

pub glue-part-requires : goal.glue-part-requires
glue-part-requires g c =
    let l = c.loop-share in let share = c.in-Some-pop.share in let e = c.in-Some-pop.ensures in let t : ℕ = vec_len c.pop-in-loop-share.new.self in let r = c.requires.shares in
    let inv = l.invariant in
    let j = subst (λ (k : ℕ). Joining r.0 r.1 c.args.shares.items l.split.width k l.part l.shares.items) (sym e.len) (inv.0 r.0 r.1 r.2).0 in
    let label = next_label r.0 r.1 c.args.shares.items r.2 l.split.width t l.part l.part l.shares.items c.pop-in-loop-share.new.self.items share j e.items in
    (j.start ∙ sym (ap (λ l. l.0.start) label), j.count ∙ sym (ap (λ l. l.0.count) label))

pub loop-share-preserved : goal.loop-share-preserved
loop-share-preserved g c =
    let l = c.loop-share in let share = c.in-Some-pop.share in let e = c.in-Some-pop.ensures in let t : ℕ = vec_len c.pop-in-loop-share.new.self in let r = c.requires.shares in
    let inv = l.invariant in let p = c.glue-part.ensures in
    let joins = λ (name : Name) (order : Order) (are : AreAllOf name order c.args.shares.items). subst (λ (k : ℕ). Joining name order c.args.shares.items l.split.width k l.part l.shares.items)
    (sym e.len) (inv.0 name order are).0 in
    let label = next_label r.0 r.1 c.args.shares.items r.2 l.split.width t l.part l.part l.shares.items c.pop-in-loop-share.new.self.items share (joins r.0 r.1 r.2) e.items in
    let x = (inv.0 r.0 r.1 r.2).1 in (
      (λ name order are. joins_next name order c.args.shares.items are l.split.width t l.part c.glue-part.result l.shares.items c.pop-in-loop-share.new.self.items share (joins name order are)
          e.items p.0 p.1 p.2),
      (let m : share.split.windows ≡ l.split.windows = ap (λ l. l.0.windows) label ∙ sym x.in_windows in let cap = e.capacity in let room = inv.1 in omega (arith, m, cap, room)),
      subst (λ q. HoldsRight share.right q share.split.count share.split.heap t) (sym p.0)
          (subst (HoldsRight share.right share.part.ptr share.split.count share.split.heap) (ap (λ l. l.1.1) label) share.frees),
    )

pub arrange-requires : goal.arrange-requires
arrange-requires g c =
    let l = c.loop-share in let r = c.requires.shares in let inv = l.invariant in
    let none : vec_len l.shares ≡ 0 = (let k = c.in_default-pop.ensures.cases in k.0) in let empty : l.shares.items ≡ [] = empty_list l.shares.items (sym l.shares.ok.0 ∙ none) in
    let joined = λ (name : Name) (order : Order) (are : AreAllOf name order c.args.shares.items). subst (Joining name order c.args.shares.items l.split.width 0 l.part) empty
    (subst (λ (k : ℕ). Joining name order c.args.shares.items l.split.width k l.part l.shares.items) none (inv.0 name order are).0) in
    let j = joined r.0 r.1 r.2 in let x = (inv.0 r.0 r.1 r.2).1 in
    let is : IsOrderOf l.part.count r.1 = (let k : l.part.count ≡ l.split.count = j.count ∙ sym x.of_count in (λ i. order_size (k i) (sym x.in_order i)) ∙ (l.split.fits ∙ sym k)) in
    subst (λ (ps : List ℕ). Shuffled ps (order_places Natural l.part.count)) (sym (all_placed r.0 r.1 c.args.shares.items l.split.width l.part j ∙ ap (order_places r.1) (sym j.count)))
    (joined_places r.1 l.part.count is)

pub invariant_of-result : goal.invariant_of-result
invariant_of-result g c =
    let l = c.loop-share in let r = c.requires.shares in let inv = l.invariant in
    let none : vec_len l.shares ≡ 0 = (let k = c.in_default-pop.ensures.cases in k.0) in let empty : l.shares.items ≡ [] = empty_list l.shares.items (sym l.shares.ok.0 ∙ none) in
    let joined = λ (name : Name) (order : Order) (are : AreAllOf name order c.args.shares.items). subst (Joining name order c.args.shares.items l.split.width 0 l.part) empty
    (subst (λ (k : ℕ). Joining name order c.args.shares.items l.split.width k l.part l.shares.items) none (inv.0 name order are).0) in
    let j = joined r.0 r.1 r.2 in let x = (inv.0 r.0 r.1 r.2).1 in let a = c.arrange.ensures in let k : l.part.count ≡ l.split.count = j.count ∙ sym x.of_count in record {
      numbered = a.3 ∙ (natural_places l.part.count ∙ ap (range_with_len 0) k);
      counted = sym (a.1 ∙ k);
      whole = l.split.whole;
      some_cell = l.split.some_cell;
      small = l.split.small;
      some_window = subst (λ (m : ℕ). 1 ≤ m) (sym x.in_windows) r.2.0;
      frees = (let f = (inv.2.0 c.in-Some-right.right c.in-Some-right.is).1 in (f.0 ∙ sym a.0, f.1, f.2));
      empty = empty_list c.pop-in-loop-share.new.self.items (sym c.pop-in-loop-share.new.self.ok.0 ∙ (let k = c.in_default-pop.ensures.cases in k.1));
      has_room = subst (λ (m : ℕ). l.split.windows ≤ m) (sym c.in_default-pop.ensures.capacity) inv.1;
    }

pub returns-clause-name : goal.returns-clause-name
returns-clause-name g c =
    let l = c.loop-share in let r = c.requires.shares in let inv = l.invariant in
    let none : vec_len l.shares ≡ 0 = (let k = c.in_default-pop.ensures.cases in k.0) in let empty : l.shares.items ≡ [] = empty_list l.shares.items (sym l.shares.ok.0 ∙ none) in
    let joined = λ (name : Name) (order : Order) (are : AreAllOf name order c.args.shares.items). subst (Joining name order c.args.shares.items l.split.width 0 l.part) empty
    (subst (λ (k : ℕ). Joining name order c.args.shares.items l.split.width k l.part l.shares.items) none (inv.0 name order are).0) in
    λ name order are. let j = joined name order are in let x = (inv.0 name order are).1 in let a = c.arrange.ensures in
    λ i. record { start = (a.0 ∙ j.start) i; count = (a.1 ∙ j.count) i; windows = x.in_windows i }

pub returns-clause-values : goal.returns-clause-values
returns-clause-values g c =
    let l = c.loop-share in let r = c.requires.shares in let inv = l.invariant in
    let none : vec_len l.shares ≡ 0 = (let k = c.in_default-pop.ensures.cases in k.0) in let empty : l.shares.items ≡ [] = empty_list l.shares.items (sym l.shares.ok.0 ∙ none) in
    let joined = λ (name : Name) (order : Order) (are : AreAllOf name order c.args.shares.items). subst (Joining name order c.args.shares.items l.split.width 0 l.part) empty
    (subst (λ (k : ℕ). Joining name order c.args.shares.items l.split.width k l.part l.shares.items) none (inv.0 name order are).0) in
    λ name order are. let j = joined name order are in let a = c.arrange.ensures in let at : places c.arrange.result.cells ≡ range_with_len 0 l.part.count = a.3 ∙ natural_places l.part.count in
    sym (all_dealt name order c.args.shares.items l.split.width l.part j (values c.arrange.result.cells)
    (tells_shuffled_back (values c.arrange.result.cells) l.part.cells c.arrange.result.cells a.2 (tells_all l.part.count c.arrange.result.cells at))
    (sym (values-long 0 l.part.count c.arrange.result.cells at) ∙ j.count))

pub returns-clause-length : goal.returns-clause-length
returns-clause-length g c =
    let l = c.loop-share in let inv = l.invariant in
    let none : vec_len l.shares ≡ 0 = (let k = c.in_default-pop.ensures.cases in k.0) in let empty : l.shares.items ≡ [] = empty_list l.shares.items (sym l.shares.ok.0 ∙ none) in
    λ name order are. let j = subst (Joining name order c.args.shares.items l.split.width 0 l.part) empty
    (subst (λ (k : ℕ). Joining name order c.args.shares.items l.split.width k l.part l.shares.items) none (inv.0 name order are).0) in
    sym (values-long 0 l.part.count c.arrange.result.cells (c.arrange.ensures.3 ∙ natural_places l.part.count)) ∙ j.count
