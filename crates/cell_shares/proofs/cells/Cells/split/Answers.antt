use Rattle.std.proofs.Common.{ℕ, ◌≡◌, ◌+◌, ◌-◌, ◌*◌, ◌<◌, ◌≤◌, ◌++◌, List, [], ◌∷◌, sym, ap, subst, refl, ◌∙◌, arith}
use Rattle.std.specs.Prelude.{vec_len}
use Rattle.cell_shares.specs.Orders.{order_places}
use Rattle.cell_shares.specs.Parts.{places, Shuffled}
use Rattle.cell_shares.specs.Rights.{IsRightTo}
use Rattle.cell_shares.specs.Deal.{share_places}
use Rattle.cell_shares.proofs.Dealing.{Dealing, begins, next_places, last_places, one_more, all_labels, all_values, label_of}
use Rattle.cell_shares.proofs.Nones.{none_some, some_same}
use Rattle.cell_shares.proofs.Placed.{dealt_places}
use Rattle.cell_shares.proofs.cells.Cells.split.Goals as goal

pub arrange-rest-requires : goal.arrange-rest-requires
arrange-rest-requires g c =
    let s = c.args.self in
    subst (λ (l : List ℕ). Shuffled l (order_places c.args.order s.part.count)) (sym (s.numbered ∙ ap (Rattle.std.specs.List.range_with_len 0) s.counted))
    (dealt_places c.args.order s.part.count c.requires.order)

pub loop-number-init : goal.loop-number-init
loop-number-init g c =
    let s = c.args.self in let e = c.arrange-rest.ensures in let zero : vec_len s.room ≡ 0 = s.room.ok.0 ∙ ap Rattle.std.proofs.Common.length s.empty in (
      subst (Dealing s c.args.order 0 c.arrange-rest.result) (sym s.empty) (begins s c.args.order c.arrange-rest.result e.0 e.1 e.2 e.3),
      s.has_room,
      zero,
      (λ r is. (refl, subst (IsRightTo s.part.ptr s.count s.heap) (some_same s.right r is) s.frees), λ is zero. none_some s.right (sym is)),
    )

pub loop-number-preserved : goal.loop-number-preserved
loop-number-preserved g c =
    let s = c.args.self in let l = c.loop-number in let inv = l.invariant in let d = inv.0 in let t = l.number in let e = c.cut-part.ensures in let n = c.new.ensures in
    let lt : t < s.windows = let test = c.loop-number-test.true in omega (arith, test) in
    let label = label_of s c.args.order t c.new.result (ap (λ p. p.ptr) n.0 ∙ (e.0.0 ∙ d.start)) (ap (λ p. p.count) n.0 ∙ (e.0.1 ∙ d.count)) (ap (λ x. x.windows) n.2) (ap (λ x. x.order) n.2) n.3 in (
      subst (Dealing s c.args.order (t + 1) c.cut-part.result.1) (sym c.push_reserved.ensures.items)
          (one_more s c.args.order t l.rest l.shares.items d c.new.result label lt c.cut-part.result.1 (ap (λ p. p.cells) n.0 ∙ e.0.2) e.1.0 e.1.1 e.1.2),
      subst (λ (k : ℕ). s.windows ≤ k) (sym c.push_reserved.ensures.capacity) inv.1,
      c.push_reserved.ensures.len ∙ ap (λ (k : ℕ). k + 1) inv.2,
      (λ r is. absurd (none_some r (sym c.take.ensures.after ∙ is)), λ is zero. omega (arith, zero)),
    )

pub new-requires-clause-dealt : goal.new-requires-clause-dealt
new-requires-clause-dealt g c =
    let s = c.args.self in let l = c.loop-number in let n : ℕ = s.windows - (l.number + 1) in let lt = c.loop-number-test.true in
    ap places c.cut-part.ensures.0.2 ∙ next_places s c.args.order l.number l.rest l.shares.items l.invariant.0 n (omega (arith, lt))

pub new-requires-clause-counted : goal.new-requires-clause-counted
new-requires-clause-counted g c = let d = c.loop-number.invariant.0 in c.args.self.counted ∙ sym (c.cut-part.ensures.0.1 ∙ d.count)

pub new-requires-clause-frees : goal.new-requires-clause-frees
new-requires-clause-frees g c =
    let inv = c.loop-number.invariant in let d = inv.0 in (
      λ r is. let f = inv.3.0 r (sym c.take.ensures.value ∙ is) in (f.0, (f.1.0 ∙ sym (c.cut-part.ensures.0.0 ∙ d.start), f.1.1, f.1.2)),
      λ is. inv.3.1 (sym c.take.ensures.value ∙ is),
    )

pub push_reserved-requires : goal.push_reserved-requires
push_reserved-requires g c = let inv = c.loop-number.invariant in let room = inv.1 in let long = inv.2 in let lt = c.loop-number-test.true in omega (arith, room, long, lt)

pub new-requires-2-clause-dealt : goal.new-requires-2-clause-dealt
new-requires-2-clause-dealt g c =
    let s = c.args.self in let l = c.loop-number in
    let last : 1 + l.number ≡ s.windows = (let f = c.loop-number-test.false in let e = l.auto.number-end in let m = s.some_window in omega (arith, f, e, m)) in
    let t : l.number ≡ s.windows - 1 = omega (arith, last) in
    last_places s c.args.order l.number l.rest l.shares.items l.invariant.0 last ∙ ap (share_places c.args.order s.width) t

pub new-requires-2-clause-counted : goal.new-requires-2-clause-counted
new-requires-2-clause-counted g c = let d = c.loop-number.invariant.0 in c.args.self.counted ∙ sym d.count

pub new-requires-2-clause-frees : goal.new-requires-2-clause-frees
new-requires-2-clause-frees g c =
    let s = c.args.self in let l = c.loop-number in
    let last : 1 + l.number ≡ s.windows = (let f = c.loop-number-test.false in let e = l.auto.number-end in let m = s.some_window in omega (arith, f, e, m)) in
    let t : l.number ≡ s.windows - 1 = omega (arith, last) in let inv = l.invariant in let d = inv.0 in (
      λ r is. let f = inv.3.0 r is in (sym t ∙ f.0, (f.1.0 ∙ sym d.start, f.1.1, f.1.2)),
      λ is zero. inv.3.1 is (t ∙ zero),
    )

pub push_reserved-requires-2 : goal.push_reserved-requires-2
push_reserved-requires-2 g c =
    let s = c.args.self in let l = c.loop-number in
    let last : 1 + l.number ≡ s.windows = (let f = c.loop-number-test.false in let e = l.auto.number-end in let m = s.some_window in omega (arith, f, e, m)) in let room = l.invariant.1 in
    let long = l.invariant.2 in omega (arith, room, long, last)

pub returns-clause-shares : goal.returns-clause-shares
returns-clause-shares g c =
    let s = c.args.self in let l = c.loop-number in
    let last : 1 + l.number ≡ s.windows = (let f = c.loop-number-test.false in let e = l.auto.number-end in let m = s.some_window in omega (arith, f, e, m)) in let n = c.new-2.ensures in
    let d = l.invariant.0 in
    let label = label_of s c.args.order l.number c.new-2.result (ap (λ p. p.ptr) n.0 ∙ d.start) (ap (λ p. p.count) n.0 ∙ d.count) (ap (λ x. x.windows) n.2) (ap (λ x. x.order) n.2)
    (n.3 ∙ (let t : s.windows - 1 ≡ l.number = omega (arith, last) in t)) in (
      s.some_window,
      ap (Rattle.std.proofs.Common.map Rattle.cell_shares.specs.Shares.share_label) c.push_reserved-2.ensures.items
          ∙ all_labels s c.args.order l.number l.rest l.shares.items d c.new-2.result label last,
    )

pub returns-clause-values : goal.returns-clause-values
returns-clause-values g c =
    let s = c.args.self in let l = c.loop-number in
    let last : 1 + l.number ≡ s.windows = (let f = c.loop-number-test.false in let e = l.auto.number-end in let m = s.some_window in omega (arith, f, e, m)) in let n = c.new-2.ensures in
    let d = l.invariant.0 in
    let label = label_of s c.args.order l.number c.new-2.result (ap (λ p. p.ptr) n.0 ∙ d.start) (ap (λ p. p.count) n.0 ∙ d.count) (ap (λ x. x.windows) n.2) (ap (λ x. x.order) n.2)
    (n.3 ∙ (let t : s.windows - 1 ≡ l.number = omega (arith, last) in t)) in
    ap (Rattle.std.proofs.Common.map Rattle.cell_shares.specs.Shares.share_values) c.push_reserved-2.ensures.items
    ∙ all_values s c.args.order l.number l.rest l.shares.items d c.new-2.result label last (ap (λ p. p.cells) n.0)
