use Rattle.std.proofs.Common.{◌≡◌, ◌+◌, ℕ, ◌<◌, ◌≤◌, List, Bool, true, false, length, set, get_or, suc, sym, refl, subst, ap, ◌∙◌, arith}
use Rattle.std.specs.Slots.{slots_filled, slots_len}
use Rattle.std.proofs.lemmas.List.{get_or-set_same, get_or-set_other}
use native.Mathlib.Decide.{ℕ_discrete}
use mathlib.Core.Option.{some, some-injective}
use lib.ListN.{get_elem?}
use Rattle.phase_board.specs.ClaimWord.{half_of}
use Rattle.phase_board.specs.Closings.{AllDrawnAndDone}
use Rattle.phase_board.proofs.Closes.{closed_slots}
use Rattle.phase_board.proofs.board.Board.close.Goals as goal

pub unreachable-requires : goal.unreachable-requires
unreachable-requires g c =
    let t = closed_slots _ _ _ _ _ _ _ _ _ _ c.close_with-closed.ensures.values.2 c.requires.over in let first = sym c.take.ensures.value ∙ t.0.2 in let e = ap some (sym c.in-Empty.is) ∙ first in cc

pub unreachable-requires-in-Piece : goal.unreachable-requires-in-Piece
unreachable-requires-in-Piece g c =
    let t = closed_slots _ _ _ _ _ _ _ _ _ _ c.close_with-closed.ensures.values.2 c.requires.over in let first = sym c.take.ensures.value ∙ t.0.2 in let e = ap some (sym c.in-Piece.is) ∙ first in cc

pub destroy_empty-requires : goal.destroy_empty-requires
destroy_empty-requires g c =
    let t = closed_slots _ _ _ _ _ _ _ _ _ _ c.close_with-closed.ensures.values.2 c.requires.over in let first = sym c.take.ensures.value ∙ t.0.2 in let e = ap some (sym c.in-Common.is) ∙ first in
    let same : c.in-Common.room ≡ t.0.1 = cc in c.in-Common.room.ok.0 ∙ ap (λ r. length r.items) same ∙ ap length t.0.4

-- the place i is emptied
emptied_at : (fs fs' : List Bool) (i n : ℕ) → fs' ≡ set fs i false → n ≡ length fs → i < n → ((k : ℕ) → i ≤ k → k < n → get_or fs k false ≡ true) → ((k : ℕ) → k < i → get_or fs k false ≡ false)
    → ((k : ℕ) → i < k → k < n → get_or fs' k false ≡ true) × ((k : ℕ) → k ≤ i → get_or fs' k false ≡ false)
emptied_at fs fs' i n e long l full below = (
  λ k a b. ap (λ (gs : List Bool). get_or gs k false) e ∙ get_or-set_other fs i k false false (λ q. omega arith) ∙ full k (omega arith) b,
  λ k a. ap (λ (gs : List Bool). get_or gs k false) e ∙ go k a (ℕ_discrete k i),
)
  where
    go : (k : ℕ) → k ≤ i → Dec (k ≡ i) → get_or (set fs i false) k false ≡ false
    go k a (yes q) = ap (λ (z : ℕ). get_or (set fs i false) z false) q ∙ get_or-set_same fs i false false (omega arith)
    go k a (no q) = get_or-set_other fs i k false false q ∙ below k (omega arith)

same_place : {A : Type 0} (xs ys zs : List A) (i : ℕ) (x y : A) → xs ≡ ys → ys ≡ zs → get_elem? xs (i + 1) ≡ some x → get_elem? zs (suc i) ≡ some y → x ≡ y
same_place xs ys zs i x y p q e f =
    let up : i + 1 ≡ suc i = omega arith in some-injective x y (sym e ∙ ap (λ l. get_elem? l (i + 1)) (p ∙ q) ∙ ap (get_elem? zs) up ∙ f)

pub loop-i-init : goal.loop-i-init
loop-i-init g c =
    let others = c.take.ensures.others in let row = c.close_with-closed.result.slots in
    let size : 0 < slots_len row = (let a = c.close_with-closed.ensures.counts.1 in let b = c.args.self.sized.1 in omega arith) in
    let left = emptied_at (slots_filled row) (slots_filled c.take.new.self.slots) 0 (slots_len row) others.1 row.ok.1 size c.close_with-closed.ensures.values.1 (λ k l. absurd (omega arith)) in
    (refl, refl, (λ k a b. left.0 k a (let d = others.2 in omega arith)), left.1)

pub take-requires-in-loop-i : goal.take-requires-in-loop-i
take-requires-in-loop-i g c =
    let inv = c.loop-i.invariant in let kept = inv.1 ∙ c.take.ensures.others.2 ∙ c.close_with-closed.ensures.counts.1 ∙ c.args.self.sized.1 in
    let size : c.loop-i.i + 1 < slots_len c.loop-i.closed.slots = (let a = c.loop-i-test.true in let b = kept in omega arith) in
    (size, inv.2 (c.loop-i.i + 1) (omega arith) size)

pub unreachable-requires-in-Piece-take : goal.unreachable-requires-in-Piece-take
unreachable-requires-in-Piece-take g c =
    let t = closed_slots _ _ _ _ _ _ _ _ _ _ c.close_with-closed.ensures.values.2 c.requires.over in let row = c.close_with-closed.result.slots in
    let lt : c.loop-i.i < g.P.Piece.windows (g.P.Piece.job c.args.self.table.shared.key.value) =
    (let a = t.2 in let b = row.ok.0 in let d = c.close_with-closed.ensures.counts.1 in let e = c.args.self.sized.1 in let h = c.loop-i-test.true in omega arith) in
    let e = same_place _ _ _ c.loop-i.i _ _ c.loop-i.invariant.0 c.take.ensures.others.0 c.take-in-loop-i.ensures.value (t.1 c.loop-i.i lt) in let f = sym c.in-Piece-take.is ∙ e in cc

pub unreachable-requires-in-Common-take : goal.unreachable-requires-in-Common-take
unreachable-requires-in-Common-take g c =
    let t = closed_slots _ _ _ _ _ _ _ _ _ _ c.close_with-closed.ensures.values.2 c.requires.over in let row = c.close_with-closed.result.slots in
    let lt : c.loop-i.i < g.P.Piece.windows (g.P.Piece.job c.args.self.table.shared.key.value) =
    (let a = t.2 in let b = row.ok.0 in let d = c.close_with-closed.ensures.counts.1 in let e = c.args.self.sized.1 in let h = c.loop-i-test.true in omega arith) in
    let e = same_place _ _ _ c.loop-i.i _ _ c.loop-i.invariant.0 c.take.ensures.others.0 c.take-in-loop-i.ensures.value (t.1 c.loop-i.i lt) in let f = sym c.in-Common-take.is ∙ e in cc

pub loop-i-preserved : goal.loop-i-preserved
loop-i-preserved g c =
    let inv = c.loop-i.invariant in let row = c.loop-i.closed.slots in let others = c.take-in-loop-i.ensures.others in
    let kept = inv.1 ∙ c.take.ensures.others.2 ∙ c.close_with-closed.ensures.counts.1 ∙ c.args.self.sized.1 in
    let size : c.loop-i.i + 1 < slots_len row = (let a = c.loop-i-test.true in let b = kept in omega arith) in
    let left = emptied_at (slots_filled row) (slots_filled c.take-in-loop-i.new.self.slots) (c.loop-i.i + 1) (slots_len row) others.1 row.ok.1 size (λ k a b. inv.2 k (omega arith) b)
    (λ k a. inv.3 k (omega arith)) in
    (others.0 ∙ inv.0, others.2 ∙ inv.1, (λ k a b. left.0 k a (let d = others.2 in omega arith)), left.1)

pub free-requires : goal.free-requires
free-requires g c =
    let inv = c.loop-i.invariant in let kept = inv.1 ∙ c.take.ensures.others.2 ∙ c.close_with-closed.ensures.counts.1 ∙ c.args.self.sized.1 in
    λ k l. inv.3 k (let a = c.loop-i-test.false in let b = kept in omega arith)

pub overflow_cast-half : goal.overflow_cast-half
overflow_cast-half g c =
    let t = closed_slots _ _ _ _ _ _ _ _ _ _ c.close_with-closed.ensures.values.2 c.requires.over in
    let e : half_of c.args.seat.found ≡ half_of c.args.seat.seat.me.0.found = ap half_of c.args.seat.shows in let a = t.3 in omega arith

pub returns-clause-common : goal.returns-clause-common
returns-clause-common g c =
    let t = closed_slots _ _ _ _ _ _ _ _ _ _ c.close_with-closed.ensures.values.2 c.requires.over in let first = sym c.take.ensures.value ∙ t.0.2 in let e = ap some (sym c.in-Common.is) ∙ first in
    let same : t.0.0 ≡ c.in-Common.common = cc in subst (λ x. g.P.Piece.ended (g.P.Piece.job c.args.self.table.shared.key.value) (half_of c.args.seat.seat.me.0.found) x) same t.0.3

pub returns-clause-once : goal.returns-clause-once
returns-clause-once g c = (closed_slots _ _ _ _ _ _ _ _ _ _ c.close_with-closed.ensures.values.2 c.requires.over).4

pub returns-clause-count : goal.returns-clause-count
returns-clause-count g c =
    let t = closed_slots _ _ _ _ _ _ _ _ _ _ c.close_with-closed.ensures.values.2 c.requires.over in let first = sym c.take.ensures.value ∙ t.0.2 in let e = ap some (sym c.in-Common.is) ∙ first in
    let same : t.0.0 ≡ c.in-Common.common = cc in subst (λ x. AllDrawnAndDone (g.P.Piece.job c.args.self.table.shared.key.value) (half_of c.args.seat.seat.me.0.found) c.args.seat x) same t.0.5
