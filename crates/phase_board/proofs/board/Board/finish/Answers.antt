use Rattle.std.proofs.Common.{rules, arith, sym, ap, subst, ◌∙◌, ℕ, ◌+◌, ◌*◌, ◌%◌, ◌^◌, ◌<◌, ◌≡◌, ◌≢◌, ◌∷◌, [], List, suc}
use Rattle.std.proofs.Math.Pow.{pow-lt}
use Rattle.std.specs.Int.Bits.{bit_or}
use Rattle.atomic_table.specs.Table.{rest}
use Rattle.phase_board.specs.ClaimWord.{half_of}
use Rattle.phase_board.specs.Slots.{AllOut, AllPieces}
use Rattle.phase_board.specs.Steps.{after_finish, HasOthers}
use Rattle.phase_board.specs.declared.view.Activity.TheVariants.{Turning as Turns}
use Rattle.phase_board.proofs.Finishes.{finishes}
use Rattle.phase_board.proofs.Told.{given_is, last_is, counted, GaveBack, HasEverything}
use Rattle.phase_board.proofs.board.Board.finish.Given.{Over}
use Rattle.phase_board.proofs.board.Board.finish.Goals as goal
use Rattle.phase_board.proofs.board.Board.finish.Goals.{After-all}

only_one : {S : Type 0} (k l : List (ℕ × S)) (w : ℕ) (x y : S) → k ≡ (w + 1, x) ∷ rest l → l ≡ (w + 1, y) ∷ [] → k ≡ (suc w, x) ∷ []
only_one k l w x y e f = let up : w + 1 ≡ suc w = omega arith in e ∙ (λ i. (up i, x) ∷ ap rest f i)

one_bit : (w : ℕ) → w < 64 → 1 * 2 ^ w % 18446744073709551616 ≡ 2 ^ w
one_bit w l = let p : 2 ^ w < 2 ^ 64 = pow-lt l in omega arith

pub fetch_or-old-requires : goal.fetch_or-old-requires
fetch_or-old-requires g c =
    let put = c.exchange.ensures in let works = c.args.seat.works in let w : ℕ = c.args.seat.window in
    let loaded : half_of c.exchange.new.seat.me.0.loaded ≡ c.args.seat.half = ap (λ m. half_of m.0.loaded) put.3 ∙ sym c.args.seat.shows.0 in (
      put.0 ∙ c.requires.board.0,
      search rules,
      finishes _ _ _ _ _ _ _ _ _ _ w c.args.seat.piece (ap (λ m. m.0.job) put.3 ∙ c.requires.board.1) (ap (λ m. m.0.activity) put.3 ∙ works.1)
          (only_one _ _ _ _ _ (ap (λ m. m.1) put.3) works.0) (one_bit w works.2)
          (subst (λ (h : ℕ). g.P.Piece.done (g.P.Piece.job c.args.self.now.table.shared.key.value) h w c.args.seat.piece) (sym loaded) c.requires.done),
    )

-- the mask with the window's bit
abbrev mask_after : (g : Over) → After-all g → ℕ
mask_after g c = bit_or c.fetch_or-old.result (1 * 2 ^ c.args.seat.window % 18446744073709551616)

gave_back : (g : Over) (c : After-all g) → mask_after g c ≢ c.all.result →
    GaveBack (g.P.Piece.windows (g.P.Piece.job c.args.self.now.table.shared.key.value)) c.args.seat.window c.args.seat.seat.me.0 c.fetch_or-old.new.seat.me
gave_back g c lacks = given_is g.P.Piece.windows g.P.Piece.done g.P.Piece.common (g.P.Piece.job c.args.self.now.table.shared.key.value) c.args.self.now.table.shared.table_id.slots
    c.args.self.now.count c.args.seat.window (1 * 2 ^ c.args.seat.window % 18446744073709551616) c.fetch_or-old.result c.args.seat.piece c.args.seat.seat.me.0
    c.args.seat.seat.me.1 c.exchange.new.seat.me c.fetch_or-old.new.seat.me c.exchange.ensures.3 c.requires.board.1 c.args.seat.works.1 c.args.self.now.sized.1
    c.fetch_or-old.ensures.2 c.args.seat.works.0 (λ e. lacks (e ∙ sym c.all.ensures))

has_everything : (g : Over) (c : After-all g) → mask_after g c ≡ c.all.result →
    let job = g.P.Piece.job c.args.self.now.table.shared.key.value in let half = half_of c.args.seat.seat.me.0.loaded in
    HasEverything (g.P.Piece.windows job) c.args.seat.window (g.P.Piece.common job half) (g.P.Piece.done job half) c.args.seat.seat.me.0 c.fetch_or-old.new.seat.me
has_everything g c full = last_is g.P.Piece.windows g.P.Piece.done g.P.Piece.common (g.P.Piece.job c.args.self.now.table.shared.key.value) c.args.self.now.table.shared.table_id.slots
    c.args.self.now.count c.args.seat.window (1 * 2 ^ c.args.seat.window % 18446744073709551616) c.fetch_or-old.result c.args.seat.piece c.args.seat.seat.me.0
    c.args.seat.seat.me.1 c.exchange.new.seat.me c.fetch_or-old.new.seat.me c.exchange.ensures.3 c.requires.board.1 c.args.seat.works.1 c.args.self.now.sized.1
    c.fetch_or-old.ensures.2 (full ∙ c.all.ensures)

pub invariant_of-result : goal.invariant_of-result
invariant_of-result g c =
    let got = gave_back g (goal.at.invariant_of-result g c).After-all c.if-old-bit.true in
    record { rests = (got.0, ap (λ v. v.activity) got.1); shows = c.args.seat.shows.2 ∙ sym (ap (λ v. v.found) got.1) }

pub returns-then-old-bit-clause-board : goal.returns-then-old-bit-clause-board
returns-then-old-bit-clause-board g c =
    let got = gave_back g (goal.at.returns-then-old-bit-clause-board g c).After-all c.if-old-bit.true in
    (c.fetch_or-old.ensures.0 ∙ c.exchange.ensures.0 ∙ c.requires.board.0, ap (λ v. v.job) got.1 ∙ c.requires.board.1)

pub returns-then-old-bit-clause-answer : goal.returns-then-old-bit-clause-answer
returns-then-old-bit-clause-answer g c =
    let got = gave_back g (goal.at.returns-then-old-bit-clause-answer g c).After-all c.if-old-bit.true in (got.1, got.2)

pub take_out-requires-clause-size : goal.take_out-requires-clause-size
take_out-requires-clause-size g c = counted g.P.Piece.windows g.P.Piece.done g.P.Piece.common (g.P.Piece.job c.args.self.now.table.shared.key.value) c.args.self.now.table.shared.table_id.slots
    c.args.self.now.count c.args.seat.window (1 * 2 ^ c.args.seat.window % 18446744073709551616) c.fetch_or-old.result c.args.seat.piece c.args.seat.seat.me.0
    c.args.seat.seat.me.1 c.exchange.new.seat.me c.fetch_or-old.new.seat.me c.exchange.ensures.3 c.requires.board.1 c.args.seat.works.1 c.args.self.now.sized.1
    c.fetch_or-old.ensures.2

pub take_out-requires-clause-out : goal.take_out-requires-clause-out
take_out-requires-clause-out g c =
    let job = g.P.Piece.job c.args.self.now.table.shared.key.value in let m : ℕ = g.P.Piece.windows job in
    let got = has_everything g (goal.at.take_out-requires-clause-out g c).After-all c.if-old-bit.false in
    subst (λ (h : ℕ). AllOut m (g.P.Piece.common job h) (g.P.Piece.done job h) c.fetch_or-old.new.seat.me.1) (sym c.args.seat.shows.0) got.2

pub take_out-requires-clause-turns : goal.take_out-requires-clause-turns
take_out-requires-clause-turns g c =
    let got = has_everything g (goal.at.take_out-requires-clause-turns g c).After-all c.if-old-bit.false in
    (ap (λ v. v.activity) got.0, c.args.seat.shows.0 ∙ sym (ap (λ v. half_of v.loaded) got.0))

pub returns-clause-board : goal.returns-clause-board
returns-clause-board g c =
    let got = has_everything g (goal.at.returns-clause-board g c).After-all c.if-old-bit.false in
    let seat = c.take_out.ensures.seat in (seat.1 ∙ c.fetch_or-old.ensures.0 ∙ c.exchange.ensures.0 ∙ c.requires.board.0, ap (λ v. v.job) seat.3 ∙ ap (λ v. v.job) got.0 ∙ c.requires.board.1)

pub returns-clause-answer : goal.returns-clause-answer
returns-clause-answer g c =
    let got = has_everything g (goal.at.returns-clause-answer g c).After-all c.if-old-bit.false in
    let made = c.take_out.ensures in let view = made.seat.3 in let job = g.P.Piece.job c.args.self.now.table.shared.key.value in let m : ℕ = g.P.Piece.windows job in
    let mask = sym (ap (λ v. v.mask) view) in (
      view ∙ got.0 ∙ ap (λ (z : ℕ). record (after_finish m c.args.seat.window z c.args.seat.seat.me.0) { activity = Turns }) mask,
      subst (HasOthers m c.args.seat.window) mask got.1,
      made.seat.0,
      subst (λ (h : ℕ). AllPieces m (g.P.Piece.done job h) c.take_out.result.pieces.items) (sym made.seat.0) made.pieces,
      subst (λ (h : ℕ). g.P.Piece.common job h c.take_out.result.common) (sym made.seat.0) made.common,
    )
