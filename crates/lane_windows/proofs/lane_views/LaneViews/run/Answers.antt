use Rattle.std.proofs.Common.{◌≡◌, ℕ, ◌/◌, ◌%◌, Bool, cond, length, sym, ap, ◌∙◌, subst, arith}
use Rattle.model_sender.specs.Interleaver.{place}
use Rattle.model_receiver.specs.HalfIteration.{window_width}
use Rattle.half_iteration.proofs.Orders.{equal, not-equal}
use Rattle.lane_banks.specs.Permutations.{IsTable, AreApart}
use Rattle.lane_windows.specs.Lanes.{LeadApart}
use Rattle.lane_windows.proofs.LaneHalves.{half-ran, rows-of_order, rows-read, rows-soft}
use Rattle.lane_windows.proofs.lane_views.LaneViews.run.Goals as goal

pub run_straight-requires : goal.run_straight-requires
run_straight-requires g c =
    let n = g.row.N in let v = c.args.self.now in let r = c.requires in let shape = v.views.shape in
    let w : length c.args.banks.now / n ≡ window_width shape = ap (λ (k : ℕ). k / n) r.cells ∙ ap (λ (m : ℕ). shape.k / m) (sym v.windows) in
    let read = c.as_rows-soft.result in
    let rows = rows-read n v.views.streams.now shape 0 _ _ read c.as_rows-soft.ensures.systematic c.as_rows-soft.ensures.parity v.natural_rows in
    (omega arith, (omega arith, (omega arith, (omega (arith, w, r.room), (r.borders, (rows-soft n v.views.streams.now shape 0 _ read w rows, (r.alpha_out, r.beta_out)))))))

pub run_crossed-requires : goal.run_crossed-requires
run_crossed-requires g c =
    let n = g.row.N in let v = c.args.self.now in let r = c.requires in let shape = v.views.shape in let x = v.permutations in
    let w : length c.args.banks.now / n ≡ window_width shape = ap (λ (k : ℕ). k / n) r.cells ∙ ap (λ (m : ℕ). shape.k / m) (sym v.windows) in
    let read = c.as_rows-soft-else-h-eq0.result in
    let rows = rows-read n v.views.streams.now shape 1 _ _ read c.as_rows-soft-else-h-eq0.ensures.systematic c.as_rows-soft-else-h-eq0.ensures.parity v.interleaved_rows in
    let apart : LeadApart (length c.args.banks.now / n) x = record {
      rows = omega (arith, w, v.steps);
      banks = omega (arith, w, v.bank_steps);
      table = (
        place shape.k,
        subst (λ (k : ℕ). IsTable n k (place shape.k) x.rows.items x.banks.items) (sym w) v.table,
        subst (λ (k : ℕ). AreApart n k (place shape.k)) (sym w) v.apart,
      );
    } in (
      omega arith,
      (
        omega arith,
        (
          omega arith,
          (
            omega arith,
            (omega (arith, w, r.room), (apart, (r.borders, (rows-soft n v.views.streams.now shape 1 _ read w rows, (r.alpha_out, r.beta_out))))),
          ),
        ),
      ),
    )

pub returns-then-h-eq0-clause-ran : goal.returns-then-h-eq0-clause-ran
returns-then-h-eq0-clause-ran g c =
    let n = g.row.N in let v = c.args.self.now in let r = c.requires in let shape = v.views.shape in let h = c.args.h in let run = c.run_straight in
    let w : length c.args.banks.now / n ≡ window_width shape = ap (λ (k : ℕ). k / n) r.cells ∙ ap (λ (m : ℕ). shape.k / m) (sym v.windows) in
    let even = equal (h % 2) 0 c.if-h-eq0.true in
    let read = c.as_rows-soft.result in
    let rows = rows-read n v.views.streams.now shape 0 _ _ read c.as_rows-soft.ensures.systematic c.as_rows-soft.ensures.parity v.natural_rows in
    half-ran n v.views.streams.now shape h (length c.args.banks.now / n) (λ i. i) c.args.borders read c.args.banks.now run.new.banks run.new.alpha_out run.new.beta_out
    (rows-of_order n v.views.streams.now shape 0 h read.systematic.now read.parity.now even rows) w
    (λ i. ap (λ (b : Bool). cond b i (place shape.k i)) (sym even)) run.ensures.ran

pub returns-else-h-eq0-clause-ran : goal.returns-else-h-eq0-clause-ran
returns-else-h-eq0-clause-ran g c =
    let n = g.row.N in let v = c.args.self.now in let r = c.requires in let shape = v.views.shape in let h = c.args.h in let x = v.permutations in let run = c.run_crossed in
    let w : length c.args.banks.now / n ≡ window_width shape = ap (λ (k : ℕ). k / n) r.cells ∙ ap (λ (m : ℕ). shape.k / m) (sym v.windows) in
    let odd = not-equal (h % 2) 0 c.if-h-eq0.false in
    let read = c.as_rows-soft-else-h-eq0.result in
    let rows = rows-read n v.views.streams.now shape 1 _ _ read c.as_rows-soft-else-h-eq0.ensures.systematic c.as_rows-soft-else-h-eq0.ensures.parity v.interleaved_rows in
    half-ran n v.views.streams.now shape h (length c.args.banks.now / n) (place shape.k) c.args.borders read c.args.banks.now run.new.banks run.new.alpha_out run.new.beta_out
    (rows-of_order n v.views.streams.now shape 1 h read.systematic.now read.parity.now odd rows) w (λ i. ap (λ (b : Bool). cond b i (place shape.k i)) (sym odd))
    (run.ensures.ran (place shape.k) (subst (λ (k : ℕ). IsTable n k (place shape.k) x.rows.items x.banks.items) (sym w) v.table))
