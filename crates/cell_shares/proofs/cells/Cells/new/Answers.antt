use Rattle.std.proofs.Common.{ℕ, ◌≡◌, ◌≢◌, ◌∙◌, ◌*◌, ◌/◌, ◌<◌, List, [], ◌∷◌, length, refl, sym, ap, subst, arith}
use Rattle.std.specs.List.{range_with_len}
use Rattle.model_sender.specs.InterleaverLaws.{windows-whole}
use Rattle.core.specs.Mem.Slots.{slots_counts, slots_items}
use Rattle.cell_shares.specs.Parts.{places, values}
use Rattle.cell_shares.proofs.Numbers.{places-numbered, values-numbered}
use Rattle.cell_shares.proofs.cells.Cells.new.Goals as goal

some_values : {X : Type 0} (values : List X) (count : ℕ) → values ≢ [] → count ≡ length values → 0 < count
some_values [] count some long = absurd (some refl)
some_values (x ∷ xs) count some long = omega (arith, long)

pub invariant_of-result : goal.invariant_of-result
invariant_of-result g c =
    let o = c.of.ensures in let f = c.fill.ensures in let e = c.in-Ok.ensures in
    let long : c.len-count.result ≡ length c.args.values = c.len-count.ensures ∙ (c.into_vec-values.result.ok.0 ∙ ap length c.into_vec-values.ensures) in
    let items : slots_items c.fill.new.row ≡ c.args.values = f.items ∙ (c.as_slice-2.ensures.value ∙ c.into_vec-values.ensures) in record {
      numbered = ap places o.2 ∙ (places-numbered 0 (slots_items c.fill.new.row) ∙ ap (range_with_len 0) (ap length items ∙ sym long));
      counted = long ∙ (sym (ap length items) ∙ (sym (slots_counts c.fill.new.row).0 ∙ sym o.1));
      whole = sym (subst (λ (k : ℕ). c.args.windows * (k / c.args.windows) ≡ k) (sym long) (windows-whole (length c.args.values) c.args.windows c.requires.divides));
      some_cell = some_values c.args.values c.len-count.result c.requires.some long;
      small = c.len-count.type_inv;
      some_window = c.requires.least;
      frees = (
        ap Rattle.core.specs.Mem.Slots.lease_ptr c.new.ensures ∙ (e.1 ∙ (sym f.start ∙ sym o.0)),
        ap Rattle.core.specs.Mem.Slots.lease_len c.new.ensures ∙ (e.2 ∙ (e.0 ∙ (ap length (c.as_slice.ensures.value ∙ c.into_vec-values.ensures) ∙ sym long))),
        ap Rattle.core.specs.Mem.Slots.lease_heap c.new.ensures ∙ e.3,
      );
      empty = c.in-Ok-with_capacity.ensures.items;
      has_room = c.in-Ok-with_capacity.ensures.capacity;
    }

pub returns-clause-values : goal.returns-clause-values
returns-clause-values g c = let items : slots_items c.fill.new.row ≡ c.args.values = c.fill.ensures.items ∙ (c.as_slice-2.ensures.value ∙ c.into_vec-values.ensures) in
    ap values c.of.ensures.2 ∙ (values-numbered 0 (slots_items c.fill.new.row) ∙ items)
