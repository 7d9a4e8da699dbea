use Rattle.std.proofs.Common.{◌≡◌, ℕ, length, replicate, sym, ap, ◌∙◌, subst, rules}
use Prim.Native.Nat.{◌∣◌}
use Rattle.std.proofs.lemmas.List.{length-replicate}
use Rattle.model_receiver.specs.Windows.{zero_cell}
use Rattle.window_workers.proofs.opening_pieces.zero_cells.Goals as goal

pub new-requires-clause-divides : goal.new-requires-clause-divides
new-requires-clause-divides c =
    let zeros : c.in_ok-values.values.items ≡ replicate c.k.result zero_cell = search rules in
    let long : length c.from_vec.result ≡ c.args.shape.now.k = ap length (c.from_vec.ensures ∙ zeros) ∙ (length-replicate c.k.result zero_cell ∙ c.k.ensures.value) in
    subst (λ (n : ℕ). c.windows.result ∣ n) (sym long) (subst (λ (m : ℕ). m ∣ c.args.shape.now.k) (sym c.windows.ensures.value) c.k.ensures.lawful.divided)
