use Rattle.std.proofs.Common.{◌≡◌, ◌++◌, ℕ, List, length, drop, take, sym, ap, ◌∙◌}
use Rattle.std.proofs.Math.Seq.{take-append_seam}
use Rattle.lane_banks.proofs.places.banks_of_places.Goals as goal

pub returns : goal.returns
returns g c =
    let b = c.in_ok-banks.banks in
    let new : List ℕ = c.fill_banks.new.banks in
    let long : length new ≡ b.len = c.fill_banks.auto.banks ∙ (ap length c.as_mut_slice.ensures.value ∙ sym b.ok.0) in
    ap (λ (n : ℕ). take n (new ++ drop (length new) b.items)) (sym long) ∙ (take-append_seam new (drop (length new) b.items) ∙ c.fill_banks.ensures)
