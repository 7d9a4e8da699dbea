use Rattle.std.proofs.Common.{◌≡◌, ◌*◌, map}
use Rattle.std.specs.Prelude.{All}
use Rattle.std.specs.List.{range_with_len}
use Rattle.lte_bits.specs.Softs.{IsWithin}
use Rattle.soft_channel.specs.Noise.{Transmission, noise_draw, noise_term}
use Rattle.soft_channel.proofs.Drawing.{drawn}
use Rattle.soft_channel.proofs.noise.noise_terms.Given as goal

abbrev pub invariant-loop : goal.invariant-loop
invariant-loop l =
    let t : Transmission = record { seed = l.seed; block = l.block; number = l.tx } in
    (l.words ≡ drawn (noise_draw t) (64 * l.counter))
    × (l.terms.items ≡ map (noise_term l.noise t) (range_with_len 0 (64 * l.counter)))
    × All (IsWithin 437) l.terms.items
