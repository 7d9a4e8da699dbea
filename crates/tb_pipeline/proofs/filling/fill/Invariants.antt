use Rattle.std.proofs.Common.{◌≡◌}
use Rattle.crossbeam_queue.specs.Passes.{IsPassOf, view}
use Rattle.tb_pipeline.specs.declared.known.Role.TheVariants.{Filling}
use Rattle.tb_pipeline.specs.Relays.{all_items, numbers}
use Rattle.tb_pipeline.proofs.filling.fill.Given as goal

abbrev pub invariant-loop-number : goal.invariant-loop-number
invariant-loop-number g l = IsPassOf l.queue l.filler × ((view l.filler).role ≡ Filling) × ((view l.filler).all ≡ numbers l.number)

abbrev pub invariant-loop : goal.invariant-loop
invariant-loop g l = IsPassOf l.queue l.filler × ((view l.filler).role ≡ Filling) × ((view l.filler).all ≡ all_items l.count l.counter)
