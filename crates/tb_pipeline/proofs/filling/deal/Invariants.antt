use Rattle.std.proofs.Common.{◌≡◌, ◌≤◌, length, vec_capacity, All}
use Rattle.crossbeam_queue.specs.Passes.{IsPassOf, view}
use Rattle.tb_pipeline.specs.Hands.{hand_view}
use Rattle.tb_pipeline.specs.Relays.{IsFiller, hand_of}
use Rattle.tb_pipeline.proofs.filling.deal.Given as goal

abbrev pub invariant-loop : goal.invariant-loop
invariant-loop l =
    IsPassOf l.queue l.filler × IsFiller (view l.filler) × ((view l.filler).all ≡ (view l.fn.filler).all) × (length l.made.items ≡ l.counter)
    × (l.hands ≤ vec_capacity l.made)
    × All (λ h. IsPassOf l.queue h.pass × (hand_view h ≡ hand_of (view l.fn.filler))) l.made.items
