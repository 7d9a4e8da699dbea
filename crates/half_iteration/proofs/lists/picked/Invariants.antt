use Rattle.std.proofs.Common.{◌≡◌, map, take}
use Rattle.model_receiver.specs.Borders.{at}
use Rattle.half_iteration.proofs.lists.picked.Given as goal

abbrev pub invariant-loop-place : goal.invariant-loop-place
invariant-loop-place l = l.out.items ≡ map (at l.values) (take l.place-index l.places)
