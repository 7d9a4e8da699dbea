use Rattle.std.proofs.Common.{◌≡◌, ◌∷◌, ◌+◌, ◌≤◌, List, Vec, length}
use Rattle.std.specs.Prelude.{vec_capacity}
use Rattle.std.specs.declared.alloc.Global.{Global}
use Rattle.phase_board.specs.declared.view.Slot.TheVariants.{Common as Keeps}
use Rattle.phase_board.proofs.Laid.{all_of, holding}
use Rattle.phase_board.proofs.new_board.unlay.Given as goal

abbrev pub invariant-loop-i : goal.invariant-loop-i
invariant-loop-i g l =
    (ps : List g.row.P.Denot) × (room : Vec g.row.P.Denot Global) × (l.fn.slots.items ≡ Keeps l.common room ∷ holding _ _ ps)
    × (all_of _ _ l.pieces.items l.slots.items ≡ holding _ g.row.P-Common.Denot ps)
    × (length l.pieces.items + length l.slots.items ≡ length ps) × (length ps ≤ vec_capacity l.pieces) × (length l.slots.items + l.i ≡ l.i-end)
