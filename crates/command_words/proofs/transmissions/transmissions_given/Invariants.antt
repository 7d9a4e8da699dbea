use Rattle.std.proofs.Common.{◌≡◌, ◌≤◌, true}
use Rattle.std.specs.Prelude.{map}
use Rattle.std.specs.List.{list_all, range_with_len}
use Rattle.command_words.specs.Transmissions.{transmission_at, is_multiple}
use Rattle.command_words.proofs.transmissions.transmissions_given.Given as goal

abbrev pub invariant-loop-i : goal.invariant-loop-i
invariant-loop-i l =
    (l.sends ≡ map (transmission_at l.asked) (range_with_len 0 l.i)) × (list_all is_multiple (map (transmission_at l.asked) (range_with_len 0 l.i)) ≡ true) × (1 ≤ l.i)
