use Rattle.std.proofs.Common.{ℕ, refl}
use Rattle.test_threads.specs.declared.board.Tile.{Tile}
use Rattle.test_threads.proofs.Tiles.{opens-alike}
use Rattle.test_threads.proofs.board.new_board.Goals as goal

pub new-requires : goal.new-requires
new-requires g c =
    let tile : Tile = record { windows = c.args.windows } in
    let common : ℕ = 7 in
    opens-alike (λ p. p.windows) c.args.windows tile c.in_ok-pieces.pieces.items common refl c.requires.0 c.requires.1 (c.in_ok-pieces.ensures.items_if_clones_equal (λ y e. e))
