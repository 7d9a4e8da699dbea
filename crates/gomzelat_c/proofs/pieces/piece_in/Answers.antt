use Rattle.gomzelat_c.proofs.pieces.piece_in.Goals as goal

pub start-requires-clause-size : goal.start-requires-clause-size
start-requires-clause-size c = c.ring_of-ring.ensures.sized
