use Rattle.std.proofs.Common.{◌≡◌, drop}
use Rattle.model_receiver.specs.SoftCells.{piece_start, reception}
use Rattle.soft_buffers.proofs.Codewords.{IsPassed}
use Rattle.soft_buffers.proofs.pieces.add_codeword.Given as goal

abbrev pub invariant-loop-r : goal.invariant-loop-r
invariant-loop-r l = record {
  rest : l.rest ≡ drop (piece_start l.plan l.m l.r) l.softs;
  passed : IsPassed l.plan (reception l.m l.rv l.softs) l.fn.blocks l.r l.blocks;
}
