use Rattle.std.proofs.Common.{refl}
use Rattle.model_sender.specs.Interleaver.{row_of}
use Rattle.model_sender.proofs.RowLaws.{row-of_40}
use Rattle.model_sender.proofs.interleaver.size_forty.Goals as goal

pub returns-clause-row : goal.returns-clause-row
returns-clause-row c = row-of_40

pub returns-clause-places : goal.returns-clause-places
unfolding row_of
returns-clause-places c = refl
