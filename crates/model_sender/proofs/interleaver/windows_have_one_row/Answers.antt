use Rattle.std.proofs.Common.{◌∙◌, sym}
use Rattle.model_sender.specs.Interleaver.{pi}
use Rattle.model_sender.specs.InterleaverLaws.{lawful-interleaves, row-window}
use Rattle.model_sender.proofs.interleaver.windows_have_one_row.Goals as goal

pub returns : goal.returns
returns c = λ k f1 f2 m j t u law d lj lt lu.
    row-window k (pi k f1 f2) m j t (lawful-interleaves k f1 f2 law) d lj lt
    ∙ sym (row-window k (pi k f1 f2) m j u (lawful-interleaves k f1 f2 law) d lj lu)
