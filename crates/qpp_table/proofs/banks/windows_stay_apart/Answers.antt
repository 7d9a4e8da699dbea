use Rattle.model_sender.specs.InterleaverLaws.{row-window, bank-window, bank_below, window_place_below}
use Rattle.qpp_table.proofs.banks.windows_stay_apart.Goals as goal

pub returns-clause-one_row : goal.returns-clause-one_row
returns-clause-one_row g c = λ q m j t d lj lt.
    let laws = g.met.I.Interleaver in
    row-window (g.I.Interleaver.size_of q) (g.I.Interleaver.place_of q) m j t
    (record { below = laws.below q; apart = laws.apart q; kept = laws.kept q })
    d lj lt

pub returns-clause-below : goal.returns-clause-below
returns-clause-below g c = λ q m j t d lj lt.
    bank_below (g.I.Interleaver.size_of q) m _ d (g.met.I.Interleaver.below q _ (window_place_below (g.I.Interleaver.size_of q) m j t d lj lt))

pub returns-clause-apart : goal.returns-clause-apart
returns-clause-apart g c = λ q m j t u.
    let laws = g.met.I.Interleaver in
    bank-window (g.I.Interleaver.size_of q) (g.I.Interleaver.place_of q) m j t u
    (record { below = laws.below q; apart = laws.apart q; kept = laws.kept q })
