use Rattle.cell_shares.proofs.Dealt.{dealt-width, dealt-value}
use Rattle.cell_shares.proofs.deal.values_are_dealt_by_place.Goals as goal

pub returns-clause-width : goal.returns-clause-width
returns-clause-width g c = λ order m t v divides is h. dealt-width order m v divides is t h

pub returns-clause-value : goal.returns-clause-value
returns-clause-value g c = λ order m t j v x divides is h l. dealt-value order m v divides is t h j x l
