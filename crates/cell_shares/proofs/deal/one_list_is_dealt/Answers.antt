use Rattle.cell_shares.proofs.Undone.{undone}
use Rattle.cell_shares.proofs.deal.one_list_is_dealt.Goals as goal

pub returns : goal.returns
returns g c = λ order m v u some d long is e. undone order m v u d long is e
