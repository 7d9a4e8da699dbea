use Rattle.std.proofs.Common.{rules}
use Rattle.qpp_table.specs.Groups.{is_among}
use Rattle.qpp_table.proofs.groups.fill_1184_to_1920.Goals as goal

-- a size of no row
pub returns-in_default : goal.returns-in_default
unfolding is_among
returns-in_default c = search rules
