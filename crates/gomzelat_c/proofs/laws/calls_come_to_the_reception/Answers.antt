use Rattle.gomzelat_c.proofs.CallByCall.{calls-receive}
use Rattle.gomzelat_c.proofs.laws.calls_come_to_the_reception.Goals as goal

pub returns : goal.returns
returns c = calls-receive
