use Rattle.run_loop.proofs.fault_line.write_fault_line.Goals as goal

pub returns-in-BadStream-clause-told : goal.returns-in-BadStream-clause-told
returns-in-BadStream-clause-told g c = rw c.in-BadStream.is c.write_place-in-BadStream.ensures.told

pub returns-in-ReadFault-clause-told : goal.returns-in-ReadFault-clause-told
returns-in-ReadFault-clause-told g c = rw c.in-ReadFault.is c.write_each.ensures.told

pub returns-in-Out-clause-told : goal.returns-in-Out-clause-told
returns-in-Out-clause-told g c = rw c.in-WriteFault.is (rw c.in-Out.is c.write_each-in-Out.ensures.told)
