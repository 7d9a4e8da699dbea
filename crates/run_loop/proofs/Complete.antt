-- Where no count rose, a run ends as its answer says.
use Rattle.std.proofs.Common.{◌∙◌, ap}
use Rattle.run_loop.specs.Answer.{Answer}
use Rattle.run_loop.specs.Edges.{Edges, Causes, IsQuiet}
use Rattle.run_loop.specs.Reply.{Reply, reading, unread, EndsReply, ending_of_reply, IsEndingOf}
use Rattle.run_loop.specs.declared.status.SinkName.TheVariants.{Out, Report}
use Rattle.run_loop.specs.declared.status.Status.{Status}
use Rattle.run_loop.specs.declared.status.Status.TheVariants as status

-- the edges that say how it ended needn't be those of the counts
pub complete : (reply : Reply) (old new before now : Edges) (ending : Status) → EndsReply reply old new ending → Causes before now ending → IsQuiet before now →
    IsEndingOf (ending_of_reply reply) ending
complete reply old new before now (status.BadWords number place) ended cause quiet = absurd cause
complete reply old new before now status.ReadFault ended cause quiet = absurd (quiet.0 cause)
complete reply old new before now (status.WriteFault Out) ended cause quiet = absurd (quiet.1 cause)
complete reply old new before now (status.WriteFault Report) ended cause quiet = absurd (quiet.2 cause)
complete reply old new before now status.NoMemory ended cause quiet = tt
complete (reading a) old new before now status.Done ended cause quiet = ended.0
complete (reading a) old new before now status.SomeFailed ended cause quiet = ended.0
complete (reading a) old new before now (status.BadStream n p) ended cause quiet = ap (λ (b : Answer). b.ending) ended.3.split ∙ ended.4.1
complete (unread line ending) old new before now status.Done ended cause quiet = ended.2.0
complete (unread line ending) old new before now status.SomeFailed ended cause quiet = ended.2.0
complete (unread line ending) old new before now (status.BadStream n p) ended cause quiet = absurd ended.2
