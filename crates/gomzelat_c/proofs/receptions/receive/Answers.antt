use Rattle.std.proofs.Common.{◌≡◌, length, map, sym, subst, ap, ◌∙◌, arith}
use Rattle.lte_bits.specs.Softs.{clamped}
use Rattle.model_sender.specs.Segmentation.{Plan}
use Rattle.model_receiver.specs.TransportBlocks.{outcome}
use Rattle.model_receiver.specs.declared.result.TbOutcome.{TbOutcome}
use Rattle.block_receive.specs.Receptions.{receptions}
use Rattle.gomzelat_c.specs.Receiving.{HasRoom}
use Rattle.gomzelat_c.proofs.Rooms.{has_room, more_room, plan_bytes}
use Rattle.gomzelat_c.proofs.receptions.receive.Goals as goal

pub write_payload-requires : goal.write_payload-requires
write_payload-requires c =
    let job = c.in_ok-job.job in
    let room = length c.args.payload.now in
    let came = receptions job.sends (map (clamped 127) c.args.values.now) in
    let P : TbOutcome → Type 0 = λ o. HasRoom o room in
    let bytes : job.task.plan.bytes ≡ c.args.bytes = ap (λ (p : Plan). p.bytes) c.in_ok-job.ensures.plan ∙ plan_bytes c.args.bytes in
    subst P (sym c.in_ok-received.ensures)
    (more_room (outcome job.task.plan job.task.limits came) job.task.plan.bytes room (has_room job.task.plan job.task.limits came)
    (omega (arith, bytes, c.in_ok-job.ensures.room)))
