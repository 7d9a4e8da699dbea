-- Which values may go to another thread.
use denote.Enum.Declared.{shape as shape_of}
use denote.Param.Send.{IsSend, sendable, recorded_send, enum_send}
use denote.Param.SendFields.{declared_send}
use Rattle.std.proofs.Crossing.{crosses}
use Rattle.lte_bits.specs.contracts.soft.Soft as Soft
use Rattle.window_decode.specs.contracts.ext.Ext as Ext
use Rattle.window_decode.specs.contracts.border.Border as Border
use Rattle.window_decode.specs.contracts.shape.Shape as Shape
use Rattle.window_decode.specs.contracts.work.Work as Work
use Rattle.half_iteration.specs.contracts.left.BordersLeft as BordersLeft
use Rattle.cell_shares.specs.contracts.share.Share as Share
use Rattle.cell_shares.proofs.part.Part.TheSendSync.{the_send as part}
use Rattle.cell_shares.proofs.right.FreeRight.TheSendSync.{the_send as right}
use Rattle.model_receiver.specs.contracts.result.CodeResult as CodeResult
use Rattle.window_workers.specs.contracts.view.WindowView as WindowView
use Rattle.window_workers.specs.contracts.piece.Tools as Tools
use Rattle.window_workers.specs.contracts.piece.WindowPiece as WindowPiece
use Rattle.window_workers.specs.contracts.common.Progress as Progress
use Rattle.window_workers.specs.contracts.common.Rooms as Rooms
use Rattle.window_workers.specs.contracts.common.Stage as Stage
use Rattle.window_workers.specs.contracts.common.WindowCommon as WindowCommon

pub Soft-send : IsSend Soft.the_row
Soft-send = search (sendable, crosses) depth 20

pub Border-send : IsSend Border.the_row
Border-send = search (sendable, crosses) depth 20

pub Ext-send : IsSend Ext.the_row
Ext-send = search (sendable, crosses) depth 20

pub Shape-send : IsSend Shape.the_row
Shape-send = search (sendable, crosses) depth 20

pub Work-send : IsSend Work.the_row
Work-send = search (sendable, crosses) depth 20

pub BordersLeft-send : IsSend BordersLeft.the_row
BordersLeft-send = search (sendable, crosses, Border-send) depth 20

pub Share-send : IsSend (Share.the_row Ext.the_row)
Share-send = search (sendable, crosses, part, right, Ext-send) depth 20

pub WindowView-send : IsSend WindowView.the_row
WindowView-send = search (sendable, crosses, Soft-send) depth 20

pub Tools-send : IsSend Tools.the_row
Tools-send = search (sendable, crosses, WindowView-send, Work-send, BordersLeft-send) depth 20

pub WindowPiece-send : IsSend WindowPiece.the_row
WindowPiece-send = declared_send WindowPiece.the_type (Share-send, (Tools-send, (Border-send, (Border-send, tt))))

pub Progress-send : IsSend (Progress.the_field).row
Progress-send = search (sendable, crosses, Shape-send, Border-send, BordersLeft-send) depth 20

pub Rooms-send : IsSend (Rooms.the_field).row
Rooms-send = search (sendable, crosses, Share-send, Tools-send) depth 20

pub CodeResult-send : IsSend (CodeResult.the_field).row
CodeResult-send = search (sendable, crosses) depth 40

pub Stage-send : IsSend Stage.the_row
Stage-send = recorded_send _ _ _ (Stage.the_type).to_one (enum_send (shape_of Stage.the_type) ((Progress-send, (Rooms-send, tt)), ((CodeResult-send, tt), tt)))

pub WindowCommon-send : IsSend WindowCommon.the_row
WindowCommon-send = declared_send WindowCommon.the_type (Stage-send, tt)
