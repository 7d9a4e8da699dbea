use Rattle.std.proofs.Common.{◌≡◌, ℕ, ◌*◌, ◌≤◌, arith}
use Rattle.model_sender.proofs.RowLaws.{range-of_size}
use Rattle.lane_banks.proofs.BankCells.{lanes-least}
use Rattle.lane_windows.proofs.LaneHalves.{narrow, covers}
use Rattle.lane_windows.proofs.decoder.LaneDecoder.new.Goals as goal

pub new-requires-2 : goal.new-requires-2
new-requires-2 g c =
    let n = g.row.N in let v = c.in_ok-views.views in let shape = v.views.shape in let w : ℕ = c.width-width.result in let whole = c.width-width.ensures.whole in
    let e : n * w ≡ shape.k = covers shape n w whole v.windows c.width-width.ensures.value in
    let least : 8 ≤ w = omega (arith, c.width-width.ensures.value, whole.wide) in
    let most : w ≤ 768 = narrow n w shape.k e (lanes-least n c.requires.lanes) (range-of_size shape.k whole.size).1 in
    (omega arith, (c.requires.lanes, (least, most)))
