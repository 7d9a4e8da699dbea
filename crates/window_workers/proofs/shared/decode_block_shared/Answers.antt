use Rattle.std.proofs.Common.{◌∙◌}
use Rattle.phase_board.specs.Boards.{board_job}
use Rattle.phase_board.specs.ClaimWord.{half_of}
use Rattle.phase_board.specs.Seats.{idle_view}
use Rattle.model_receiver.specs.Decoding.{code_result}
use Rattle.window_workers.specs.Pieces.{job_of_piece}
use Rattle.window_workers.proofs.shared.decode_block_shared.Goals as goal

pub returns-clause-result : goal.returns-clause-result
returns-clause-result g c =
    let job = board_job job_of_piece c.in_ok-board.board in let made = c.in_ok-board.ensures in
    c.take_result.ensures.result job (half_of (idle_view c.serve_all-seat.result).found) c.close-common.ensures.common
    ∙ (λ i. code_result (made.streams i) (made.shape i))

pub returns-clause-half : goal.returns-clause-half
returns-clause-half g c =
    let job = board_job job_of_piece c.in_ok-board.board in
    c.close-common.ensures.closed.1
    ∙ c.take_result.ensures.half job (half_of (idle_view c.serve_all-seat.result).found) c.close-common.ensures.common
