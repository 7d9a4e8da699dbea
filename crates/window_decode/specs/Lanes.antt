-- Eight numbers of 16 bits, one for each state.
use Rattle.std.specs.Prelude.{◌≡◌, ℤ, pos, List, length}
use Rattle.model_sender.specs.ConstituentCoder.{zero_state}
use Rattle.model_receiver.specs.Borders.{number_for}
use Rattle.window_decode.specs.Recursions.{IsBounded, AreNear}

-- eight numbers from -32767 to 32767
pub record IsLanes (numbers : List ℤ) : Type 0 where
  pub eight : length numbers ≡ 8
  pub bounded : IsBounded 32767 (number_for numbers)

-- metrics relative to that of state 0: at every position of a window they differ by at most 4096 + 2295
pub record IsRelative (numbers : List ℤ) : Type 0 where
  pub eight : length numbers ≡ 8
  pub zero : number_for numbers zero_state ≡ pos 0
  pub near : AreNear 6391 (number_for numbers)
