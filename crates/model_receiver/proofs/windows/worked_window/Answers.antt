use Rattle.std.proofs.Common.{refl}
use Rattle.model_receiver.specs.Paths.{greatest_of_paths}
use Rattle.model_receiver.specs.Windows.{new_cells}
use Rattle.model_receiver.proofs.windows.worked_window.Goals as goal

pub returns : goal.returns
unfolding new_cells greatest_of_paths
returns c = refl
