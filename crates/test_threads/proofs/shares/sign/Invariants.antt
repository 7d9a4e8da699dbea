use Rattle.std.proofs.Common.{◌≡◌, length}
use Rattle.cell_shares.specs.Shares.{share_label, share_values}
use Rattle.test_threads.proofs.shares.sign.Given as goal

abbrev pub invariant-loop-j : goal.invariant-loop-j
invariant-loop-j l = (length (share_values l.share) ≡ l.width) × (share_label l.share ≡ share_label l.fn.share)
