use Rattle.std.proofs.Common.{◌≡◌, ◌++◌, take}
use Rattle.stream_loop.specs.SoftBytes.{bytes_of}
use Rattle.stream_loop.proofs.softs.push_bytes.Given as goal

abbrev pub invariant-loop-soft : goal.invariant-loop-soft
invariant-loop-soft l = l.text.items ≡ l.fn.text.items ++ bytes_of (take l.soft-index l.softs)
