use Rattle.std.proofs.Common.{◌≡◌, ◌++◌, length, take, flat_map}
use Rattle.coded_stream.specs.Header.{word_text}
use Rattle.command_encode.specs.Encode.{sent_text}
use Rattle.command_encode.proofs.blocks.block_text.Given as goal

abbrev pub invariant-loop-i : goal.invariant-loop-i
invariant-loop-i l = l.text.items ≡ word_text (length l.payload) ++ flat_map (sent_text l.payload) (take l.i l.header.sends)
