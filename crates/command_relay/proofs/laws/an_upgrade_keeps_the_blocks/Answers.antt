use Rattle.std.proofs.Common.{List, ℕ, ◌++◌, ap}
use Rattle.coded_stream.specs.Header.{word_text}
use Rattle.command_relay.proofs.Places.{all_as_read}
use Rattle.command_relay.proofs.laws.an_upgrade_keeps_the_blocks.Goals as goal

pub returns : goal.returns
returns c h number b is = ap (λ (xs : List ℕ). word_text b.payload ++ xs) (all_as_read h number 0 h.sends b.bytes is.sent)
