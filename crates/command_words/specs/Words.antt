-- What the words ask for, or the first word that is refused: 1 says that there is no command, and 2 that it is
-- unknown.
use Rattle.std.specs.Prelude.{ℕ, List, [], ◌∷◌, if◌then◌else◌, Some, None, codes}
use Rattle.std.specs.Str.{bytes_eq}
use Rattle.std.specs.declared.option.Option.{Option}
use Rattle.std.specs.declared.result.Result.{Result}
use Rattle.command_words.specs.Commands.{codeword_of, encode_of, decode_of, batch_of, channel_of, upgrade_of, trial_of, scramble_of, points_of}
use Rattle.command_words.specs.Refusals.{refused}
use Rattle.command_words.specs.declared.names.CommandName.{CommandName}
use Rattle.command_words.specs.declared.names.CommandName.TheVariants.{Codeword, Encode, Decode, Batch, Channel, Upgrade, Trial, Scramble, Points}
use Rattle.command_words.specs.declared.operands.WordRefusal.{WordRefusal}
use Rattle.command_words.specs.declared.words.Command.{Command}

abbrev pub command_named : (word : List ℕ) → Option CommandName
command_named word = if bytes_eq word (codes "codeword") then Some Codeword
    else if bytes_eq word (codes "encode") then Some Encode
    else if bytes_eq word (codes "decode") then Some Decode
    else if bytes_eq word (codes "batch") then Some Batch
    else if bytes_eq word (codes "channel") then Some Channel
    else if bytes_eq word (codes "upgrade") then Some Upgrade
    else if bytes_eq word (codes "trial") then Some Trial
    else if bytes_eq word (codes "scramble") then Some Scramble
    else if bytes_eq word (codes "points") then Some Points
    else None

abbrev pub command_with : Option CommandName → (operands : List (List ℕ)) → Result Command WordRefusal
command_with (Some Codeword) operands = codeword_of operands
command_with (Some Encode) operands = encode_of operands
command_with (Some Decode) operands = decode_of operands
command_with (Some Batch) operands = batch_of operands
command_with (Some Channel) operands = channel_of operands
command_with (Some Upgrade) operands = upgrade_of operands
command_with (Some Trial) operands = trial_of operands
command_with (Some Scramble) operands = scramble_of operands
command_with (Some Points) operands = points_of operands
command_with None operands = refused 2 0

abbrev pub command_of : (words : List (List ℕ)) → Result Command WordRefusal
command_of [] = refused 1 0
command_of (name ∷ operands) = command_with (command_named name) operands
