-- What holds of each command that words ask for.
use Rattle.std.specs.Prelude.{◌≡◌, ℕ, ◌≤◌, List, true, None}
use Rattle.rate_match.specs.Fitting.{fits_all}
use Rattle.rate_match.specs.Sendings.{AreSendings, AreEven, common}
use Rattle.rate_match.specs.declared.sends.Sending.{Sending}
use Rattle.coded_stream.specs.Header.{AreHeld}
use Rattle.coded_stream.specs.Limit.{is_limit}
use Rattle.model_receiver.specs.Limits.{AreLimits}
use Rattle.soft_channel.specs.Channel.{IsChannel}
use Rattle.command_words.specs.declared.words.Command.{Command}
use Rattle.command_words.specs.declared.words.Command.TheVariants.{Codeword, Encode, Decode, Batch, Channel, Upgrade, Trial, Scramble, Points}

-- transmissions whose soft buffer fits every block of 1 to tb bytes
pub record AreForBlocks (tb : ℕ) (sends : List Sending) : Type 0 where
  pub some : 1 ≤ tb
  pub few : tb ≤ 18722
  pub sent : AreSendings sends
  pub limited : is_limit (common sends).limit ≡ true
  pub fits : fits_all (common sends).limit tb ≡ true

abbrev pub IsLawful : Command → Type 0
IsLawful (Codeword m rv) = (m.limit ≡ None) × (rv ≤ 3)
IsLawful (Encode version tb sends) = AreForBlocks tb sends × AreHeld version sends
IsLawful (Decode limits workers) = AreLimits limits × (1 ≤ workers) × (workers ≤ 16)
IsLawful (Batch pipes limits) = AreLimits limits × (1 ≤ pipes) × (pipes ≤ 8)
IsLawful (Channel channel) = IsChannel channel
IsLawful Upgrade = Unit {0}
IsLawful (Trial blocks tb sends channel limits) = AreForBlocks tb sends × AreEven sends
    × (1 ≤ blocks) × (blocks ≤ 4096) × IsChannel channel × AreLimits limits
IsLawful (Scramble rnti q slot cell) = (rnti ≤ 65535) × (q ≤ 1) × (slot ≤ 19) × (cell ≤ 503)
IsLawful (Points channel) = IsChannel channel
