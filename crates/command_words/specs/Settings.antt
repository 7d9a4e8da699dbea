-- The channel and the limits of the decoder.
use Rattle.std.specs.Prelude.{List, ℕ, Some, None}
use Rattle.std.specs.declared.option.Option.{Option}
use Rattle.model_receiver.specs.Limits.{DecoderLimits}
use Rattle.soft_channel.specs.Channel.{NoiseChannel}
use Rattle.command_words.specs.Operands.{number_given}
use Rattle.command_words.specs.Tables.{amp_number, noise_number, seed_number, windows_number, limit_number}

abbrev pub channel_found : (amp noise seed : Option ℕ) → Option NoiseChannel
channel_found (Some amp) (Some noise) (Some seed) = Some (record { amp = amp; noise = noise; seed = seed })
channel_found _ _ _ = None

abbrev pub noise_channel : (operands : List (List ℕ)) → Option NoiseChannel
noise_channel operands = channel_found (number_given amp_number operands)
    (number_given noise_number operands) (number_given seed_number operands)

abbrev pub limits_found : (windows limit : Option ℕ) → Option DecoderLimits
limits_found (Some windows) (Some limit) = Some (record { windows = windows; limit = limit })
limits_found _ _ = None

abbrev pub decoder_limits : (operands : List (List ℕ)) → Option DecoderLimits
decoder_limits operands =
    limits_found (number_given windows_number operands) (number_given limit_number operands)
