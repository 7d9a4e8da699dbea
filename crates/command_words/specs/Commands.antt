-- What the operands of each command ask for, or the first word that is refused: after the operands' own
-- refusals 5 says that a name is missing, and then come those of the blocks.
use Rattle.std.specs.Prelude.{ℕ, ◌*◌, List, [], if◌then◌else◌, Some, None, Ok, Err}
use Rattle.std.specs.Option.{ok_or}
use Rattle.std.specs.declared.option.Option.{Option}
use Rattle.std.specs.declared.result.Result.{Result}
use Rattle.model_sender.specs.CircularBuffer.{Match}
use Rattle.rate_match.specs.Matching.{is_g}
use Rattle.model_receiver.specs.Limits.{DecoderLimits}
use Rattle.soft_channel.specs.Channel.{NoiseChannel}
use Rattle.command_words.specs.Blocks.{asked_of, blocks_given}
use Rattle.command_words.specs.Operands.{first_fault, given, number_given, only}
use Rattle.command_words.specs.Refusals.{refused, missing, unless}
use Rattle.command_words.specs.Settings.{decoder_limits, noise_channel}
use Rattle.command_words.specs.Tables.{codeword_rules, g_number, qm_number, rv_of_one, encode_rules, decode_rules, workers_number, batch_rules, pipes_number, channel_rules, upgrade_rules, trial_rules, blocks_number, scramble_rules, rnti_number, q_number, slot_number, cell_number}
use Rattle.command_words.specs.declared.blocks.CodedBlocks.{CodedBlocks}
use Rattle.command_words.specs.declared.operands.Operand.{Operand}
use Rattle.command_words.specs.declared.operands.WordRefusal.{WordRefusal}
use Rattle.command_words.specs.declared.rules.Form.TheVariants.{Number, ForTransmissions}
use Rattle.command_words.specs.declared.transmissions.Asked.{Asked}
use Rattle.command_words.specs.declared.words.Command.{Command}
use Rattle.command_words.specs.declared.words.Command.TheVariants.{Codeword, Encode, Decode, Batch, Channel, Upgrade, Trial, Scramble, Points}

-- ---- codeword

-- one layer, and a full buffer
abbrev pub codeword_match : (g qm : Operand) → Match
codeword_match g qm = record { qm = only qm; nl = 1; g = only g; limit = None }

abbrev pub codeword_given : (g qm rv : Operand) → Result Command WordRefusal
codeword_given g qm rv =
    let m = codeword_match g qm in
    if is_g (m.nl * m.qm) m.g then Ok (Codeword m (only rv)) else refused 7 g.place

abbrev pub codeword_found : (g qm rv : Option Operand) → (none : WordRefusal) → Result Command WordRefusal
codeword_found (Some g) (Some qm) (Some rv) none = codeword_given g qm rv
codeword_found _ _ _ none = Err none

abbrev pub codeword_of : (operands : List (List ℕ)) → Result Command WordRefusal
codeword_of operands = unless (first_fault codeword_rules [] operands)
    (codeword_found (given g_number operands) (given qm_number operands) (given rv_of_one operands)
    (missing operands))

-- ---- encode

abbrev pub encode_with : Result CodedBlocks WordRefusal → Result Command WordRefusal
encode_with (Ok blocks) = Ok (Encode blocks.version blocks.tb blocks.sends)
encode_with (Err refusal) = Err refusal

abbrev pub encode_found : Option Asked → (none : WordRefusal) → Result Command WordRefusal
encode_found (Some asked) none = encode_with (blocks_given asked)
encode_found None none = Err none

-- G, Q_m and N_L are lists
abbrev pub encode_of : (operands : List (List ℕ)) → Result Command WordRefusal
encode_of operands = unless (first_fault encode_rules [] operands)
    (encode_found (asked_of ForTransmissions operands) (missing operands))

-- ---- decode, batch, channel, points, upgrade

abbrev pub decode_found : Option DecoderLimits → (workers : Option ℕ) → Option Command
decode_found (Some limits) (Some workers) = Some (Decode limits workers)
decode_found _ _ = None

abbrev pub decode_of : (operands : List (List ℕ)) → Result Command WordRefusal
decode_of operands = unless (first_fault decode_rules [] operands)
    (ok_or (decode_found (decoder_limits operands) (number_given workers_number operands))
    (missing operands))

abbrev pub batch_found : Option DecoderLimits → (pipes : Option ℕ) → Option Command
batch_found (Some limits) (Some pipes) = Some (Batch pipes limits)
batch_found _ _ = None

abbrev pub batch_of : (operands : List (List ℕ)) → Result Command WordRefusal
batch_of operands = unless (first_fault batch_rules [] operands)
    (ok_or (batch_found (decoder_limits operands) (number_given pipes_number operands))
    (missing operands))

abbrev pub channel_asked : (operands : List (List ℕ)) → Result NoiseChannel WordRefusal
channel_asked operands = unless (first_fault channel_rules [] operands)
    (ok_or (noise_channel operands) (missing operands))

abbrev pub channel_with : Result NoiseChannel WordRefusal → Result Command WordRefusal
channel_with (Ok c) = Ok (Channel c)
channel_with (Err refusal) = Err refusal

abbrev pub channel_of : (operands : List (List ℕ)) → Result Command WordRefusal
channel_of operands = channel_with (channel_asked operands)

-- the operands of `channel`
abbrev pub points_with : Result NoiseChannel WordRefusal → Result Command WordRefusal
points_with (Ok c) = Ok (Points c)
points_with (Err refusal) = Err refusal

abbrev pub points_of : (operands : List (List ℕ)) → Result Command WordRefusal
points_of operands = points_with (channel_asked operands)

abbrev pub upgrade_of : (operands : List (List ℕ)) → Result Command WordRefusal
upgrade_of operands = unless (first_fault upgrade_rules [] operands) (Ok Upgrade)

-- ---- scramble

abbrev pub scramble_found : (rnti q slot cell : Option ℕ) → Option Command
scramble_found (Some rnti) (Some q) (Some slot) (Some cell) = Some (Scramble rnti q slot cell)
scramble_found _ _ _ _ = None

abbrev pub scramble_of : (operands : List (List ℕ)) → Result Command WordRefusal
scramble_of operands = unless (first_fault scramble_rules [] operands)
    (ok_or (scramble_found (number_given rnti_number operands) (number_given q_number operands)
    (number_given slot_number operands) (number_given cell_number operands)) (missing operands))

-- ---- trial

abbrev pub trial_with : NoiseChannel → DecoderLimits → (count : ℕ) → Result CodedBlocks WordRefusal
    → Result Command WordRefusal
trial_with c limits count (Ok blocks) = Ok (Trial count blocks.tb blocks.sends c limits)
trial_with c limits count (Err refusal) = Err refusal

abbrev pub trial_found : Option Asked → Option NoiseChannel → Option DecoderLimits → (count : Option ℕ)
    → (none : WordRefusal) → Result Command WordRefusal
trial_found (Some asked) (Some c) (Some limits) (Some count) none = trial_with c limits count (blocks_given asked)
trial_found _ _ _ _ none = Err none

-- G, Q_m and N_L are single numbers
abbrev pub trial_of : (operands : List (List ℕ)) → Result Command WordRefusal
trial_of operands = unless (first_fault trial_rules [] operands)
    (trial_found (asked_of Number operands) (noise_channel operands) (decoder_limits operands)
    (number_given blocks_number operands) (missing operands))
