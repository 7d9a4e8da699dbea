-- What each command takes: for each name which numbers are accepted, and what is taken where it isn't given.
use Rattle.std.specs.Prelude.{ℕ, List, [], ◌∷◌, Some, None}
use Rattle.command_words.specs.Rules.{in_form}
use Rattle.command_words.specs.declared.rules.Name.{Name}
use Rattle.command_words.specs.declared.rules.Name.TheVariants.{Tb, G, Qm, Rv, Nl, Nir, Windows, Limit, Workers, Pipes, Amp, Noise, Seed, Blocks, Rnti, Q, Slot, Cell}
use Rattle.command_words.specs.declared.rules.Form.TheVariants.{Number, ListOfOne, ForTransmissions}
use Rattle.command_words.specs.declared.rules.Range.{Range}
use Rattle.command_words.specs.declared.rules.Range.TheVariants.{Between, Even}
use Rattle.command_words.specs.declared.rules.Rule.{Rule}

-- a number that has to be given
abbrev pub required : Name → Range → Rule
required name range = record { name = name; form = Number; range = range; default = None }

-- a number, and what is taken where it isn't given
abbrev pub optional : Name → Range → ℕ → Rule
optional name range n = record { name = name; form = Number; range = range; default = Some n }

-- ---- a transmission

abbrev pub to_a_million : Range
to_a_million = Between 1 1000000

abbrev pub modulations : Range
modulations = Even 2 6

abbrev pub versions : Range
versions = Between 0 3

abbrev pub layers : Range
layers = Between 1 2

abbrev pub g_number : Rule
g_number = required G to_a_million

abbrev pub qm_number : Rule
qm_number = required Qm modulations

abbrev pub nl_number : Rule
nl_number = optional Nl layers 1

abbrev pub rv_of_one : Rule
rv_of_one = in_form ListOfOne (required Rv versions)

-- ---- the transmissions of a block

abbrev pub g_list : Rule
g_list = in_form ForTransmissions g_number

abbrev pub qm_list : Rule
qm_list = in_form ForTransmissions qm_number

abbrev pub nl_list : Rule
nl_list = in_form ForTransmissions nl_number

abbrev pub rv_list : Rule
rv_list = in_form ForTransmissions (required Rv versions)

-- ---- all blocks

abbrev pub lengths : Range
lengths = Between 1 18722

abbrev pub limits : Range
limits = Between 0 1000000

abbrev pub tb_number : Rule
tb_number = required Tb lengths

abbrev pub nir_number : Rule
nir_number = optional Nir limits 0

-- ---- decoding

abbrev pub window_counts : Range
window_counts = Between 1 64

abbrev pub to_sixteen : Range
to_sixteen = Between 1 16

abbrev pub windows_number : Rule
windows_number = optional Windows window_counts 8

abbrev pub limit_number : Rule
limit_number = optional Limit to_sixteen 8

abbrev pub workers_number : Rule
workers_number = optional Workers to_sixteen 1

abbrev pub pipe_counts : Range
pipe_counts = Between 1 8

abbrev pub pipes_number : Rule
pipes_number = optional Pipes pipe_counts 2

-- ---- the channel

abbrev pub amplitudes : Range
amplitudes = Between 1 127

abbrev pub strengths : Range
strengths = Between 0 127

abbrev pub seeds : Range
seeds = Between 0 18446744073709551615

abbrev pub amp_number : Rule
amp_number = required Amp amplitudes

abbrev pub noise_number : Rule
noise_number = required Noise strengths

abbrev pub seed_number : Rule
seed_number = required Seed seeds

-- ---- a trial

abbrev pub block_counts : Range
block_counts = Between 1 4096

abbrev pub blocks_number : Rule
blocks_number = required Blocks block_counts

-- ---- scrambling: n_RNTI, q, n_s and the cell's identity of 36.211 6.3.1

abbrev pub identities : Range
identities = Between 0 65535

abbrev pub codewords : Range
codewords = Between 0 1

abbrev pub slots : Range
slots = Between 0 19

abbrev pub cells : Range
cells = Between 0 503

abbrev pub rnti_number : Rule
rnti_number = required Rnti identities

abbrev pub q_number : Rule
q_number = required Q codewords

abbrev pub slot_number : Rule
slot_number = required Slot slots

abbrev pub cell_number : Rule
cell_number = required Cell cells

-- ---- commands

abbrev pub codeword_rules : List Rule
codeword_rules = g_number ∷ qm_number ∷ rv_of_one ∷ []

abbrev pub encode_rules : List Rule
encode_rules = tb_number ∷ g_list ∷ qm_list ∷ rv_list ∷ nl_list ∷ nir_number ∷ []

abbrev pub decode_rules : List Rule
decode_rules = windows_number ∷ limit_number ∷ workers_number ∷ []

abbrev pub batch_rules : List Rule
batch_rules = windows_number ∷ limit_number ∷ pipes_number ∷ []

abbrev pub channel_rules : List Rule
channel_rules = amp_number ∷ noise_number ∷ seed_number ∷ []

abbrev pub upgrade_rules : List Rule
upgrade_rules = []

abbrev pub trial_rules : List Rule
trial_rules =
    seed_number ∷ blocks_number ∷ tb_number ∷ g_number ∷ qm_number ∷ rv_list ∷ nl_number ∷ nir_number
    ∷ amp_number ∷ noise_number ∷ windows_number ∷ limit_number ∷ []

abbrev pub scramble_rules : List Rule
scramble_rules = rnti_number ∷ q_number ∷ slot_number ∷ cell_number ∷ []
