-- How the numbers of an operand are spelt, and which are accepted.
use Rattle.std.specs.Prelude.{ℕ, ◌%◌, List, Bool, ◌&&◌, nat_le, ◌==◌, codes}
use Rattle.command_words.specs.declared.rules.Name.{Name}
use Rattle.command_words.specs.declared.rules.Name.TheVariants.{Tb, G, Qm, Rv, Nl, Nir, Windows, Limit, Workers, Pipes, Amp, Noise, Seed, Blocks, Rnti, Q, Slot, Cell}
use Rattle.command_words.specs.declared.rules.Form.{Form}
use Rattle.command_words.specs.declared.rules.Form.TheVariants.{Number, ListOfOne, ForTransmissions}
use Rattle.command_words.specs.declared.rules.Range.{Range}
use Rattle.command_words.specs.declared.rules.Range.TheVariants.{Between, Even}
use Rattle.command_words.specs.declared.rules.Rule.{Rule}

abbrev pub name_text : Name → List ℕ
name_text Tb = codes "tb"
name_text G = codes "g"
name_text Qm = codes "qm"
name_text Rv = codes "rv"
name_text Nl = codes "nl"
name_text Nir = codes "nir"
name_text Windows = codes "windows"
name_text Limit = codes "limit"
name_text Workers = codes "workers"
name_text Pipes = codes "pipes"
name_text Amp = codes "amp"
name_text Noise = codes "noise"
name_text Seed = codes "seed"
name_text Blocks = codes "blocks"
name_text Rnti = codes "rnti"
name_text Q = codes "q"
name_text Slot = codes "slot"
name_text Cell = codes "cell"

-- the most numbers of an operand
abbrev pub most : Form → ℕ
most Number = 1
most ListOfOne = 1
most ForTransmissions = 8

abbrev pub in_range : Range → ℕ → Bool
in_range (Between least greatest) n = nat_le least n && nat_le n greatest
in_range (Even least greatest) n = nat_le least n && nat_le n greatest && n % 2 == 0

-- the same rule for numbers in another form
abbrev pub in_form : Form → Rule → Rule
in_form form rule = record rule { form = form }
