-- The blocks that the words of `encode` and `trial` ask for. 7 says that a list of G, Q_m or N_L hasn't as many
-- numbers as there are redundancy versions, or one, and that some G is no multiple of N_L * Q_m; 8 says that the
-- soft buffer is too small.
use Rattle.std.specs.Prelude.{List, ℕ, length, not, if◌then◌else◌, Some, None, Ok}
use Rattle.std.specs.List.{list_all}
use Rattle.std.specs.declared.option.Option.{Option}
use Rattle.std.specs.declared.result.Result.{Result}
use Rattle.rate_match.specs.Fitting.{fits_all}
use Rattle.command_words.specs.Operands.{given, only}
use Rattle.command_words.specs.Refusals.{refused, refused_at}
use Rattle.command_words.specs.Rules.{in_form}
use Rattle.command_words.specs.Tables.{g_number, qm_number, nl_number, rv_list, tb_number, nir_number}
use Rattle.command_words.specs.Transmissions.{place_of, uneven_list, transmissions, is_multiple, limit_in, version_in}
use Rattle.command_words.specs.declared.blocks.CodedBlocks.{CodedBlocks}
use Rattle.command_words.specs.declared.operands.Operand.{Operand}
use Rattle.command_words.specs.declared.operands.WordRefusal.{WordRefusal}
use Rattle.command_words.specs.declared.rules.Form.{Form}
use Rattle.command_words.specs.declared.transmissions.Asked.{Asked}
use Rattle.command_words.specs.declared.transmissions.Lists.{Lists}

-- ---- the operands

abbrev pub lists_found : (g qm nl : Option Operand) → Option Lists
lists_found (Some g) (Some qm) (Some nl) = Some (record { g = g; qm = qm; nl = nl })
lists_found _ _ _ = None

-- G, Q_m and N_L in one form
abbrev pub lists_of : Form → (operands : List (List ℕ)) → Option Lists
lists_of form operands = lists_found (given (in_form form g_number) operands)
    (given (in_form form qm_number) operands) (given (in_form form nl_number) operands)

abbrev pub asked_found : Option Lists → (rv tb nir : Option Operand) → Option Asked
asked_found (Some lists) (Some rv) (Some tb) (Some nir) =
    Some (record { lists = lists; rv = rv; tb = tb; nir = nir })
asked_found _ _ _ _ = None

abbrev pub asked_of : Form → (operands : List (List ℕ)) → Option Asked
asked_of form operands = asked_found (lists_of form operands)
    (given rv_list operands) (given tb_number operands) (given nir_number operands)

-- ---- the blocks

abbrev pub blocks_given : Asked → Result CodedBlocks WordRefusal
blocks_given a = refused_at (place_of (uneven_list (length a.rv.numbers) a.lists))
    (if not (list_all is_multiple (transmissions a)) then refused 7 a.lists.g.place
    else if not (fits_all (limit_in a) (only a.tb)) then refused 8 a.nir.place
    else Ok (record { version = version_in a.lists; tb = only a.tb; sends = transmissions a }))
