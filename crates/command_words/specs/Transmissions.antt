-- The transmissions that the words of `encode` and `trial` ask for.
use Rattle.std.specs.Prelude.{ℕ, ◌*◌, List, length, map, slice_index, Bool, ◌&&◌, ◌||◌, not, ◌==◌, if◌then◌else◌, Some, None}
use Rattle.std.specs.List.{range_with_len}
use Rattle.std.specs.declared.option.Option.{Option}
use Rattle.rate_match.specs.Matching.{is_g}
use Rattle.rate_match.specs.declared.sends.Sending.{Sending}
use Rattle.coded_stream.specs.declared.version.Version.{Version}
use Rattle.coded_stream.specs.declared.version.Version.TheVariants.{One, Two}
use Rattle.command_words.specs.Given.{IsGiven}
use Rattle.command_words.specs.Tables.{tb_number, g_list, qm_list, rv_list, nl_list, nir_number}
use Rattle.command_words.specs.declared.operands.Operand.{Operand}
use Rattle.command_words.specs.declared.transmissions.Asked.{Asked}
use Rattle.command_words.specs.declared.transmissions.Lists.{Lists}

-- the number of transmission i, where one number stands for all
abbrev pub each : Operand → ℕ → ℕ
each operand i = if length operand.numbers == 1
    then slice_index operand.numbers 0
    else slice_index operand.numbers i

abbrev pub is_each : (count : ℕ) → Operand → Bool
is_each count operand = length operand.numbers == 1 || length operand.numbers == count

-- the first list that has neither one number nor as many as there are redundancy versions
abbrev pub uneven_list : (count : ℕ) → Lists → Option Operand
uneven_list count lists =
    if not (is_each count lists.g) then Some lists.g
    else if not (is_each count lists.qm) then Some lists.qm
    else if not (is_each count lists.nl) then Some lists.nl
    else None

abbrev pub place_of : Option Operand → Option ℕ
place_of None = None
place_of (Some operand) = Some operand.place

-- N_IR, where 0 is a full buffer
abbrev pub limit_asked : ℕ → Option ℕ
limit_asked nir = if nir == 0 then None else Some nir

abbrev pub limit_in : Asked → Option ℕ
limit_in a = limit_asked (slice_index a.nir.numbers 0)

-- transmission i
abbrev pub transmission_at : Asked → ℕ → Sending
transmission_at a i =
    record {
      m = record { qm = each a.lists.qm i; nl = each a.lists.nl i; g = each a.lists.g i; limit = limit_in a };
      rv = slice_index a.rv.numbers i;
    }

abbrev pub transmissions : Asked → List Sending
transmissions a = map (transmission_at a) (range_with_len 0 (length a.rv.numbers))

-- G is a multiple of N_L * Q_m
abbrev pub is_multiple : Sending → Bool
is_multiple s = is_g (s.m.nl * s.m.qm) s.m.g

-- version One where no list of G, Q_m or N_L has more than one number, whatever the numbers are
abbrev pub version_in : Lists → Version
version_in lists = if length lists.g.numbers == 1 && length lists.qm.numbers == 1
    && length lists.nl.numbers == 1
    then One
    else Two

-- what is known once each word was accepted
pub record AreListsGiven (lists : Lists) : Type 0 where
  pub g : IsGiven g_list lists.g.numbers
  pub qm : IsGiven qm_list lists.qm.numbers
  pub nl : IsGiven nl_list lists.nl.numbers

pub record AreGiven (a : Asked) : Type 0 where
  pub lists : AreListsGiven a.lists
  pub rv : IsGiven rv_list a.rv.numbers
  pub tb : IsGiven tb_number a.tb.numbers
  pub nir : IsGiven nir_number a.nir.numbers
