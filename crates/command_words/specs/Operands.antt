-- Operands, such as `g=132`: which are refused, and which numbers they give. A number says why: 3 unknown
-- name, 4 repeated name, 6 not spelt as a number, 7 out of range.
use Rattle.std.specs.Prelude.{ℕ, ◌+◌, List, [], ◌∷◌, ◌++◌, length, map, slice_index, Bool, ◌&&◌, ◌||◌, not, nat_lt, ◌==◌, if◌then◌else◌, Some, None, Ok, Err}
use Rattle.std.specs.Str.{bytes_eq}
use Rattle.std.specs.List.{before_first, after_first, list_any, list_all}
use Rattle.std.specs.declared.option.Option.{Option}
use Rattle.std.specs.declared.result.Result.{Result}
use Rattle.command_words.specs.Number.{is_spelt, worth}
use Rattle.command_words.specs.Rules.{name_text, most, in_range}
use Rattle.command_words.specs.declared.rules.Rule.{Rule}
use Rattle.command_words.specs.declared.rules.Form.{Form}
use Rattle.command_words.specs.declared.rules.Form.TheVariants.{Number}
use Rattle.command_words.specs.declared.operands.Operand.{Operand}
use Rattle.command_words.specs.declared.operands.WordRefusal.{WordRefusal}

-- ---- numbers

abbrev pub onto_first : ℕ → List (List ℕ) → List (List ℕ)
onto_first c [] = (c ∷ []) ∷ []
onto_first c (text ∷ texts) = (c ∷ text) ∷ texts

abbrev pub is_comma : ℕ → Bool
is_comma c = c == 44

-- the texts between commas
abbrev pub listed : List ℕ → List (List ℕ)
listed [] = [] ∷ []
listed (c ∷ text) = if is_comma c then [] ∷ listed text else onto_first c (listed text)

abbrev pub texts_in : Form → List ℕ → List (List ℕ)
texts_in Number text = text ∷ []
texts_in _ text = listed text

-- the numbers that a text spells, or 6, or 7; the spelling of all comes first
abbrev pub numbers_of : Rule → List ℕ → Result (List ℕ) ℕ
numbers_of rule text =
    let texts = texts_in rule.form text in
    let numbers = map (worth 0) texts in
    if not (list_all is_spelt texts) then Err 6
    else if nat_lt (most rule.form) (length numbers) || not (list_all (in_range rule.range) numbers)
    then Err 7
    else Ok numbers

-- ---- words

-- a word has a name where it has a `=`, and the name is what is before the first
abbrev pub is_equals : ℕ → Bool
is_equals c = c == 61

abbrev pub name_in : List ℕ → List ℕ
name_in word = before_first is_equals word

abbrev pub value_in : List ℕ → List ℕ
value_in word = after_first is_equals word

abbrev pub is_named : List ℕ → List ℕ → Bool
is_named name word = list_any is_equals word && bytes_eq (name_in word) name

-- the value of a word that has this name
abbrev pub value_under : List ℕ → List ℕ → Option (List ℕ)
value_under name word = if is_named name word then Some (value_in word) else None

abbrev pub rule_of : List Rule → (name : List ℕ) → Option Rule
rule_of [] name = None
rule_of (rule ∷ rules) name = if bytes_eq name (name_text rule.name) then Some rule else rule_of rules name

abbrev pub number_of_fault : Result (List ℕ) ℕ → Option ℕ
number_of_fault (Ok numbers) = None
number_of_fault (Err number) = Some number

-- after the words before it
abbrev pub fault_under : Option Rule → (before : List (List ℕ)) → (word : List ℕ) → Option ℕ
fault_under None before word = Some 3
fault_under (Some rule) before word =
    if list_any (is_named (name_in word)) before then Some 4
    else number_of_fault (numbers_of rule (value_in word))

abbrev pub fault_of : List Rule → (before : List (List ℕ)) → (word : List ℕ) → Option ℕ
fault_of rules before word =
    if list_any is_equals word then fault_under (rule_of rules (name_in word)) before word else Some 3

-- places count from the command, which is at 0
abbrev pub refused_or : (place : ℕ) → Option ℕ → Option WordRefusal → Option WordRefusal
refused_or place None later = later
refused_or place (Some number) later = Some (record { number = number; place = place })

-- the first word that is refused, of those after the words before
abbrev pub first_fault : List Rule → (before words : List (List ℕ)) → Option WordRefusal
first_fault rules before [] = None
first_fault rules before (word ∷ words) =
    refused_or (length before + 1) (fault_of rules before word)
    (first_fault rules (before ++ word ∷ []) words)

-- ---- what is given

abbrev pub accepted : (place : ℕ) → Result (List ℕ) ℕ → Option Operand
accepted place (Ok numbers) = Some (record { place = place; numbers = numbers })
accepted place (Err number) = None

-- none where there is no default
abbrev pub default_of : Option ℕ → Option Operand
default_of None = None
default_of (Some number) = Some (record { place = 0; numbers = number ∷ [] })

-- what the words from a place on give for a rule
abbrev pub given_from : (place : ℕ) → Rule → (words : List (List ℕ)) → Option Operand
given_from place rule [] = default_of rule.default
given_from place rule (word ∷ words) = if is_named (name_text rule.name) word
    then accepted place (numbers_of rule (value_in word))
    else given_from (place + 1) rule words

abbrev pub given : Rule → (words : List (List ℕ)) → Option Operand
given rule words = given_from 1 rule words

abbrev pub only : Operand → ℕ
only operand = slice_index operand.numbers 0

abbrev pub only_of : Option Operand → Option ℕ
only_of None = None
only_of (Some operand) = Some (only operand)

-- the one number that the words give for a rule
abbrev pub number_given : Rule → (words : List (List ℕ)) → Option ℕ
number_given rule words = only_of (given rule words)
