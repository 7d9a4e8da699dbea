-- What is known of the numbers that were given for a rule.
use Rattle.std.specs.Prelude.{◌≡◌, ℕ, ◌≤◌, List, length, true, Some}
use Rattle.std.specs.List.{list_all}
use Rattle.command_words.specs.Rules.{most, in_range}
use Rattle.command_words.specs.declared.rules.Rule.{Rule}

pub record IsGiven (rule : Rule) (numbers : List ℕ) : Type 0 where
  pub some : 1 ≤ length numbers
  pub few : length numbers ≤ most rule.form
  pub ranged : list_all (in_range rule.range) numbers ≡ true

-- the default is accepted
abbrev pub HasDefault : Rule → Type 0
HasDefault rule = (n : ℕ) → rule.default ≡ Some n → in_range rule.range n ≡ true
