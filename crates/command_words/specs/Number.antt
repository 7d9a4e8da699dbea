-- How a number is spelt in a word.
use Rattle.std.specs.Prelude.{ℕ, ◌+◌, ◌*◌, ◌-◌, List, [], ◌∷◌, length, slice_index, Bool, ◌&&◌, ◌||◌, not, nat_le, ◌==◌, if◌then◌else◌, Some, None}
use Rattle.std.specs.declared.option.Option.{Option}
use Rattle.std.specs.Char.{is_ascii_digit}
use Rattle.std.specs.List.{list_all}

-- what the digits are worth, after n
abbrev pub worth : ℕ → List ℕ → ℕ
worth n [] = n
worth n (digit ∷ digits) = worth (10 * n + (digit - 48)) digits

-- 1 to 20 digits, of which the first is 0 only where it is the only one
abbrev pub is_spelt : List ℕ → Bool
is_spelt text = nat_le 1 (length text) && nat_le (length text) 20 && list_all is_ascii_digit text
    && (length text == 1 || not (slice_index text 0 == 48))

abbrev pub number_of : List ℕ → Option ℕ
number_of text = if is_spelt text then Some (worth 0 text) else None
