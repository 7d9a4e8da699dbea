-- Which N_IR a header may have.
use Rattle.std.specs.Prelude.{ℕ, Bool, true, ◌&&◌, nat_le, Some, None}
use Rattle.std.specs.declared.option.Option.{Option}

-- none, for a full buffer, or 1 to 1,000,000
abbrev pub is_limit : Option ℕ → Bool
is_limit None = true
is_limit (Some limit) = nat_le 1 limit && nat_le limit 1000000
