-- Tables of remainders, by which bits are divided a byte or two at once.
use Rattle.std.specs.Prelude.{ℕ, suc, ◌*◌, ◌^◌, Bool, ◌&&◌, ◌==◌, List, [], ◌∷◌, replicate}
use Rattle.lte_bits.specs.declared.bit.Bit.TheVariants.{Zero}
use Rattle.model_sender.specs.CheckBits.{remainder}

-- t D^(16 + n), modulo g
abbrev pub top_remainder : ℕ → ℕ → ℕ → ℕ
top_remainder g n t = remainder g (t * 2 ^ 16) (replicate n Zero)

-- the entries are those from t to 255
abbrev pub is_table_from : ℕ → ℕ → ℕ → List ℕ → Bool
is_table_from g n t [] = t == 256
is_table_from g n t (r ∷ rs) = r == top_remainder g n t && is_table_from g n (suc t) rs

abbrev pub is_table : ℕ → ℕ → List ℕ → Bool
is_table g n rs = is_table_from g n 0 rs
