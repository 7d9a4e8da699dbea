-- What the sequence of a transmission begins with (36.211 6.3.1; for q = 0 also 5.3.1).
use Rattle.std.specs.Prelude.{ℕ, ◌+◌, ◌*◌, ◌/◌, ◌^◌, ◌≤◌}

-- c_init: of the terminal's identity, the codeword, the slot and the cell
abbrev pub c_init : (rnti q slot cell : ℕ) → ℕ
c_init rnti q slot cell = rnti * 2 ^ 14 + q * 2 ^ 13 + slot / 2 * 2 ^ 9 + cell

-- the numbers that a transmission can have
abbrev pub IsTransmission : (q slot cell : ℕ) → Type 0
IsTransmission q slot cell = (q ≤ 1) × (slot ≤ 19) × (cell ≤ 503)
