-- What a caller tells of transmissions, and what is sent.
use Rattle.std.specs.Prelude.{ℕ, ◌==◌, if◌then◌else◌, None, Some, List, flat_map, map}
use Rattle.std.specs.declared.option.Option.{Option}
use Rattle.lte_bits.specs.Packing.{packed}
use Rattle.model_sender.specs.Codeword.{codeword}
use Rattle.rate_match.specs.declared.sends.Sending.{Sending}
use Rattle.gomzelat_c.specs.declared.transmission.Transmission.{Transmission}

-- N_IR, where 0 stands for a full buffer
abbrev pub limit_in : ℕ → Option ℕ
limit_in n_ir = if n_ir == 0 then None else Some n_ir

-- a transmission with this soft buffer
abbrev pub transmission_of : Option ℕ → Transmission → Sending
transmission_of limit t = record {
  m = record { qm = t.qm; nl = t.nl; g = t.g; limit = limit };
  rv = t.rv;
}

abbrev pub transmissions_of : Option ℕ → List Transmission → List Sending
transmissions_of limit ts = map (transmission_of limit) ts

-- the codeword of a payload as bytes
abbrev pub codeword_bytes : List ℕ → Transmission → (n_ir : ℕ) → List ℕ
codeword_bytes payload t n_ir = let s = transmission_of (limit_in n_ir) t in packed (codeword payload s.m s.rv)

-- the codewords of transmissions, one after the other, each beginning at a byte
abbrev pub codewords_bytes : List ℕ → List Transmission → (n_ir : ℕ) → List ℕ
codewords_bytes payload ts n_ir = flat_map (λ t. codeword_bytes payload t n_ir) ts
