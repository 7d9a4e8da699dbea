-- The tail after a list is that of the state to which the list leads.
use Rattle.std.proofs.Common.{◌≡◌, ℕ, suc, ◌+◌, List, [], ◌∷◌, length, refl, ap, ◌∙◌, arith}
use Rattle.lte_bits.specs.declared.bit.Bit.{Bit}
use Rattle.model_sender.specs.Bits.{at}
use Rattle.model_sender.specs.ConstituentCoder.{State, zero_state, past, next, values, values_from, tail_x, tail_z}
use Rattle.model_sender.specs.Tail.{reached, tail_input, tail_parity}

-- after the values of c, a goes on as from the state after c
pub after : (s : State) (c : List Bit) (k : ℕ) → at (past s (values_from s c)) (length c + k) ≡ at (past (reached s c) []) k
after s [] k = ap (λ n. at (past s []) n) (let e : 0 + k ≡ k = omega arith in e)
after s (u ∷ us) k =
    ap (λ n. at (past s (values_from s (u ∷ us))) n) (let e : length (u ∷ us) + k ≡ suc (length us + k) = omega arith in e)
    ∙ after (next s u) us k

after-1 : (c : List Bit) (k : ℕ) → at (past zero_state (values c)) (suc (length c + k)) ≡ at (past (reached zero_state c) []) (suc k)
after-1 c k = ap (λ n. at (past zero_state (values c)) n) (let e : suc (length c + k) ≡ length c + suc k = omega arith in e) ∙ after zero_state c (suc k)

after-2 : (c : List Bit) (k : ℕ) → at (past zero_state (values c)) (suc (suc (length c + k))) ≡ at (past (reached zero_state c) []) (suc (suc k))
after-2 c k = ap (λ n. at (past zero_state (values c)) n) (let e : suc (suc (length c + k)) ≡ length c + suc (suc k) = omega arith in e) ∙ after zero_state c (suc (suc k))

pub tail_x-after : (c : List Bit) (k : ℕ) → tail_x (values c) (length c + k) ≡ tail_input (reached zero_state c) k
tail_x-after c k = rw (after-1 c k, after zero_state c k) refl

pub tail_z-after : (c : List Bit) (k : ℕ) → tail_z (values c) (length c + k) ≡ tail_parity (reached zero_state c) k
tail_z-after c k = rw (after-2 c k, after zero_state c k) refl
