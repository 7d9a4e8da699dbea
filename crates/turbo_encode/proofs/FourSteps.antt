-- Four steps of the coder by tables.
use Rattle.std.proofs.Common.{◌≡◌, ℕ, ◌<◌, Bool, true, ◌&&◌, List, [], ◌∷◌, ◌++◌, length, get_or, Contains, refl, sym, ap, subst, ◌∙◌, inl, inr, ◌%◌, arith}
use Rattle.std.specs.Prelude.{◌==◌}
use Rattle.std.proofs.lemmas.Bool.{and_parts, cases_lt, eqb-true}
use Rattle.std.proofs.lemmas.List.{map-append}
use Rattle.lte_bits.specs.Bits.{cell_of, number}
use Rattle.lte_bits.specs.declared.bit.Bit.{Bit}
use Rattle.lte_bits.specs.declared.bit.Bit.TheVariants.{Zero, One}
use Rattle.lte_bits.specs.declared.bit.Cell.{Cell}
use Rattle.model_sender.specs.ConstituentCoder.{State, next, parity, parities_from, zero_state, parities, state_number}
use Rattle.model_sender.specs.CodedStreams.{cells_of}
use Rattle.model_sender.specs.Interleaver.{sizes}
use Rattle.model_sender.proofs.BitNumbers.{digit-lt, same_number}
use Rattle.model_sender.specs.Tail.{reached}
use Rattle.turbo_encode.specs.Tables.{entry}
use Rattle.turbo_encode.specs.declared.fours.TheConstants.{PARITIES, NEXT, CELLS}

-- ---- what holds of both bits holds of all

abbrev all_bits : (Bit → Bool) → Bool
all_bits f = f Zero && f One

each-bit : (f : Bit → Bool) → all_bits f ≡ true → (b : Bit) → f b ≡ true
each-bit f h Zero = (and_parts (f Zero) (f One) h).0
each-bit f h One = (and_parts (f Zero) (f One) h).1

-- ---- the tables

abbrev state_of : Bit → Bit → Bit → State
state_of x y z = record { a1 = x; a2 = y; a3 = z }

abbrev four : Bit → Bit → Bit → Bit → List Bit
four a b c d = a ∷ b ∷ c ∷ d ∷ []

abbrev table_test : (State → List Bit → ℕ) → List (List ℕ) → Bit → Bit → Bit → Bit → Bit → Bit → Bit → Bool
table_test f table x y z a b c d = f (state_of x y z) (four a b c d) == entry table (number (four a b c d)) (state_number (state_of x y z))

abbrev next_number : State → List Bit → ℕ
next_number s bits = state_number (reached s bits)

abbrev parity_number : State → List Bit → ℕ
parity_number s bits = number (parities_from s bits)

-- what a table has for four inputs from a state, wherever a test of both passes at all bits
tested : (f : State → List Bit → ℕ) (table : List (List ℕ))
    → all_bits (λ x. all_bits (λ y. all_bits (λ z. all_bits (λ a. all_bits (λ b. all_bits (λ c. all_bits (λ d. table_test f table x y z a b c d))))))) ≡ true
    → (s : State) (bits : List Bit) (n i : ℕ) → length bits ≡ 4 → state_number s ≡ n → i ≡ number bits → f s bits ≡ entry table i n
tested f table passed s [] n i long at is = absurd (omega (arith, long))
tested f table passed s (a ∷ []) n i long at is = absurd (omega (arith, long))
tested f table passed s (a ∷ b ∷ []) n i long at is = absurd (omega (arith, long))
tested f table passed s (a ∷ b ∷ c ∷ []) n i long at is = absurd (omega (arith, long))
tested f table passed s (a ∷ b ∷ c ∷ d ∷ []) n i long at is =
    eqb-true (f s (four a b c d)) (entry table (number (four a b c d)) (state_number s))
    (each-bit (λ d. table_test f table s.a1 s.a2 s.a3 a b c d)
    (each-bit (λ c. all_bits (λ d. table_test f table s.a1 s.a2 s.a3 a b c d))
    (each-bit (λ b. all_bits (λ c. all_bits (λ d. table_test f table s.a1 s.a2 s.a3 a b c d)))
    (each-bit (λ a. all_bits (λ b. all_bits (λ c. all_bits (λ d. table_test f table s.a1 s.a2 s.a3 a b c d))))
    (each-bit (λ z. all_bits (λ a. all_bits (λ b. all_bits (λ c. all_bits (λ d. table_test f table s.a1 s.a2 z a b c d)))))
    (each-bit (λ y. all_bits (λ z. all_bits (λ a. all_bits (λ b. all_bits (λ c. all_bits (λ d. table_test f table s.a1 y z a b c d))))))
    (each-bit (λ x. all_bits (λ y. all_bits (λ z. all_bits (λ a. all_bits (λ b. all_bits (λ c. all_bits (λ d. table_test f table x y z a b c d))))))) passed s.a1) s.a2) s.a3) a) b) c) d)
    ∙ ap (entry table (number (four a b c d))) at ∙ ap (λ m. entry table m n) (sym is)
tested f table passed s (a ∷ b ∷ c ∷ d ∷ e ∷ rest) n i long at is = absurd (omega (arith, long))

-- the state after four inputs, and the number of their parity bits
pub next-entry : (s : State) (bits : List Bit) (n i : ℕ) → length bits ≡ 4 → state_number s ≡ n → i ≡ number bits → state_number (reached s bits) ≡ entry NEXT i n
next-entry = tested next_number NEXT refl

pub parity-entry : (s : State) (bits : List Bit) (n i : ℕ) → length bits ≡ 4 → state_number s ≡ n → i ≡ number bits → number (parities_from s bits) ≡ entry PARITIES i n
parity-entry = tested parity_number PARITIES refl

-- the cells of four bits
cells-four : (a b c d : Bit) → get_or CELLS (number (four a b c d)) [] ≡ cells_of (four a b c d)
cells-four Zero Zero Zero Zero = refl
cells-four Zero Zero Zero One = refl
cells-four Zero Zero One Zero = refl
cells-four Zero Zero One One = refl
cells-four Zero One Zero Zero = refl
cells-four Zero One Zero One = refl
cells-four Zero One One Zero = refl
cells-four Zero One One One = refl
cells-four One Zero Zero Zero = refl
cells-four One Zero Zero One = refl
cells-four One Zero One Zero = refl
cells-four One Zero One One = refl
cells-four One One Zero Zero = refl
cells-four One One Zero One = refl
cells-four One One One Zero = refl
cells-four One One One One = refl

pub cells-entry : (bits : List Bit) (n : ℕ) → length bits ≡ 4 → number bits ≡ n → get_or CELLS n [] ≡ cells_of bits
cells-entry [] n long is = absurd (omega (arith, long))
cells-entry (a ∷ []) n long is = absurd (omega (arith, long))
cells-entry (a ∷ b ∷ []) n long is = absurd (omega (arith, long))
cells-entry (a ∷ b ∷ c ∷ []) n long is = absurd (omega (arith, long))
cells-entry (a ∷ b ∷ c ∷ d ∷ []) n long is = ap (λ m. get_or CELLS m []) (sym is) ∙ cells-four a b c d
cells-entry (a ∷ b ∷ c ∷ d ∷ e ∷ rest) n long is = absurd (omega (arith, long))

-- ---- states and their numbers

pub numbered : (n : ℕ) → n < 8 → (s : State) × (state_number s ≡ n)
numbered n below = elim (cases_lt n 4) [
  | inl low ↦ elim (cases_lt n 2) [
    | inl lower ↦ elim (cases_lt n 1) [ inl h ↦ (state_of Zero Zero Zero, omega (arith, h)) | inr h ↦ (state_of Zero Zero One, omega (arith, h, lower)) ]
    | inr higher ↦ elim (cases_lt n 3) [ inl h ↦ (state_of Zero One Zero, omega (arith, h, higher)) | inr h ↦ (state_of Zero One One, omega (arith, h, low)) ]
  ]
  | inr high ↦ elim (cases_lt n 6) [
    | inl lower ↦ elim (cases_lt n 5) [ inl h ↦ (state_of One Zero Zero, omega (arith, h, high)) | inr h ↦ (state_of One Zero One, omega (arith, h, lower)) ]
    | inr higher ↦ elim (cases_lt n 7) [ inl h ↦ (state_of One One Zero, omega (arith, h, higher)) | inr h ↦ (state_of One One One, omega (arith, h, below)) ]
  ]
]

bits_of : State → List Bit
bits_of s = s.a1 ∷ s.a2 ∷ s.a3 ∷ []

state_with : List Bit → State
state_with bits = state_of (get_or bits 0 Zero) (get_or bits 1 Zero) (get_or bits 2 Zero)

pub same_state : (s t : State) → state_number s ≡ state_number t → s ≡ t
unfolding bits_of state_with
same_state s t e = ap state_with (same_number (bits_of s) (bits_of t) refl (omega (arith, e)))

pub state_number-small : (s : State) → state_number s < 8
state_number-small s = omega (arith, digit-lt s.a1, digit-lt s.a2, digit-lt s.a3)

-- ---- inputs after inputs

reached-append : (xs ys : List Bit) (s : State) → reached s (xs ++ ys) ≡ reached (reached s xs) ys
reached-append [] ys s = refl
reached-append (x ∷ xs) ys s = reached-append xs ys (next s x)

parities-append : (xs ys : List Bit) (s : State) → parities_from s (xs ++ ys) ≡ parities_from s xs ++ parities_from (reached s xs) ys
parities-append [] ys s = refl
parities-append (x ∷ xs) ys s = ap (λ zs. parity s x ∷ zs) (parities-append xs ys (next s x))

pub reached_more : (xs ys four : List Bit) (n : ℕ) → ys ≡ xs ++ four → state_number (reached (reached zero_state xs) four) ≡ n → state_number (reached zero_state ys) ≡ n
reached_more xs ys four n is at = ap (λ zs. state_number (reached zero_state zs)) is ∙ ap state_number (reached-append xs four zero_state) ∙ at

pub cells_more : (xs ys four : List Bit) (old new cells : List Cell) → ys ≡ xs ++ four → old ≡ cells_of (parities xs) → new ≡ old ++ cells
    → cells ≡ cells_of (parities_from (reached zero_state xs) four) → new ≡ cells_of (parities ys)
cells_more xs ys four old new cells is before push made =
    push
    ∙ ap (λ zs. zs ++ cells) before
    ∙ ap (λ zs. cells_of (parities xs) ++ zs) made
    ∙ sym (map-append cell_of (parities xs) (parities_from (reached zero_state xs) four))
    ∙ ap (λ (zs : List Bit). cells_of zs) (sym (parities-append xs four zero_state))
    ∙ ap (λ zs. cells_of (parities zs)) (sym is)
