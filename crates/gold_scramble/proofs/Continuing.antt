-- A sequence that is continued by its recurrence.
use Rattle.std.proofs.Common.{◌≡◌, ℕ, zero, suc, ◌+◌, ◌-◌, ◌<◌, List, [], ◌∷◌, length, ap, sym, ◌∙◌, inl, inr, arith}
use Rattle.std.proofs.lemmas.Bool.{cases_lt}
use Rattle.std.proofs.lemmas.List.{get_or_append_left, get_or_push, length_push}
use Rattle.lte_bits.specs.declared.bit.Bit.{Bit}
use Rattle.lte_bits.specs.declared.bit.Bit.TheVariants.{Zero}
use Rattle.gold_scramble.specs.Places.{at}
use Rattle.gold_scramble.specs.Sequence.{Recurrence, continued, given, place}

pub length-continued : (next : Recurrence) (first : List Bit) (n : ℕ) → length (continued next first n) ≡ length first + n
unfolding continued
length-continued next first zero = omega arith
length-continued next first (suc n) =
    omega (arith, length_push (continued next first n) (given next (at (continued next first n)) n), length-continued next first n)

-- one more place leaves those before it
stays_once : (next : Recurrence) (first : List Bit) (n i : ℕ) → i < length first + n → at (continued next first (suc n)) i ≡ at (continued next first n) i
unfolding continued
stays_once next first n i h =
    get_or_append_left (continued next first n) (given next (at (continued next first n)) n ∷ []) Zero i (omega (arith, length-continued next first n))

stays : (next : Recurrence) (first : List Bit) (n i m : ℕ) → i < length first + n → at (continued next first (n + m)) i ≡ at (continued next first n) i
stays next first n i zero h = ap (λ (k : ℕ). at (continued next first k) i) (omega arith)
stays next first n i (suc m) h =
    ap (λ (k : ℕ). at (continued next first k) i) (let e : n + suc m ≡ suc (n + m) = omega arith in e)
    ∙ (stays_once next first (n + m) i (omega arith) ∙ stays next first n i m h)

-- the places of a continued sequence
pub place_at : (next : Recurrence) (first : List Bit) (n i : ℕ) → 0 < length first → i < length first + n → at (continued next first n) i ≡ place next first i
unfolding place
place_at next first n i some h =
    elim (cases_lt i n) [
      | inl below ↦
          ap (λ (k : ℕ). at (continued next first k) i) (let e : n ≡ i + (n - i) = omega arith in e)
          ∙ stays next first i i (n - i) (omega arith)
      | inr above ↦
          sym (ap (λ (k : ℕ). at (continued next first k) i) (let e : i ≡ n + (i - n) = omega arith in e)
          ∙ stays next first n i (i - n) h)
    ]

pub place_first : (next : Recurrence) (first : List Bit) (i : ℕ) → i < length first → place next first i ≡ at first i
unfolding continued
place_first next first i h = sym (place_at next first 0 i (omega arith) (omega arith))

-- the place that a step adds
added_place : (next : Recurrence) (first : List Bit) (n : ℕ) → length first ≡ 31 → at (continued next first (suc n)) (n + 31) ≡ given next (at (continued next first n)) n
unfolding continued
added_place next first n long =
    get_or_push (continued next first n) (given next (at (continued next first n)) n) Zero (n + 31) (omega (arith, length-continued next first n))

pub place_next : (next : Recurrence) (first : List Bit) (n : ℕ) → length first ≡ 31 → place next first (n + 31) ≡ given next (place next first) n
place_next next first n long =
    let here : at (continued next first (suc n)) (n + 31) ≡ place next first (n + 31) = place_at next first (suc n) (n + 31) (omega arith) (omega arith) in
    let a : at (continued next first n) n ≡ place next first n = place_at next first n n (omega arith) (omega arith) in
    let b : at (continued next first n) (n + 1) ≡ place next first (n + 1) = place_at next first n (n + 1) (omega arith) (omega arith) in
    let c : at (continued next first n) (n + 2) ≡ place next first (n + 2) = place_at next first n (n + 2) (omega arith) (omega arith) in
    let d : at (continued next first n) (n + 3) ≡ place next first (n + 3) = place_at next first n (n + 3) (omega arith) (omega arith) in
    sym here ∙ (added_place next first n long ∙ (let e : given next (at (continued next first n)) n ≡ given next (place next first) n = cc in e))

same_below : (next : Recurrence) (first : List Bit) (x : ℕ → Bit) → length first ≡ 31 → ((i : ℕ) → i < 31 → x i ≡ at first i)
    → ((n : ℕ) → x (n + 31) ≡ given next x n) → (bound n : ℕ) → n < bound → x n ≡ place next first n
same_below next first x long begins goes zero n h = absurd (omega arith)
same_below next first x long begins goes (suc bound) n h =
    elim (cases_lt n 31) [
      | inl early ↦ begins n early ∙ sym (place_first next first n (omega arith))
      | inr late ↦
          let m = n - 31 in
          let e : n ≡ m + 31 = omega arith in
          let a : x m ≡ place next first m = same_below next first x long begins goes bound m (omega arith) in
          let b : x (m + 1) ≡ place next first (m + 1) = same_below next first x long begins goes bound (m + 1) (omega arith) in
          let c : x (m + 2) ≡ place next first (m + 2) = same_below next first x long begins goes bound (m + 2) (omega arith) in
          let d : x (m + 3) ≡ place next first (m + 3) = same_below next first x long begins goes bound (m + 3) (omega arith) in
          let s : given next x m ≡ given next (place next first) m = cc in
          ap x e ∙ (goes m ∙ (s ∙ (sym (place_next next first m long) ∙ ap (place next first) (sym e))))
    ]

-- the sequence is the only one with its first places and its recurrence
pub place_only : (next : Recurrence) (first : List Bit) (x : ℕ → Bit) → length first ≡ 31 → ((i : ℕ) → i < 31 → x i ≡ at first i)
    → ((n : ℕ) → x (n + 31) ≡ given next x n) → (n : ℕ) → x n ≡ place next first n
place_only next first x long begins goes n = same_below next first x long begins goes (suc n) n (omega arith)
