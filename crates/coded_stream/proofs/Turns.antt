-- The transmissions of a block in turn.
use Rattle.std.proofs.Common.{◌≡◌, ℕ, zero, suc, ◌+◌, ◌≤◌, List, [], ◌∷◌, ◌++◌, length, take, drop, map, slice_get, Some, refl, ap, sym, subst, add-one, arith}
use Rattle.std.proofs.lemmas.List.Sums.{sum_by-cons}
use Rattle.rate_match.specs.declared.sends.Sending.{Sending}
use Rattle.coded_stream.specs.Blocks.{block_size, transmission_size}
use Rattle.coded_stream.specs.declared.kind.Kind.{Kind}

-- at this turn the transmission of g bits comes, after those before it
pub record IsNext (kind : Kind) (gs : List ℕ) (turn next g : ℕ) : Type 0 where
  pub rest : drop turn gs ≡ g ∷ drop next gs
  pub front : take next gs ≡ take turn gs ++ g ∷ []
  pub size : block_size kind (take next gs) ≡ block_size kind (take turn gs) + transmission_size kind g
  pub within : block_size kind (take turn gs) + transmission_size kind g ≤ block_size kind gs

abbrev pub IsTurn : Kind → List ℕ → ℕ → ℕ → Type 0
IsTurn kind gs turn g = IsNext kind gs turn (turn + 1) g

next-is : (kind : Kind) (gs : List ℕ) (turn g : ℕ) → slice_get gs turn ≡ Some g → IsNext kind gs turn (suc turn) g
next-is kind [] turn g is = absurd (let no : ⊥ = cc in no)
next-is kind (x ∷ xs) zero g is =
    let same : x ≡ g = cc in
    let P : ℕ → Type 0 = λ y. IsNext kind (x ∷ xs) 0 1 y in
    let all : block_size kind (x ∷ xs) ≡ transmission_size kind x + block_size kind xs = sum_by-cons (transmission_size kind) x xs in
    subst P same (record { rest = refl; front = refl; size = omega arith; within = omega (arith, all) })
next-is kind (x ∷ xs) (suc turn) g is =
    let n = next-is kind xs turn g is in
    let all : block_size kind (x ∷ xs) ≡ transmission_size kind x + block_size kind xs = sum_by-cons (transmission_size kind) x xs in
    let before : block_size kind (take (suc turn) (x ∷ xs)) ≡ transmission_size kind x + block_size kind (take turn xs) = sum_by-cons (transmission_size kind) x (take turn xs) in
    let now : block_size kind (take (suc (suc turn)) (x ∷ xs)) ≡ transmission_size kind x + block_size kind (take (suc turn) xs) = sum_by-cons (transmission_size kind) x (take (suc turn) xs) in
    record {
      rest = n.rest;
      front = ap (λ (ys : List ℕ). x ∷ ys) n.front;
      size = (let e = n.size in omega (arith, e, before, now));
      within = (let e = n.within in omega (arith, e, before, all));
    }

pub turn-is : (kind : Kind) (gs : List ℕ) (turn g : ℕ) → slice_get gs turn ≡ Some g → IsTurn kind gs turn g
turn-is kind gs turn g is = subst (λ (n : ℕ). IsNext kind gs turn n g) (sym (add-one turn)) (next-is kind gs turn g is)

-- G of each transmission
pub lengths-long : (sends : List Sending) → length (map (λ s. s.m.g) sends) ≡ length sends
lengths-long [] = refl
lengths-long (s ∷ ss) = ap suc (lengths-long ss)

pub length_of : (sends : List Sending) (turn : ℕ) (s : Sending) → slice_get sends turn ≡ Some s → slice_get (map (λ s. s.m.g) sends) turn ≡ Some s.m.g
length_of [] turn s is = absurd (let no : ⊥ = cc in no)
length_of (x ∷ xs) zero s is = let same : x ≡ s = cc in ap (λ (y : Sending). Some y.m.g) same
length_of (x ∷ xs) (suc turn) s is = length_of xs turn s is
