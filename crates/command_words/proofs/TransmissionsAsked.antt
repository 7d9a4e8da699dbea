-- Transmissions, one after the other.
use Rattle.std.proofs.Common.{◌≡◌, ℕ, zero, suc, ◌+◌, ◌<◌, ◌≤◌, Bool, true, false, ◌&&◌, if◌then◌else◌, List, [], ◌∷◌, ◌++◌, length, map, Some, None, refl, ap, sym, ◌∙◌, arith}
use Rattle.std.specs.List.{list_all, range_with_len}
use Rattle.std.proofs.lemmas.List.FromFn.{map-range_with_len_more, length-map-range_with_len}
use Rattle.rate_match.specs.Sendings.{common}
use Rattle.rate_match.specs.declared.sends.Sending.{Sending}
use Rattle.command_words.specs.Transmissions.{transmission_at, transmissions, is_multiple, limit_in}
use Rattle.command_words.specs.declared.transmissions.Asked.{Asked}

pub chosen : (b : Bool) (x y : Sending) → Some y ≡ (if b then Some x else None) → (b ≡ true) × (y ≡ x)
chosen true x y is = (refl, cc)
chosen false x y is = cc

pub unchosen : (b : Bool) (x : Sending) → None ≡ (if b then Some x else None) → b ≡ false
unchosen true x is = cc
unchosen false x is = refl

second_off : (b : Bool) → (b && false) ≡ false
second_off true = refl
second_off false = refl

off_at : (p : Sending → Bool) (f : ℕ → Sending) (start n i : ℕ) → i < n → p (f (start + i)) ≡ false → list_all p (map f (range_with_len start n)) ≡ false
off_at p f start zero i within off = absurd (omega (arith, within))
off_at p f start (suc n) zero within off =
    let first : p (f start) ≡ false = ap (λ k. p (f k)) (omega arith) ∙ off in
    ap (λ b. b && list_all p (map f (range_with_len (start + 1) n))) first
off_at p f start (suc n) (suc i) within off =
    let next : p (f (start + 1 + i)) ≡ false = ap (λ k. p (f k)) (omega arith) ∙ off in
    ap (λ b. p (f start) && b) (off_at p f (start + 1) n i (omega (arith, within)) next) ∙ second_off (p (f start))

-- one isn't a multiple
pub not_all : (a : Asked) (i : ℕ) → i < length a.rv.numbers → is_multiple (transmission_at a i) ≡ false → list_all is_multiple (transmissions a) ≡ false
not_all a i within off = off_at is_multiple (transmission_at a) 0 (length a.rv.numbers) i within (ap (λ k. is_multiple (transmission_at a k)) (omega arith) ∙ off)

all_more : (p : Sending → Bool) (xs : List Sending) (x : Sending) → list_all p xs ≡ true → p x ≡ true → list_all p (xs ++ x ∷ []) ≡ true
all_more p [] x all on = ap (λ b. b && true) on
all_more p (y ∷ xs) x all on = both (p y) (list_all p xs) (list_all p (xs ++ x ∷ [])) all (λ rest. all_more p xs x rest on)
  where
    both : (a b c : Bool) → (a && b) ≡ true → (b ≡ true → c ≡ true) → (a && c) ≡ true
    both true b c is more = more is
    both false b c is more = cc

pub before_more : (a : Asked) (i : ℕ) (sends : List Sending) → sends ≡ map (transmission_at a) (range_with_len 0 i) →
    sends ++ transmission_at a i ∷ [] ≡ map (transmission_at a) (range_with_len 0 (i + 1))
before_more a i sends is = ap (λ (xs : List Sending). xs ++ transmission_at a i ∷ []) is ∙ sym (map-range_with_len_more (transmission_at a) 0 i i (omega arith))

pub all_before_more : (a : Asked) (i : ℕ) → list_all is_multiple (map (transmission_at a) (range_with_len 0 i)) ≡ true → is_multiple (transmission_at a i) ≡ true →
    list_all is_multiple (map (transmission_at a) (range_with_len 0 (i + 1))) ≡ true
all_before_more a i all on =
    ap (list_all is_multiple) (map-range_with_len_more (transmission_at a) 0 i i (omega arith))
    ∙ all_more is_multiple (map (transmission_at a) (range_with_len 0 i)) (transmission_at a i) all on

-- all have one soft buffer
pub same_limit : (a : Asked) (i : ℕ) (sends : List Sending) → 1 ≤ i → sends ≡ map (transmission_at a) (range_with_len 0 i) → limit_in a ≡ (common sends).limit
same_limit a zero sends some is = absurd (omega (arith, some))
same_limit a (suc i) sends some is = ap (λ (xs : List Sending). (common xs).limit) (sym is)

pub as_many : (a : Asked) (i : ℕ) (sends : List Sending) → sends ≡ map (transmission_at a) (range_with_len 0 i) → length sends ≡ i
as_many a i sends is = ap length is ∙ length-map-range_with_len (transmission_at a) 0 i
