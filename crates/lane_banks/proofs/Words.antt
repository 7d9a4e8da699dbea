-- Rows of eight numbers of 16 bits, as words and as bytes.
use Rattle.std.proofs.Common.{Bool, false, cond, replicate, ℤ, pos, negsuc, map, subst, ◌≡◌, ℕ, ◌+◌, ◌*◌, ◌/◌, ◌%◌, ◌<◌, ◌≤◌, List, [], ◌∷◌, length, get_or, sym, ap, ◌∙◌, refl, arith, zero, suc}
use Rattle.std.specs.Int.{w16, cast_unsigned, cast_signed}
use Rattle.std.specs.Simd.Lanes.{Each1, digits_l, number_l, chunk, put_chunk, zip2, sel_l, top}
use Rattle.std.proofs.lemmas.Int.{ints}
use Rattle.std.specs.Prelude.{nat_lt, if◌then◌else◌}
use Rattle.std.proofs.lemmas.List.{length-map, get_or-map, length-replicate, get_or-replicate}
use Rattle.std.specs.Int.Bits.{bit_and}
use Rattle.std.proofs.lemmas.Nat.{mod_below, and_mask}
use Rattle.std.proofs.lemmas.Simd.{get_or_wider, get_or_narrower, length-chunk, Each1-get_or, Each1-from_get_or, swz_l, get_or-swz_l_below, get_or-put_chunk_at, get_or-chunk, length-zip2, get_or-zip2, length-sel_l, get_or-sel_l, tops_compared, length-swz_l, SwzOk, SwzOk-from_below}
use Rattle.lte_bits.specs.Softs.{IsWithin}

digits-below : (n x : ℕ) → Each1 (λ d. d < 256) (digits_l 256 n x)
digits-below zero x = tt
digits-below (suc n) x = (mod_below x 256 (omega arith), digits-below n (x / 256))

length-digits : (n x : ℕ) → length (digits_l 256 n x) ≡ n
length-digits zero x = refl
length-digits (suc n) x = let r = length-digits n (x / 256) in omega (arith, r)

two-digits : (ys : List ℕ) → length ys ≡ 2 → number_l 256 ys ≡ get_or ys 0 0 + 256 * get_or ys 1 0
two-digits [] e = absurd (omega (arith, e))
two-digits (x ∷ []) e = absurd (omega (arith, e))
two-digits (x ∷ (y ∷ [])) e = omega arith
two-digits (x ∷ (y ∷ (z ∷ zs))) e = absurd (omega (arith, e))

two-bytes : (x : ℕ) → x < 65536 → x % 256 + 256 * (x / 256 % 256) ≡ x
two-bytes x lt = omega (arith, lt)

pub words-same : (n m : ℕ) (xs : List ℕ) (t : ℕ) → m ≡ 2 * n → length xs ≡ n → Each1 (λ x. x < 65536) xs → t < n
    → get_or (digits_l 65536 n (number_l 256 (digits_l 256 m (number_l 65536 xs)))) t 0 ≡ get_or xs t 0
words-same n m xs t em en below lt =
    let bytes : List ℕ = digits_l 256 m (number_l 65536 xs) in
    let room : 2 * t + 2 ≤ length bytes = omega (arith, length-digits m (number_l 65536 xs), em, lt) in
    let pair : List ℕ = chunk (2 * t) 2 bytes in
    let x : ℕ = get_or xs t 0 in
    let one : x / 1 ≡ x = omega arith in
    let low : get_or pair 0 0 ≡ x % 256 =
    get_or-chunk (2 * t) 2 bytes 0 0 (omega arith)
    ∙ (get_or_narrower 65536 2 256 m xs t 0 refl below (omega arith) (omega (arith, em, lt)) ∙ ap (λ (z : ℕ). z % 256) one) in
    let high : get_or pair 1 0 ≡ x / 256 % 256 =
    get_or-chunk (2 * t) 2 bytes 1 0 (omega arith)
    ∙ get_or_narrower 65536 2 256 m xs t 1 refl below (omega arith) (omega (arith, em, lt)) in
    get_or_wider 256 2 65536 n bytes t refl (digits-below m (number_l 65536 xs)) lt
    ∙ (two-digits pair (length-chunk (2 * t) 2 bytes room)
    ∙ (ap (λ (z : ℕ). z + 256 * get_or pair 1 0) low
    ∙ (ap (λ (z : ℕ). x % 256 + 256 * z) high ∙ two-bytes x (Each1-get_or (λ x. x < 65536) xs t 0 (omega (arith, en, lt)) below))))

-- a lane of a row of eight
front-at : {X : Type 0} (xs : List X) (k : ℕ) (d : X) → k < 8 → get_or (chunk 0 8 xs) k d ≡ get_or xs k d
front-at xs k d lt = let e : 0 + k ≡ k = omega arith in get_or-chunk 0 8 xs k d lt ∙ ap (λ (i : ℕ). get_or xs i d) e

-- a number within 32767 as a word
pub word-below : (z : ℤ) → IsWithin 32767 z → cast_unsigned w16 z < 65536
word-below (pos k) h = omega (arith, ints, h)
word-below (negsuc k) h = omega arith

pub words-of : (row : List ℤ) → 8 ≤ length row → ((t : ℕ) → t < 8 → IsWithin 32767 (get_or row t (pos 0))) → (t : ℕ) → t < 8
    → get_or (digits_l 65536 8 (number_l 256 (digits_l 256 16 (number_l 65536 (map (cast_unsigned w16) (chunk 0 8 row)))))) t 0 ≡ cast_unsigned w16 (get_or row t (pos 0))
words-of row long within t lt =
    let front : List ℤ = chunk 0 8 row in
    let lf : length front ≡ 8 = length-chunk 0 8 row (omega (arith, long)) in
    let xs : List ℕ = map (cast_unsigned w16) front in
    let lx : length xs ≡ 8 = length-map front (cast_unsigned w16) ∙ lf in
    let each : (k : ℕ) → k < 8 → get_or xs k 0 ≡ cast_unsigned w16 (get_or row k (pos 0)) =
    λ k lk. get_or-map (cast_unsigned w16) front k (pos 0) 0 (omega (arith, lf, lk)) ∙ ap (cast_unsigned w16) (front-at row k (pos 0) lk) in
    words-same 8 16 xs t refl lx (Each1-from_get_or (λ x. x < 65536) xs 0 (λ k lk. let l8 : k < 8 = omega (arith, lx, lk) in
    subst (λ (x : ℕ). x < 65536) (sym (each k l8)) (word-below (get_or row k (pos 0)) (within k l8)))) lt
    ∙ each t lt

-- lanes modulo 8
module _ (lanes : List ℕ) (long : length lanes ≡ 8) where
  abbrev pub residues : List ℕ
  residues = zip2 bit_and lanes (replicate 8 7)

  pub length-residues : length residues ≡ 8
  length-residues = length-zip2 bit_and lanes (replicate 8 7) (long ∙ sym (length-replicate {A = ℕ} 8 7)) ∙ long

  pub residue-at : (t : ℕ) → t < 8 → get_or residues t 0 ≡ get_or lanes t 0 % 8
  residue-at t lt =
      get_or-zip2 bit_and lanes (replicate 8 7) t 0 0 0 (omega (arith, long, lt)) (omega (arith, length-replicate {A = ℕ} 8 7, lt))
      ∙ (ap (bit_and (get_or lanes t 0)) (get_or-replicate 8 t 7 0 lt) ∙ and_mask (get_or lanes t 0) 3)

  pub residues-ok : SwzOk w16 8 8 0 residues
  residues-ok = SwzOk-from_below w16 8 1 8 0 residues refl (omega (arith, length-residues))
      (Each1-from_get_or (λ x. x < 8) residues 0 (λ t lt. let h : t < 8 = omega (arith, lt, length-residues) in omega (arith, residue-at t h)))

  -- a word of another lane
  pub moved-at : (words : List ℕ) (t : ℕ) → t < 8 → get_or (swz_l w16 8 words 0 residues) t 0 ≡ get_or words (get_or lanes t 0 % 8) 0
  moved-at words t lt =
      let first : t / 8 ≡ 0 = omega (arith, lt) in
      let same : get_or residues t 0 ≡ get_or lanes t 0 % 8 = residue-at t lt in
      let below : get_or residues t 0 < 8 = omega (arith, same) in
      let place : 8 * ((0 + t) / 8) + get_or residues t 0 ≡ get_or lanes t 0 % 8 = omega (arith, first, same) in
      get_or-swz_l_below w16 8 words 0 residues t (omega (arith, length-residues, lt)) below ∙ ap (λ (k : ℕ). get_or words k 0) place

  pub length-moved : (words : List ℕ) → length (swz_l w16 8 words 0 residues) ≡ 8
  length-moved words = length-swz_l w16 8 words 0 residues ∙ length-residues

-- a word of one of two vectors, as a lane is below a number or not
module _ (lanes before later : List ℕ) (first : ℕ) (ll : length lanes ≡ 8) (lb : length before ≡ 8) (la : length later ≡ 8) where
  abbrev pub bounds : List ℕ
  bounds = replicate 8 first

  abbrev pub below : List Bool
  below = zip2 nat_lt lanes bounds

  length-below : length below ≡ 8
  length-below = length-zip2 nat_lt lanes bounds (ll ∙ sym (length-replicate 8 first)) ∙ ll

  pub length-chosen : length (sel_l (map (top 15) (zip2 (λ a b. cond (nat_lt a b) 65535 0) lanes bounds)) before later) ≡ 8
  length-chosen = ap (λ (ms : List Bool). length (sel_l ms before later)) (tops_compared w16 nat_lt lanes bounds)
      ∙ (length-sel_l below before later (length-below ∙ sym lb) (length-below ∙ sym la) ∙ length-below)

  pub chosen-at : (t : ℕ) → t < 8 → get_or (sel_l (map (top 15) (zip2 (λ a b. cond (nat_lt a b) 65535 0) lanes bounds)) before later) t 0
      ≡ if nat_lt (get_or lanes t 0) first then get_or before t 0 else get_or later t 0
  chosen-at t lt =
      ap (λ (ms : List Bool). get_or (sel_l ms before later) t 0) (tops_compared w16 nat_lt lanes bounds)
      ∙ (get_or-sel_l below before later t 0 (omega (arith, length-below, lt)) (omega (arith, lb, lt)) (omega (arith, la, lt))
      ∙ ap (λ (b : Bool). if b then get_or before t 0 else get_or later t 0)
      (get_or-zip2 nat_lt lanes bounds t 0 0 false (omega (arith, ll, lt)) (omega (arith, length-replicate 8 first, lt))
      ∙ ap (nat_lt (get_or lanes t 0)) (get_or-replicate 8 t first 0 lt)))

-- words put into a row
pub put-words : (words : List ℕ) (row : List ℤ) → length words ≡ 8 → 8 ≤ length row → ((t : ℕ) → t < 8 → get_or words t 0 < 65536) → (t : ℕ) → t < 8
    → get_or (put_chunk 0 row (map (cast_signed w16) (digits_l 65536 8 (number_l 256 (digits_l 256 16 (number_l 65536 words)))))) t (pos 0) ≡ cast_signed w16 (get_or words t 0)
put-words words row lw lr below t lt =
    let ds : List ℕ = digits_l 65536 8 (number_l 256 (digits_l 256 16 (number_l 65536 words))) in
    let ld : length ds ≡ 8 = refl in
    let ys : List ℤ = map (cast_signed w16) ds in
    let ly : length ys ≡ 8 = length-map ds (cast_signed w16) ∙ ld in
    let e : 0 + t ≡ t = omega arith in
    ap (λ (i : ℕ). get_or (put_chunk 0 row ys) i (pos 0)) (sym e)
    ∙ (get_or-put_chunk_at 0 row ys t (pos 0) (omega (arith, ly, lt)) (omega (arith, ly, lr))
    ∙ (get_or-map (cast_signed w16) ds t 0 (pos 0) (omega (arith, ld, lt))
    ∙ ap (cast_signed w16) (words-same 8 16 words t refl lw (Each1-from_get_or (λ x. x < 65536) words 0 (λ k lk. below k (omega (arith, lk, lw)))) lt)))
