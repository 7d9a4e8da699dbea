-- The table's rows, and the row of a size.
use Rattle.std.proofs.Common.{◌≡◌, ℕ, ◌*◌, ◌%◌, ◌^◌, ◌<◌, ◌≤◌, Bool, true, false, ◌&&◌, cond, eqb, leb, ltb, ◌==◌, All, Contains, List, [], ◌∷◌, map, length, Some, unwrap_or, find, suc, subst, refl, arith, Option, None, ap}
use Rattle.std.specs.List.{AllByRecursion}
use Rattle.std.proofs.lemmas.Bool.{eqb-true, eqb-false, leb-true, ltb-true, and_parts}
use Rattle.std.proofs.lemmas.List.Elements.{All-from_recursion, All-contains}
use Rattle.std.proofs.lemmas.Map.Made.{Contains-tail}
use Rattle.model_sender.specs.Interleaver.{Lawful, sizes, row_of}
use Rattle.model_sender.specs.Rows.{IsRow}
use Rattle.model_sender.specs.declared.rows.Row.{Row}
use Rattle.model_sender.specs.declared.rows.TheConstants.{ROWS}

-- the inverse of each first factor modulo its size
abbrev inverses : List ℕ
inverses = 27 ∷ 7 ∷ 3 ∷ 55 ∷ 31 ∷ 51 ∷ 53 ∷ 35 ∷ 15 ∷ 41 ∷ 7 ∷ 111 ∷ 121 ∷ 17 ∷ 17 ∷ 61 ∷ 5 ∷ 109 ∷ 113 ∷ 167 ∷ 77 ∷ 131 ∷ 59 ∷ 83 ∷ 101 ∷ 149 ∷ 233 ∷ 239
    ∷ 233 ∷ 33 ∷ 87 ∷ 91 ∷ 187 ∷ 189 ∷ 115 ∷ 61 ∷ 125 ∷ 187 ∷ 41 ∷ 285 ∷ 157 ∷ 209 ∷ 117 ∷ 167 ∷ 171 ∷ 151 ∷ 179 ∷ 233 ∷ 291 ∷ 239 ∷ 411 ∷ 309 ∷ 173 ∷ 263
    ∷ 293 ∷ 329 ∷ 59 ∷ 357 ∷ 55 ∷ 479 ∷ 497 ∷ 171 ∷ 523 ∷ 257 ∷ 187 ∷ 493 ∷ 137 ∷ 279 ∷ 617 ∷ 547 ∷ 557 ∷ 595 ∷ 319 ∷ 323 ∷ 327 ∷ 361 ∷ 345 ∷ 753 ∷ 559
    ∷ 233 ∷ 479 ∷ 305 ∷ 713 ∷ 871 ∷ 629 ∷ 495 ∷ 411 ∷ 629 ∷ 579 ∷ 641 ∷ 55 ∷ 991 ∷ 497 ∷ 579 ∷ 1003 ∷ 395 ∷ 187 ∷ 343 ∷ 1051 ∷ 759 ∷ 125 ∷ 1051 ∷ 1245
    ∷ 131 ∷ 29 ∷ 229 ∷ 1105 ∷ 887 ∷ 965 ∷ 753 ∷ 457 ∷ 391 ∷ 1511 ∷ 1279 ∷ 1043 ∷ 309 ∷ 629 ∷ 521 ∷ 965 ∷ 991 ∷ 1555 ∷ 1673 ∷ 785 ∷ 991 ∷ 497 ∷ 1667
    ∷ 1329 ∷ 1621 ∷ 271 ∷ 569 ∷ 1117 ∷ 919 ∷ 1555 ∷ 127 ∷ 943 ∷ 131 ∷ 1589 ∷ 1701 ∷ 2165 ∷ 719 ∷ 965 ∷ 2191 ∷ 2483 ∷ 3067 ∷ 3259 ∷ 1387 ∷ 2753
    ∷ 3081 ∷ 1993 ∷ 2671 ∷ 443 ∷ 1891 ∷ 1667 ∷ 455 ∷ 127 ∷ 3039 ∷ 2017 ∷ 2947 ∷ 2209 ∷ 885 ∷ 3659 ∷ 4057 ∷ 3373 ∷ 1969 ∷ 1389 ∷ 2935 ∷ 2231
    ∷ 1709 ∷ 3159 ∷ 511 ∷ 1815 ∷ 919 ∷ 3679 ∷ 2833 ∷ 2073 ∷ 2099 ∷ 5187 ∷ 2621 ∷ 259 ∷ 4005 ∷ 2405 ∷ 3041 ∷ 4777 ∷ 875 ∷ 4559 ∷ 1831 ∷ 1423 ∷ 5303 ∷ []

abbrev row_test : Row → ℕ → Bool
row_test r v = (leb 40 r.0 && leb r.0 6144) && (ltb r.1 1024 && ltb r.2 1024) && (eqb (r.1 * v % r.0) (1 % r.0) && eqb (r.2 ^ 7 % r.0) 0)

abbrev table_test : List Row → List ℕ → Bool
table_test [] vs = true
table_test (r ∷ rs) [] = false
table_test (r ∷ rs) (v ∷ vs) = row_test r v && table_test rs vs

passed : table_test ROWS inverses ≡ true
passed = refl

row_kept : (r : Row) (v : ℕ) → row_test r v ≡ true → IsRow r
row_kept r v h =
    let p = and_parts ((leb 40 r.0 && leb r.0 6144) && (ltb r.1 1024 && ltb r.2 1024)) (eqb (r.1 * v % r.0) (1 % r.0) && eqb (r.2 ^ 7 % r.0) 0) h in
    let q = and_parts (eqb (r.1 * v % r.0) (1 % r.0)) (eqb (r.2 ^ 7 % r.0) 0) p.1 in
    let s = and_parts (leb 40 r.0 && leb r.0 6144) (ltb r.1 1024 && ltb r.2 1024) p.0 in
    let t = and_parts (leb 40 r.0) (leb r.0 6144) s.0 in
    let u = and_parts (ltb r.1 1024) (ltb r.2 1024) s.1 in
    let least : 40 ≤ r.0 = leb-true 40 r.0 t.0 in
    record {
      lawful = record { positive = omega (arith, least); unit = (v, eqb-true (r.1 * v % r.0) (1 % r.0) q.0); nilpotent = eqb-true (r.2 ^ 7 % r.0) 0 q.1 };
      least = least;
      greatest = leb-true r.0 6144 t.1;
      first = ltb-true r.1 1024 u.0;
      second = ltb-true r.2 1024 u.1;
    }

rows_kept : (rs : List Row) (vs : List ℕ) → table_test rs vs ≡ true → AllByRecursion IsRow rs
rows_kept [] vs h = tt
rows_kept (r ∷ rs) [] h = (cc)
rows_kept (r ∷ rs) (v ∷ vs) h = let p = and_parts (row_test r v) (table_test rs vs) h in (row_kept r v p.0, rows_kept rs vs p.1)

pub all_rows : All IsRow ROWS
all_rows = All-from_recursion IsRow ROWS (rows_kept ROWS inverses passed)

-- the row of a size, in a table and in its rest
abbrev looked_up : List Row → ℕ → Row → Row
looked_up rows k d = unwrap_or (find (λ r. r.0 == k) rows) d

pub record IsFound (rows : List Row) (k : ℕ) (r : Row) : Type 0 where
  pub inside : Contains rows r
  pub size : r.0 ≡ k

found : (rows : List Row) (k : ℕ) (d : Row) → Contains (map (λ r. r.0) rows) k → IsFound rows k (looked_up rows k d)
found [] k d h = absurd (let lt : h.0 < 0 = h.1 in omega (arith, lt))
found (r ∷ rs) k d h = by_test (found rs k d) (r.0 == k) refl
  where
    by_test : (Contains (map (λ r. r.0) rs) k → IsFound rs k (looked_up rs k d)) → (b : Bool) → (r.0 == k) ≡ b
        → IsFound (r ∷ rs) k (unwrap_or (cond b (Some r) (find (λ r. r.0 == k) rs)) d)
    by_test later true e = record { inside = (0, omega arith, refl); size = eqb-true r.0 k e }
    by_test later false e =
        let rest = later (Contains-tail r.0 (map (λ r. r.0) rs) k (eqb-false r.0 k e) h) in
        let place = rest.inside in
        record { inside = (suc place.0, (let lt : place.0 < length rs = place.1 in omega (arith, lt)), place.2); size = rest.size }

pub row_found : (k : ℕ) → Contains sizes k → IsFound ROWS k (row_of k)
unfolding sizes row_of
row_found k h = found ROWS k _ h

-- what the table's look-up says of a size
find_inside : (rows : List Row) (k : ℕ) (row : Row) → find (λ r. r.0 == k) rows ≡ Some row → Contains (map (λ r. r.0) rows) k
find_inside [] k row e = absurd (cc)
find_inside (r ∷ rs) k row e = by_test (find_inside rs k row) (r.0 == k) refl e
  where
    by_test : (find (λ r. r.0 == k) rs ≡ Some row → Contains (map (λ r. r.0) rs) k) → (b : Bool) → (r.0 == k) ≡ b
        → cond b (Some r) (find (λ r. r.0 == k) rs) ≡ Some row → Contains (map (λ r. r.0) (r ∷ rs)) k
    by_test later true t e = (0, omega arith, eqb-true r.0 k t)
    by_test later false t e =
        let place = later e in
        (suc place.0, (let lt : place.0 < length (map (λ (r : Row). r.0) rs) = place.1 in omega (arith, lt)), place.2)

find_none : (rows : List Row) (k : ℕ) → find (λ r. r.0 == k) rows ≡ None → Contains (map (λ r. r.0) rows) k → ⊥
find_none [] k e h = let lt : h.0 < 0 = h.1 in omega (arith, lt)
find_none (r ∷ rs) k e h = by_test (find_none rs k) (r.0 == k) refl e
  where
    by_test : (find (λ r. r.0 == k) rs ≡ None → Contains (map (λ r. r.0) rs) k → ⊥) → (b : Bool) → (r.0 == k) ≡ b
        → cond b (Some r) (find (λ r. r.0 == k) rs) ≡ None → ⊥
    by_test later true t e = (cc)
    by_test later false t e = later e (Contains-tail r.0 (map (λ r. r.0) rs) k (eqb-false r.0 k t) h)

pub size-of_find : (k : ℕ) (row : Row) → find (λ r. r.0 == k) ROWS ≡ Some row → Contains sizes k
unfolding sizes
size-of_find k row e = find_inside ROWS k row e

pub row-of_find : (k : ℕ) (row : Row) → find (λ r. r.0 == k) ROWS ≡ Some row → row_of k ≡ row
unfolding row_of
row-of_find k row e = ap (λ (o : Option Row). unwrap_or o (record { 0 = k; 1 = 0; 2 = 0 })) e

pub no_size-of_find : (k : ℕ) → find (λ r. r.0 == k) ROWS ≡ None → Contains sizes k → ⊥
unfolding sizes
no_size-of_find k e h = find_none ROWS k e h

pub row-of_size : (k : ℕ) → Contains sizes k → IsRow (row_of k)
row-of_size k h = All-contains IsRow ROWS (row_of k) all_rows (row_found k h).inside

pub lawful-of_size : (k : ℕ) → Contains sizes k → Lawful k (row_of k).1 (row_of k).2
lawful-of_size k h = subst (λ (n : ℕ). Lawful n (row_of k).1 (row_of k).2) (row_found k h).size (row-of_size k h).lawful

pub range-of_size : (k : ℕ) → Contains sizes k → (40 ≤ k) × (k ≤ 6144)
range-of_size k h = subst (λ (n : ℕ). (40 ≤ n) × (n ≤ 6144)) (row_found k h).size ((row-of_size k h).least, (row-of_size k h).greatest)

pub row-of_40 : row_of 40 ≡ record { 0 = 40; 1 = 3; 2 = 10 }
unfolding row_of
row-of_40 = refl
