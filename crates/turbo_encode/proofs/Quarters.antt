-- Places quarters of a block apart take their bits from places of a fixed distance.
use Rattle.std.proofs.Common.{◌≡◌, ℕ, ◌+◌, ◌*◌, ◌%◌, ◌/◌, true, Contains, refl, sym, ap, subst, ◌∙◌, arith}
use Rattle.std.specs.Prelude.{◌==◌}
use Rattle.std.specs.List.{list_all}
use Rattle.std.proofs.lemmas.Bool.{eqb-true}
use Rattle.std.proofs.lemmas.List.Sums.{AllPass-from_list_all}
use Rattle.std.proofs.Math.Nat.{add-mod, add-mul-mod_self_left}
use Rattle.model_sender.specs.Interleaver.{pi, place, row_of, sizes}
use Rattle.model_sender.specs.declared.rows.Row.{Row}
use Rattle.model_sender.specs.declared.rows.TheConstants.{ROWS}
use Rattle.model_sender.proofs.RowLaws.{row_found}
use Rattle.model_sender.proofs.SizeTable.{size-whole}

even : list_all (λ (r : Row). r.2 % 2 == 0) ROWS ≡ true
even = refl

f2-even : (k : ℕ) → Contains sizes k → (row_of k).2 % 2 ≡ 0
f2-even k size =
    let P : Row → Type 0 = λ r. (r.2 % 2 == 0) ≡ true in
    let inside = (row_found k size).inside in
    eqb-true ((row_of k).2 % 2) 0 (subst P inside.2 (AllPass-from_list_all (λ (r : Row). r.2 % 2 == 0) ROWS even inside.0 (row_of k) inside.1))

moved : (f1 h r m i : ℕ) → f1 * (2 * r * m + i) + 2 * h * (2 * r * m + i) * (2 * r * m + i) ≡ f1 * i + 2 * h * i * i + f1 * (2 * r * m) + 8 * r * (h * (m * i + r * m * m))
moved f1 h r m i = omega arith

pi-further : (f1 h r m i : ℕ) → pi (8 * r) f1 (2 * h) (2 * r * m + i) ≡ (pi (8 * r) f1 (2 * h) i + f1 * (2 * r * m) % (8 * r)) % (8 * r)
pi-further f1 h r m i =
    ap (λ n. n % (8 * r)) (moved f1 h r m i)
    ∙ add-mul-mod_self_left (f1 * i + 2 * h * i * i + f1 * (2 * r * m)) (8 * r) (h * (m * i + r * m * m))
    ∙ add-mod (f1 * i + 2 * h * i * i) (f1 * (2 * r * m)) (8 * r)

pub place_further : (k m i : ℕ) → Contains sizes k → place k (k / 4 * m + i) ≡ (place k i + (row_of k).1 * (k / 4 * m) % k) % k
place_further k m i size =
    let f1 : ℕ = (row_of k).1 in
    let f2 : ℕ = (row_of k).2 in
    let eights : 8 * (k / 8) ≡ k = omega (arith, size-whole k size) in
    let twos : 2 * (f2 / 2) ≡ f2 = omega (arith, f2-even k size) in
    let quarter : 2 * (k / 8) ≡ k / 4 = omega (arith, size-whole k size) in
    subst (λ (q : ℕ). pi k f1 f2 (q * m + i) ≡ (pi k f1 f2 i + f1 * (q * m) % k) % k) quarter
    (subst (λ (n : ℕ). pi n f1 f2 (2 * (k / 8) * m + i) ≡ (pi n f1 f2 i + f1 * (2 * (k / 8) * m) % n) % n) eights
    (subst (λ (g : ℕ). pi (8 * (k / 8)) f1 g (2 * (k / 8) * m + i) ≡ (pi (8 * (k / 8)) f1 g i + f1 * (2 * (k / 8) * m) % (8 * (k / 8))) % (8 * (k / 8))) twos
    (pi-further f1 (f2 / 2) (k / 8) m i)))

-- the same as it is computed
pub further-by : (k n f1 w m i : ℕ) → Contains sizes k → n ≡ k → f1 ≡ (row_of k).1 → w ≡ k / 4 * m → place n (w + i) ≡ (place n i + f1 * w % k) % n
further-by k n f1 w m i size long factor wide =
    subst (λ (l : ℕ). place l (w + i) ≡ (place l i + f1 * w % k) % l) (sym long)
    (subst (λ (g : ℕ). place k (w + i) ≡ (place k i + g * w % k) % k) (sym factor)
    (subst (λ (v : ℕ). place k (v + i) ≡ (place k i + (row_of k).1 * v % k) % k) (sym wide) (place_further k m i size)))
