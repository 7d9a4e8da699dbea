-- The points of a transmission: how many bits each has, and how many there are.
use Rattle.std.proofs.Common.{◌≡◌, ℕ, ◌*◌, ◌/◌, ◌%◌, ◌≤◌, List, true, ◌||◌, ◌==◌, length, inl, inr, ap, ◌∙◌, arith}
use Rattle.std.proofs.lemmas.Bool.{or_cases, eqb-true}
use Rattle.std.proofs.lemmas.Nat.Gcd.{dvd_trans, mod-eq-zero_of_dvd}
use Rattle.std.proofs.Math.Nat.{dvd-mul_left}
use Rattle.lte_bits.specs.declared.bit.Bit.{Bit}
use Rattle.model_sender.specs.CircularBuffer.{Match}
use Rattle.rate_match.specs.Matching.{IsMatch, is_qm}
use Rattle.rate_match.proofs.Matchings.{match-bounds}
use Rattle.qam_points.specs.Constellation.{IsModulationOrder, mapped}
use Rattle.qam_points.proofs.Receiving.{length-mapped}
use Rattle.qam_points.specs.declared.point.Point.{Point}

order : (qm : ℕ) → is_qm qm ≡ true → IsModulationOrder qm
order qm is =
    elim (or_cases (qm == 2 || qm == 4) (qm == 6) is) [
      | inl h ↦ elim (or_cases (qm == 2) (qm == 4) h) [
        | inl two ↦ inl (eqb-true qm 2 two)
        | inr four ↦ inr (inl (eqb-true qm 4 four))
      ]
      | inr six ↦ inr (inr (eqb-true qm 6 six))
    ]

-- they take all bits
pub none_over : (m : Match) → IsMatch m → m.g % m.qm ≡ 0
none_over m is = mod-eq-zero_of_dvd m.qm (dvd_trans m.qm (dvd-mul_left m.qm m.nl) (match-bounds m is).divides)

halved : (g qm : ℕ) → IsModulationOrder qm → g ≤ 1000000 → 2 * (g / qm) ≤ 1000000
halved g qm one few = elim one [
  | inl two ↦ (let e : g / qm ≡ g / 2 = ap (λ (q : ℕ). g / q) two in omega (arith, e))
  | inr more ↦ elim more [
    | inl four ↦ (let e : g / qm ≡ g / 4 = ap (λ (q : ℕ). g / q) four in omega (arith, e))
    | inr six ↦ (let e : g / qm ≡ g / 6 = ap (λ (q : ℕ). g / q) six in omega (arith, e))
  ]
]

-- there is a term for each coordinate
pub terms_needed : (m : Match) (bits : List Bit) (points : List Point) → length bits ≡ m.g → points ≡ mapped m.qm bits → 2 * length points ≡ 2 * (m.g / m.qm)
terms_needed m bits points long is =
    ap (λ (n : ℕ). 2 * n) (ap length is ∙ (length-mapped m.qm bits ∙ ap (λ (n : ℕ). n / m.qm) long))

-- which are few enough
pub few_terms : (m : Match) → IsMatch m → 2 * (m.g / m.qm) ≤ 1000000
few_terms m is = halved m.g m.qm (order m.qm is.qm) (match-bounds m is).few
