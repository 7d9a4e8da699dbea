-- Which answer there is to what is left of the input of `encode`, and how far a round may read.
use Rattle.std.proofs.Common.{◌≡◌, ℕ, zero, suc, inl, inr, ◌+◌, ◌*◌, ◌<◌, ◌≤◌, List, [], ◌∷◌, ◌++◌, length, take, drop, refl, ap, sym, subst, ◌∙◌, arith}
use Rattle.std.proofs.lemmas.Bool.{cases_lt}
use Rattle.std.proofs.lemmas.Grind.{common_steps}
use Rattle.std.proofs.Math.Seq.{take-append_seam}
use Rattle.std.proofs.lemmas.List.{length-append}
use Rattle.coded_stream.specs.Header.{Header}
use Rattle.run_loop.specs.Answer.{Answer, preceded_by, refusal}
use Rattle.run_loop.specs.Due.{IsDue, IsWithin}
use Rattle.run_loop.proofs.Within.{within_next}
use Rattle.command_encode.specs.Encode.{block_part, blocks_answer, end_answer}

-- ---- which answer there is

pub data Kind (h : Header) (more count : ℕ) (input : List ℕ) : Type 0 where
  Nothing : length input ≡ 0 → blocks_answer h more count input ≡ end_answer count 1 → Kind h more count input
  Over : more ≡ 0 → 0 < length input → blocks_answer h more count input ≡ refusal 8 (4096 * h.tb) 1 1 → Kind h more count input
  Short : 0 < length input → length input < h.tb → 0 < more →
      blocks_answer h more count input ≡ preceded_by (block_part h input (length input + 1) ∷ []) (end_answer (count + 1) 0) → Kind h more count input
  Whole : h.tb ≤ length input → (k : ℕ) → more ≡ suc k →
      blocks_answer h more count input ≡ preceded_by (block_part h (take h.tb input) h.tb ∷ []) (blocks_answer h k (count + 1) (drop h.tb input)) → Kind h more count input

pub kinds : (h : Header) (more count : ℕ) (input : List ℕ) → Kind h more count input
unfolding blocks_answer
kinds h zero count input = elim (cases_lt 0 (length input)) [
  | inl some ↦ Over refl some (grind (arith, common_steps, some))
  | inr none ↦ (let zero_long : length input ≡ 0 = omega (arith, none) in Nothing zero_long (grind (arith, common_steps, zero_long)))
]
kinds h (suc more) count input = elim (cases_lt 0 (length input)) [
  | inl some ↦ elim (cases_lt (length input) h.tb) [
    | inl few ↦ Short some few (omega arith) (grind (arith, common_steps, some, few))
    | inr all ↦ Whole all more refl (grind (arith, common_steps, some, all))
  ]
  | inr none ↦ (let zero_long : length input ≡ 0 = omega (arith, none) in Nothing zero_long (grind (arith, common_steps, zero_long)))
]

drop_first : (xs ys : List ℕ) → drop (length xs) (xs ++ ys) ≡ ys
drop_first [] ys = refl
drop_first (x ∷ xs) ys = drop_first xs ys

pub whole_answer : (h : Header) (k count : ℕ) (bytes rest : List ℕ) → 0 < h.tb → length bytes ≡ h.tb →
    blocks_answer h (suc k) count (bytes ++ rest) ≡ preceded_by (block_part h bytes (length bytes) ∷ []) (blocks_answer h k (count + 1) rest)
whole_answer h k count bytes rest some all =
    let long = length-append bytes rest in
    elim (kinds h (suc k) count (bytes ++ rest)) [
      | Nothing zero_long is ↦ absurd (omega (arith, zero_long, long, some, all))
      | Over none left is ↦ absurd (omega (arith, none))
      | Short left short more_come is ↦ absurd (omega (arith, short, long, all))
      | Whole enough j next is ↦ (
          let same : j ≡ k = omega (arith, next) in
          is
          ∙ ap (λ n. preceded_by (block_part h (take n (bytes ++ rest)) n ∷ []) (blocks_answer h j (count + 1) (drop n (bytes ++ rest)))) (sym all)
          ∙ ap (λ (xs : List ℕ). preceded_by (block_part h xs (length bytes) ∷ []) (blocks_answer h j (count + 1) (drop (length bytes) (bytes ++ rest)))) (take-append_seam bytes rest)
          ∙ ap (λ (xs : List ℕ). preceded_by (block_part h bytes (length bytes) ∷ []) (blocks_answer h j (count + 1) xs)) (drop_first bytes rest)
          ∙ ap (λ i. preceded_by (block_part h bytes (length bytes) ∷ []) (blocks_answer h i (count + 1) rest)) same
          )
    ]

-- ---- how far a round may read

-- one block is read before it is written
pub one_ahead : (h : Header) (more count : ℕ) (input : List ℕ) → (blocks_answer h more count input).ahead ≡ 1
one_ahead h zero count input = elim (kinds h zero count input) [
  | Nothing zero_long is ↦ ap (λ (a : Answer). a.ahead) is
  | Over none some is ↦ ap (λ (a : Answer). a.ahead) is
  | Short some short more_come is ↦ ap (λ (a : Answer). a.ahead) is
  | Whole all k next is ↦ absurd (omega (arith, next))
]
one_ahead h (suc more) count input = elim (kinds h (suc more) count input) [
  | Nothing zero_long is ↦ ap (λ (a : Answer). a.ahead) is
  | Over none some is ↦ ap (λ (a : Answer). a.ahead) is
  | Short some short more_come is ↦ ap (λ (a : Answer). a.ahead) is
  | Whole all k next is ↦ (
      let same : k ≡ more = omega (arith, next) in
      ap (λ (a : Answer). a.ahead) is ∙ ap (λ (j : ℕ). (blocks_answer h j (count + 1) (drop h.tb input)).ahead) same ∙ one_ahead h more (count + 1) (drop h.tb input)
      )
]

pub due : (h : Header) (more count n : ℕ) (input : List ℕ) → n < h.tb → (more ≡ 0 → n ≡ 0) → n ≤ length input →
    IsDue (blocks_answer h more count input).due (blocks_answer h more count input).parts n
due h more count n input few none within =
    let P : Answer → Type 0 = λ a. IsDue a.due a.parts n in
    elim (kinds h more count input) [
      | Nothing zero_long is ↦ subst P (sym is) (omega (arith, zero_long, within))
      | Over no_more some is ↦ subst P (sym is) (omega (arith, none no_more))
      | Short some short more_come is ↦ subst P (sym is) (omega (arith, within))
      | Whole all k next is ↦ subst P (sym is) (omega (arith, few))
    ]

pub none_read : (h : Header) (more count : ℕ) (input : List ℕ) → IsWithin (blocks_answer h more count input) 0
none_read h more count input =
    let P : Answer → Type 0 = λ a. a.parts ≡ [] → 0 < a.due in
    within_next (blocks_answer h more count input) 0 (one_ahead h more count input) (omega arith) (elim (kinds h more count input) [
      | Nothing zero_long is ↦ subst P (sym is) (λ _. omega arith)
      | Over no_more some is ↦ subst P (sym is) (λ _. omega arith)
      | Short some short more_come is ↦ subst P (sym is) (λ none. cc)
      | Whole all k next is ↦ subst P (sym is) (λ none. cc)
    ])

-- all that is left was read, and it is no whole block
pub last_read : (h : Header) (more count : ℕ) (payload : List ℕ) → length payload < h.tb → (more ≡ 0 → length payload ≡ 0) →
    IsWithin (blocks_answer h more count payload) (length payload)
last_read h more count payload few none =
    let P : Answer → Type 0 = λ a. IsWithin a (length payload) in
    elim (kinds h more count payload) [
      | Nothing zero_long is ↦ subst P (sym is) (omega (arith, zero_long), λ _. omega arith)
      | Over no_more some is ↦ absurd (omega (arith, some, none no_more))
      | Short some short more_come is ↦ subst P (sym is) (omega arith, λ no. cc)
      | Whole all k next is ↦ absurd (omega (arith, all, few))
    ]
