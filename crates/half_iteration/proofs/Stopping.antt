-- The first iteration whose check holds.
use Rattle.std.proofs.Common.{◌≡◌, ℕ, suc, ◌+◌, ◌-◌, ◌*◌, ◌<◌, ◌≤◌, Bool, true, false, List, refl, sym, ap, ◌∙◌, arith, inl, inr}
use Rattle.std.specs.Prelude.{◌↔◌, IsTrue}
use Rattle.std.proofs.lemmas.Bool.{cases_eq}
use Rattle.lte_bits.specs.declared.bit.Bit.{Bit}
use Rattle.lte_bits.specs.declared.block.SoftStreams.{SoftStreams}
use Rattle.model_sender.specs.CheckBits.{IsMultiple, IsMonic, remainder}
use Rattle.model_sender.proofs.CheckBitLaws.{crc24a-monic, crc24b-monic, multiple-remainder}
use Rattle.model_receiver.specs.declared.result.CheckKind.{CheckKind}
use Rattle.model_receiver.specs.declared.result.CheckKind.TheVariants.{A, B}
use Rattle.model_receiver.specs.declared.result.CodeResult.{CodeResult}
use Rattle.model_receiver.specs.HalfIteration.{Shape, Before, after, opening}
use Rattle.model_receiver.specs.Decoding.{before, decided_bits, decided_in, generator, check_holds, code_result}
use Rattle.model_receiver.proofs.DecodedOnce.{checks-true, checks-false, decoded-is, decoded_once}
use Rattle.half_iteration.proofs.Orders.{equal, not-equal}

generator-monic : (kind : CheckKind) → IsMonic (generator kind)
generator-monic A = crc24a-monic
generator-monic B = crc24b-monic

-- the check's answer is that of the definition
pub check-is : (b : Bool) (kind : CheckKind) (bits : List Bit) → IsTrue b ↔ IsMultiple (generator kind) bits → check_holds kind bits ≡ b
check-is true kind bits h =
    let m = multiple-remainder (generator kind) bits (generator-monic kind) in
    equal (remainder (generator kind) 0 bits) 0 (m.0 (h.0 refl))
check-is false kind bits h =
    let m = multiple-remainder (generator kind) bits (generator-monic kind) in
    not-equal (remainder (generator kind) 0 bits) 0 (λ e. let t : false ≡ true = h.1 (m.1 e) in absurd (cc))

-- ---- what the halves start from

pub before-none : (soft : SoftStreams) (shape : Shape) → before soft shape 0 ≡ opening shape
unfolding before
before-none soft shape = refl

before-suc : (soft : SoftStreams) (shape : Shape) (h : ℕ) → before soft shape (suc h) ≡ after soft shape h (before soft shape h)
unfolding before
before-suc soft shape h = refl

pub before-more : (soft : SoftStreams) (shape : Shape) (h next : ℕ) → next ≡ suc h → before soft shape next ≡ after soft shape h (before soft shape h)
before-more soft shape h next e = ap (before soft shape) e ∙ before-suc soft shape h

-- iteration n goes from half 2(n - 1) to half 2n
pub iteration-more : (soft : SoftStreams) (shape : Shape) (n : ℕ) (b : Before) → 1 ≤ n → b ≡ before soft shape (2 * (n - 1))
    → after soft shape (2 * n - 1) (after soft shape (2 * n - 2) b) ≡ before soft shape (suc (2 * n - 1))
iteration-more soft shape n b some e =
    let first : before soft shape (2 * n - 1) ≡ after soft shape (2 * n - 2) (before soft shape (2 * n - 2)) = before-more soft shape (2 * n - 2) (2 * n - 1) (omega arith) in
    let from : b ≡ before soft shape (2 * n - 2) = e ∙ ap (before soft shape) (let s : 2 * (n - 1) ≡ 2 * n - 2 = omega arith in s) in
    ap (λ x. after soft shape (2 * n - 1) (after soft shape (2 * n - 2) x)) from
    ∙ (ap (after soft shape (2 * n - 1)) (sym first) ∙ sym (before-suc soft shape (2 * n - 1)))

pub before-iteration : (soft : SoftStreams) (shape : Shape) (n : ℕ) → 1 ≤ n → before soft shape (suc (2 * n - 1)) ≡ before soft shape (2 * (n + 1 - 1))
before-iteration soft shape n some = ap (before soft shape) (let s : suc (2 * n - 1) ≡ 2 * (n + 1 - 1) = omega arith in s)

-- what an iteration leaves, where the decoder's own block and shape are those of the call
pub left-by_iteration : (own soft : SoftStreams) (numbers shape : Shape) (n : ℕ) (b r : Before) → own ≡ soft → numbers ≡ shape → 1 ≤ n
    → b ≡ before soft shape (2 * (n - 1)) → r ≡ after own numbers (2 * n - 1) (after own numbers (2 * n - 2) b) → r ≡ before soft shape (suc (2 * n - 1))
left-by_iteration own soft numbers shape n b r es en some eb er =
    er ∙ (ap (λ x. after x numbers (2 * n - 1) (after x numbers (2 * n - 2) b)) es
    ∙ (ap (λ x. after soft x (2 * n - 1) (after soft x (2 * n - 2) b)) en ∙ iteration-more soft shape n b some eb))

pub decided-by_iteration : (soft : SoftStreams) (numbers shape : Shape) (n : ℕ) (r : Before) (bits : List Bit) → numbers ≡ shape
    → r ≡ before soft shape (suc (2 * n - 1)) → bits ≡ decided_bits numbers.f r.cells → bits ≡ decided_in soft shape n
decided-by_iteration soft numbers shape n r bits en er eb =
    eb ∙ (ap (λ (x : Shape). decided_bits x.f r.cells) en ∙ ap (λ (x : Before). decided_bits shape.f x.cells) er)

-- ---- the result

-- no iteration before n has a check that holds
abbrev pub FailBefore : SoftStreams → Shape → ℕ → Type 0
FailBefore soft shape n = (m : ℕ) → 1 ≤ m → m < n → check_holds shape.kind (decided_in soft shape m) ≡ false

-- nor before the next one, where that of n fails
pub fail-more : (soft : SoftStreams) (shape : Shape) (n : ℕ) → FailBefore soft shape n → check_holds shape.kind (decided_in soft shape n) ≡ false → FailBefore soft shape (n + 1)
fail-more soft shape n before here m some lt =
    elim (cases_eq m n) [
      | inl e ↦ ap (λ (k : ℕ). check_holds shape.kind (decided_in soft shape k)) e ∙ here
      | inr ne ↦ before m some (omega (arith, ne))
    ]

abbrev pub result_with : ℕ → List Bit → ℕ → Bool → CodeResult
result_with fill bits n passed = record { block = record { fill = fill; bits = bits }; iterations = n; passed = passed }

pub decode-passed : (soft : SoftStreams) (shape : Shape) (fill n : ℕ) (bits : List Bit) → fill ≡ shape.f → 1 ≤ n → n ≤ shape.limit
    → bits ≡ decided_in soft shape n → check_holds shape.kind bits ≡ true → FailBefore soft shape n
    → result_with fill bits n true ≡ code_result soft shape
decode-passed soft shape fill n bits ef some few eb passed fails =
    decoded_once soft shape (result_with fill bits n true) (code_result soft shape)
    (record {
      fill = ef;
      bits = eb;
      from_one = some;
      to_limit = few;
      passed = (λ _. checks-true shape.kind bits passed, λ _. refl);
      first = λ m least lt. checks-false shape.kind (decided_in soft shape m) (fails m least lt);
      last = λ e. let f : true ≡ false = e in absurd (cc);
    })
    (decoded-is soft shape (omega arith))

pub decode-failed : (soft : SoftStreams) (shape : Shape) (fill n : ℕ) (bits : List Bit) → fill ≡ shape.f → 1 ≤ n → n ≡ shape.limit
    → bits ≡ decided_in soft shape n → FailBefore soft shape (n + 1)
    → result_with fill bits n false ≡ code_result soft shape
decode-failed soft shape fill n bits ef some en eb fails =
    let failed : check_holds shape.kind bits ≡ false = ap (check_holds shape.kind) eb ∙ fails n some (omega arith) in
    decoded_once soft shape (result_with fill bits n false) (code_result soft shape)
    (record {
      fill = ef;
      bits = eb;
      from_one = some;
      to_limit = omega arith;
      passed = (λ e. let f : false ≡ true = e in absurd (cc), λ m. absurd (checks-false shape.kind bits failed m));
      first = λ m least lt. checks-false shape.kind (decided_in soft shape m) (fails m least (omega arith));
      last = λ _. en;
    })
    (decoded-is soft shape (omega arith))
