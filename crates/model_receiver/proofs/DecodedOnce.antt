-- The decoding as a function is the one result of its relation.
use Rattle.std.proofs.Common.{◌≡◌, ℕ, ◌<◌, ◌≤◌, Bool, true, false, List, refl, sym, ap, ◌∙◌, subst, inl, inr, arith}
use Rattle.std.proofs.lemmas.Bool.{eqb-true, eqb-false, cases_lt}
use Rattle.lte_bits.specs.declared.bit.Bit.{Bit}
use Rattle.lte_bits.specs.declared.block.SoftStreams.{SoftStreams}
use Rattle.model_sender.specs.CheckBits.{IsMonic, IsMultiple, remainder}
use Rattle.model_sender.proofs.CheckBitLaws.{crc24a-monic, crc24b-monic, multiple-remainder}
use Rattle.model_receiver.specs.declared.result.CheckKind.{CheckKind}
use Rattle.model_receiver.specs.declared.result.CheckKind.TheVariants.{A, B}
use Rattle.model_receiver.specs.declared.result.CodeResult.{CodeResult}
use Rattle.model_receiver.specs.HalfIteration.{Shape}
use Rattle.model_receiver.specs.Decoding.{decided_in, generator, IsDecoded, check_holds, passing_iteration, result_in, result_of, code_result}
use Rattle.model_receiver.proofs.FirstOfRange.{first}

generator-monic : (kind : CheckKind) → IsMonic (generator kind)
generator-monic A = crc24a-monic
generator-monic B = crc24b-monic

pub checks-true : (kind : CheckKind) (bits : List Bit) → check_holds kind bits ≡ true → IsMultiple (generator kind) bits
checks-true kind bits e = (multiple-remainder (generator kind) bits (generator-monic kind)).1 (eqb-true (remainder (generator kind) 0 bits) 0 e)

pub checks-false : (kind : CheckKind) (bits : List Bit) → check_holds kind bits ≡ false → IsMultiple (generator kind) bits → ⊥
checks-false kind bits e m = eqb-false (remainder (generator kind) 0 bits) 0 e ((multiple-remainder (generator kind) bits (generator-monic kind)).0 m)

pub decoded-is : (soft : SoftStreams) (shape : Shape) → 1 ≤ shape.limit → IsDecoded soft shape (code_result soft shape)
unfolding code_result
decoded-is soft shape some_limit =
    let test : ℕ → Bool = λ n. check_holds shape.kind (decided_in soft shape n) in
    elim (first test 1 shape.limit) [
      | inr found ↦ (
          let is : result_of soft shape (passing_iteration soft shape) ≡ result_in soft shape found.at true = ap (result_of soft shape) found.is in
          let high = found.high in
          subst (IsDecoded soft shape) (sym is) (record {
            fill = refl;
            bits = refl;
            from_one = found.low;
            to_limit = omega (arith, high);
            passed = (λ t. checks-true shape.kind (decided_in soft shape found.at) found.passes, λ m. refl);
            first = λ n le lt. checks-false shape.kind (decided_in soft shape n) (found.before n le lt);
            last = λ h. absurd (not_false h);
          }))
      | inl none ↦ (
          let is : result_of soft shape (passing_iteration soft shape) ≡ result_in soft shape shape.limit false = ap (result_of soft shape) none.is in
          subst (IsDecoded soft shape) (sym is) (record {
            fill = refl;
            bits = refl;
            from_one = some_limit;
            to_limit = omega arith;
            passed = (
              λ t. absurd (not_true t),
              λ m. absurd (checks-false shape.kind (decided_in soft shape shape.limit) (none.all shape.limit some_limit (omega arith)) m),
            );
            first = λ n le lt. checks-false shape.kind (decided_in soft shape n) (none.all n le (omega (arith, lt)));
            last = λ h. refl;
          }))
    ]
  where
    not_false : true ≡ false → ⊥
    not_false h = cc

    not_true : false ≡ true → ⊥
    not_true h = cc

-- two results of one decoding are equal

by_order : (soft : SoftStreams) (shape : Shape) (r q : CodeResult) → IsDecoded soft shape r → IsDecoded soft shape q → r.iterations < q.iterations → ⊥
by_order soft shape r q h k lt = by_passed r.passed refl
  where
    by_passed : (b : Bool) → r.passed ≡ b → ⊥
    by_passed true e = k.first r.iterations h.from_one lt (subst (IsMultiple (generator shape.kind)) h.bits (h.passed.0 e))
    by_passed false e = let l = h.last e in let m = k.to_limit in omega (arith, l, m, lt)

same_count : (soft : SoftStreams) (shape : Shape) (r q : CodeResult) → IsDecoded soft shape r → IsDecoded soft shape q → r.iterations ≡ q.iterations
same_count soft shape r q h k =
    elim (cases_lt r.iterations q.iterations) [
      | inl lt ↦ absurd (by_order soft shape r q h k lt)
      | inr le ↦ elim (cases_lt q.iterations r.iterations) [ inl lt ↦ absurd (by_order soft shape q r k h lt) | inr ge ↦ omega (arith, le, ge) ]
    ]

same_bool : (a b : Bool) → (a ≡ true → b ≡ true) → (b ≡ true → a ≡ true) → a ≡ b
same_bool true b to back = sym (to refl)
same_bool false true to back = back refl
same_bool false false to back = refl

same_result : (r q : CodeResult) → r.block.fill ≡ q.block.fill → r.block.bits ≡ q.block.bits → r.iterations ≡ q.iterations → r.passed ≡ q.passed → r ≡ q
same_result r q e f n p =
    ap (λ (x : ℕ). let c : CodeResult = record { block = record { fill = x; bits = r.block.bits }; iterations = r.iterations; passed = r.passed } in c) e
    ∙ (ap (λ (x : List Bit). let c : CodeResult = record { block = record { fill = q.block.fill; bits = x }; iterations = r.iterations; passed = r.passed } in c) f
    ∙ (ap (λ (x : ℕ). let c : CodeResult = record { block = record { fill = q.block.fill; bits = q.block.bits }; iterations = x; passed = r.passed } in c) n
    ∙ ap (λ (x : Bool). let c : CodeResult = record { block = record { fill = q.block.fill; bits = q.block.bits }; iterations = q.iterations; passed = x } in c) p))

pub decoded_once : (soft : SoftStreams) (shape : Shape) (r q : CodeResult) → IsDecoded soft shape r → IsDecoded soft shape q → r ≡ q
decoded_once soft shape r q h k =
    let n : r.iterations ≡ q.iterations = same_count soft shape r q h k in
    let bits : r.block.bits ≡ q.block.bits = h.bits ∙ (ap (decided_in soft shape) n ∙ sym k.bits) in
    same_result r q (h.fill ∙ sym k.fill) bits n
    (same_bool r.passed q.passed
    (λ e. k.passed.1 (subst (IsMultiple (generator shape.kind)) bits (h.passed.0 e)))
    (λ e. h.passed.1 (subst (IsMultiple (generator shape.kind)) (sym bits) (k.passed.0 e))))
