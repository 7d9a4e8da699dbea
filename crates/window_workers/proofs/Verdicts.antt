-- Whether a decoding ends with a half.
use Rattle.std.proofs.Common.{◌≡◌, ℕ, suc, ◌+◌, ◌-◌, ◌*◌, ◌%◌, ◌/◌, ◌<◌, ◌≤◌, Bool, true, List, refl, sym, ap, ◌∙◌, subst, arith, inl, inr}
use Rattle.std.specs.Prelude.{◌↔◌, IsTrue, IsFalse}
use Rattle.std.proofs.lemmas.Bool.{cases_eq}
use Rattle.lte_bits.specs.declared.bit.Bit.{Bit}
use Rattle.model_sender.specs.CheckBits.{IsMultiple}
use Rattle.model_receiver.specs.declared.result.CheckKind.{CheckKind}
use Rattle.model_receiver.specs.Windows.{Extrinsic}
use Rattle.model_receiver.specs.Decoding.{before, decided_bits, decided_in, generator}
use Rattle.model_receiver.proofs.DecodedOnce.{decoded-is, decoded_once}
use Rattle.half_iteration.proofs.Stopping.{result_with}
use Rattle.window_workers.specs.declared.job.DecodingJob.{DecodingJob}
use Rattle.window_workers.specs.declared.common.Progress.{Progress}
use Rattle.window_workers.specs.Jobs.{IsJob, before_half}
use Rattle.window_workers.specs.Commons.{IsProgress, IsResultAt, NoneChecked}

-- no iteration ends with an even half
pub even-undecided : (job : DecodingJob) (h : ℕ) (p : Progress) → h % 2 ≡ 0 → IsProgress job h h p → IsProgress job h (suc h) p
even-undecided job h p even was = record {
  shape = was.shape;
  interleaver = was.interleaver;
  even_tail = was.even_tail;
  odd_tail = was.odd_tail;
  bits = was.bits;
  left = was.left;
  within = within job.shape.limit was.within;
  none_checked = λ m some lt. was.none_checked m some (earlier m some lt);
}
  where
    within : (limit : ℕ) → h < 2 * limit → suc h < 2 * limit
    within limit lt = omega (arith, even, lt)

    earlier : (m : ℕ) → 1 ≤ m → 2 * m - 1 < suc h → 2 * m - 1 < h
    earlier m some lt = omega (arith, even, some, lt)

-- the iteration of an odd half
pub odd-half : (h n : ℕ) → h % 2 ≡ 1 → n ≡ (h + 1) / 2 → h ≡ 2 * n - 1
odd-half h n odd e = omega (arith, odd, e)

pub some-iteration : (h n : ℕ) → h % 2 ≡ 1 → n ≡ (h + 1) / 2 → 1 ≤ n
some-iteration h n odd e = omega (arith, odd, e)

-- the decided bits of its iteration
pub bits-of_half : (job : DecodingJob) (h n : ℕ) (cells : List Extrinsic) → h ≡ 2 * n - 1 → cells ≡ (before_half job (suc h)).cells
    → decided_bits job.shape.f cells ≡ decided_in job.streams job.shape n
bits-of_half job h n cells eh e =
    ap (decided_bits job.shape.f) e ∙ ap (λ (g : ℕ). decided_bits job.shape.f (before job.streams job.shape (suc g)).cells) eh

pub checked-bits : (job : DecodingJob) (h n fill : ℕ) (cells : List Extrinsic) (bits : List Bit) → fill ≡ job.shape.f → h ≡ 2 * n - 1
    → cells ≡ (before_half job (suc h)).cells → bits ≡ decided_bits fill cells → bits ≡ decided_in job.streams job.shape n
checked-bits job h n fill cells bits ef eh ec eb = eb ∙ (ap (λ (f : ℕ). decided_bits f cells) ef ∙ bits-of_half job h n cells eh ec)

pub fails-of : (job : DecodingJob) (n : ℕ) (kind : CheckKind) (bits : List Bit) (passed : Bool) → kind ≡ job.shape.kind → bits ≡ decided_in job.streams job.shape n
    → IsTrue passed ↔ IsMultiple (generator kind) bits → (passed ≡ true → ⊥) → IsMultiple (generator job.shape.kind) (decided_in job.streams job.shape n) → ⊥
fails-of job n kind bits passed ek eb check differs holds =
    differs (check.1 (subst (λ (k : CheckKind). IsMultiple (generator k) bits) (sym ek) (subst (IsMultiple (generator job.shape.kind)) (sym eb) holds)))

-- one more iteration whose check doesn't hold
pub none_checked-more : (job : DecodingJob) (h n : ℕ) → h ≡ 2 * n - 1 → 1 ≤ n → NoneChecked job h
    → (IsMultiple (generator job.shape.kind) (decided_in job.streams job.shape n) → ⊥) → NoneChecked job (suc h)
none_checked-more job h n eh one none fails m some lt holds =
    elim (cases_eq m n) [
      | inl e ↦ fails (subst (λ (k : ℕ). IsMultiple (generator job.shape.kind) (decided_in job.streams job.shape k)) e holds)
      | inr ne ↦ none m some (omega (arith, eh, one, some, lt, ne)) holds
    ]

-- the result of the iteration of an odd half
pub result-of_half : (job : DecodingJob) (h n : ℕ) (bits : List Bit) (passed : Bool) → IsJob job → h ≡ 2 * n - 1 → 1 ≤ n → h < 2 * job.shape.limit
    → NoneChecked job h → bits ≡ decided_in job.streams job.shape n → IsTrue passed ↔ IsMultiple (generator job.shape.kind) bits
    → (IsFalse passed → job.shape.limit ≤ n) → IsResultAt job h (result_with job.shape.f bits n passed)
result-of_half job h n bits passed lawful eh one within none eb check last = (
  eh,
  one,
  decoded_once job.streams job.shape _ _ (record {
    fill = refl;
    bits = eb;
    from_one = one;
    to_limit = few;
    passed = check;
    first = λ m some lt. none m some (omega (arith, eh, one, some, lt));
    last = λ failed. let most = last failed in omega (arith, most, few);
  }) (decoded-is job.streams job.shape lawful.shape.some_iterations),
)
  where
    few : n ≤ job.shape.limit
    few = omega (arith, eh, one, within)
