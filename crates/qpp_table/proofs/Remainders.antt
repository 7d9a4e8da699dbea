-- Powers and values by products and sums of remainders.
use Rattle.std.proofs.Common.{◌≡◌, ℕ, ◌+◌, ◌*◌, ◌%◌, ◌^◌, suc, sym, ap, ◌∙◌, arith}
use Rattle.std.proofs.lemmas.Nat.{mul-mod_first, mul-mod_second}
use Rattle.std.proofs.Math.Nat.{add-mod, pow-suc, pow-zero}
use Rattle.model_sender.specs.Interleaver.{pi}

-- one factor more
one_more : (f n x : ℕ) → f ^ n ≡ x → f ^ suc n ≡ x * f
one_more f n x e = pow-suc f n ∙ ap (λ y. y * f) e

seven : (f : ℕ) → f ^ 7 ≡ f * f * (f * f) * (f * f) * f
seven f =
    one_more f 6 _ (one_more f 5 _ (one_more f 4 _ (one_more f 3 _ (one_more f 2 _ (one_more f 1 _ (one_more f 0 _ (pow-zero f)))))))
    ∙ (let e : 1 * f * f * f * f * f * f * f ≡ f * f * (f * f) * (f * f) * f = omega arith in e)

-- the product of two remainders is that of the numbers
product : (k a b x y r : ℕ) → a ≡ x % k → b ≡ y % k → r ≡ a * b % k → r ≡ x * y % k
product k a b x y r ea eb er =
    er ∙ (ap (λ n. n * b % k) ea ∙ (mul-mod_first x b k ∙ (ap (λ n. x * n % k) eb ∙ mul-mod_second x y k)))

pub seventh_power : (k f square fourth sixth last : ℕ) → square ≡ f * f % k → fourth ≡ square * square % k → sixth ≡ fourth * square % k
    → last ≡ sixth * f % k → last ≡ f ^ 7 % k
seventh_power k f square fourth sixth last e2 e4 e6 e7 =
    let f4 : fourth ≡ f * f * (f * f) % k = product k square square (f * f) (f * f) fourth e2 e2 e4 in
    let f6 : sixth ≡ f * f * (f * f) * (f * f) % k = product k fourth square (f * f * (f * f)) (f * f) sixth f4 e2 e6 in
    e7 ∙ (ap (λ n. n * f % k) f6 ∙ (mul-mod_first (f * f * (f * f) * (f * f)) f k ∙ ap (λ n. n % k) (sym (seven f))))

-- the value of place i from its two terms
pub value_from_terms : (k f1 f2 i linear once square : ℕ) → linear ≡ f1 * i % k → once ≡ f2 * i % k → square ≡ once * i % k
    → (linear + square) % k ≡ pi k f1 f2 i
value_from_terms k f1 f2 i linear once square el eo es =
    ap (λ n. (n + square) % k) el
    ∙ (ap (λ n. (f1 * i % k + n) % k) (es ∙ (ap (λ n. n * i % k) eo ∙ mul-mod_first (f2 * i) i k))
    ∙ sym (add-mod (f1 * i) (f2 * i * i) k))
