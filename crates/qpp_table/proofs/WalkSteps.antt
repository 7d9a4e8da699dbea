-- From a place of an order to the next by additions.
use Rattle.std.proofs.Common.{◌≡◌, ℕ, ◌+◌, ◌*◌, ◌%◌, sym, ap, ◌∙◌, arith}
use Rattle.std.proofs.Math.Nat.{add-mod}
use Rattle.model_sender.specs.Interleaver.{pi}

pub place_more : (k f1 f2 i p s q : ℕ) → p ≡ pi k f1 f2 i → s ≡ (f1 + f2 * (2 * i + 1)) % k → q ≡ (p + s) % k → q ≡ pi k f1 f2 (i + 1)
place_more k f1 f2 i p s q ep es eq =
    eq ∙ (ap (λ n. (n + s) % k) ep ∙ (ap (λ n. (pi k f1 f2 i + n) % k) es ∙ (sym (add-mod (f1 * i + f2 * i * i) (f1 + f2 * (2 * i + 1)) k)
    ∙ ap (λ n. n % k) (let e : f1 * i + f2 * i * i + (f1 + f2 * (2 * i + 1)) ≡ f1 * (i + 1) + f2 * (i + 1) * (i + 1) = omega arith in e))))

pub step_more : (k f1 f2 i s g t : ℕ) → s ≡ (f1 + f2 * (2 * i + 1)) % k → g ≡ 2 * f2 % k → t ≡ (s + g) % k → t ≡ (f1 + f2 * (2 * (i + 1) + 1)) % k
step_more k f1 f2 i s g t es eg et =
    et ∙ (ap (λ n. (n + g) % k) es ∙ (ap (λ n. ((f1 + f2 * (2 * i + 1)) % k + n) % k) eg ∙ (sym (add-mod (f1 + f2 * (2 * i + 1)) (2 * f2) k)
    ∙ ap (λ n. n % k) (let e : f1 + f2 * (2 * i + 1) + 2 * f2 ≡ f1 + f2 * (2 * (i + 1) + 1) = omega arith in e))))
