-- How far a run that reads one block at a time may have read when memory runs out.
use Rattle.std.proofs.Common.{◌≡◌, ℕ, ◌+◌, ◌<◌, ◌≤◌, [], length, take, sym, subst, nat_lt, ◌&&◌, if◌then◌else◌, arith}
use Rattle.run_loop.specs.Answer.{Answer, size_of}
use Rattle.run_loop.specs.Due.{IsWithin}

pub within_next : (a : Answer) (n : ℕ) → a.ahead ≡ 1 → n ≤ size_of (take 1 a.parts) → (a.parts ≡ [] → 0 < a.due) → IsWithin a n
within_next a n one few some =
    let P : ℕ → Type 0 = λ k. n ≤ size_of (take k a.parts) + (if nat_lt 1 k && nat_lt (length a.parts) k then a.tail else 0) in
    (subst P (sym one) (omega (arith, few)), some)
