-- Counts over one block more.
use Rattle.std.proofs.Common.{◌≡◌, ℕ, ◌+◌, List, ◌∷◌, refl, arith}
use Rattle.std.proofs.lemmas.Grind.{common_steps}
use Rattle.model_sender.proofs.RangeSums.{sum_by-range_more}
use Rattle.rate_match.specs.declared.sends.Sending.{Sending}
use Rattle.block_receive.specs.Receptions.{value_count}
use Rattle.command_trial.specs.Trials.{Trial, added, block_counts, counted, none_counted}
use Rattle.command_trial.specs.declared.counts.Counts.{Counts}

pub value_count-cons : (s : Sending) (sends : List Sending) → value_count (s ∷ sends) ≡ s.m.g + value_count sends
value_count-cons s sends = grind (arith, common_steps)

same_counts : (a b c d e v w x y z : ℕ) → a ≡ v → b ≡ w → c ≡ x → d ≡ y → e ≡ z →
    (let one : Counts = record { delivered = a; matched = b; failed = c; transmissions = d; iterations = e } in one)
    ≡ record { delivered = v; matched = w; failed = x; transmissions = y; iterations = z }
same_counts a b c d e v w x y z p q r s t i = record { delivered = p i; matched = q i; failed = r i; transmissions = s i; iterations = t i }

pub counted-more : (t : Trial) (n : ℕ) → counted t (n + 1) ≡ added (counted t n) (block_counts t n)
unfolding counted
counted-more t n =
    same_counts _ _ _ _ _ _ _ _ _ _
    (sum_by-range_more (λ b. (block_counts t b).delivered) n)
    (sum_by-range_more (λ b. (block_counts t b).matched) n)
    (sum_by-range_more (λ b. (block_counts t b).failed) n)
    (sum_by-range_more (λ b. (block_counts t b).transmissions) n)
    (sum_by-range_more (λ b. (block_counts t b).iterations) n)

pub counted-none : (t : Trial) → none_counted ≡ counted t 0
unfolding counted
counted-none t = refl
